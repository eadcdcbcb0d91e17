-- One step of the queue over the work words: what it names, what it leaves of the queue, and that the buckets stay small.
use mathlib.Core.Path.{◌≡◌, refl, sym, ap, ap₂, ◌∙◌, subst}
use mathlib.Core.Logic.{◌≢◌, ◌⊎◌, inl, inr}
use mathlib.Core.List.{List, [], ◌∷◌, ◌++◌, map}
use Prim.Native.Nat.{ℕ, zero, suc, ◌+◌, ◌*◌, ◌-◌, ◌%◌, ◌^◌, ◌≤◌, ◌<◌}
use native.Mathlib.Omega.{arith}
use lib.Pow.{pow_pos}
use Rattle.std.proofs.Math.Nat.{pow-succ'}
use lib.ListN.{length, get_or, set, take, drop, length-map}
use lib.Seq.{get_or-drop}
use lib.IntN.{ℤ}
use Rattle.rules.specs.Lists.{insert, total}
use Rattle.rules.specs.Digits.{top_bit}
use Rattle.rules.specs.Records.{Entry}
use Rattle.rules.specs.Totalizer.{Arena, merge}
use Rattle.rules.specs.Build.{largest}
use Rattle.rules.specs.Queue.{heavier, run, others, requeue, queue_step}
use Rattle.laws.specs.Lists.Facts.{All, All_map, All_make, length_total}
use Rattle.laws.specs.Lists.Sorts.{Ordered, ordered_insert}
use Rattle.laws.specs.Numbers.Powers.{top_bit_least, top_bit_below}
use Rattle.laws.specs.Queue.Runs.{heavier_order, largest_all, all_largest, others_less, requeue_all, run_some}
use Rattle.laws.specs.Queue.Loads.{load, load_step, nodes_of}
use Rattle.records.specs.Carries.{Held, ended, St, st, Steps, Makes, on_records, with_records}
use Rattle.records.proofs.Grow.{le_or}
use Rattle.records.proofs.Step.{makes_steps, makes_full}
use Rattle.build_line.specs.Work.{line, line_from, count_at, members_at, members_from}
use Rattle.build_queue.specs.Queued.{put_member, sorting, Queued, Kept}
use Rattle.build_queue.proofs.Fronts.{Run, found_run, line_none, line_nodes, line_split, ordered_second}
use Rattle.build_queue.proofs.Members.{members_length, members_get, members_beyond, count_few, put_line, put_members, put_long, put_word_other}

-- The weight that is left ---------------------------------------------------------------------------------------------------

-- the power that the weight lies at or above, below its double, is that of its top bit
pub top_is : (w k : ℕ) → 2 ^ k ≤ w → w < 2 * 2 ^ k → k ≡ top_bit w
top_is w k h i =
    let least : k ≤ top_bit w = top_bit_least k w h in
    let below : top_bit w < suc k = top_bit_below (suc k) w (omega (arith, pow_pos k)) (omega (arith, pow-succ' 2 k)) in
    omega arith

-- 2 to that power, as it is shifted
pub top_left : (w k : ℕ) → w < 4294967296 → 2 ^ k ≤ w → w < 2 * 2 ^ k → w - 1 * 2 ^ k % 4294967296 ≡ w - 2 ^ top_bit w
top_left w k f h i =
    let small : 1 * 2 ^ k % 4294967296 ≡ 2 ^ k = omega arith in
    ap (λ (p : ℕ). w - p) (small ∙ ap (λ (k : ℕ). 2 ^ k) (top_is w k h i))

pub requeue_none : (es : List Entry) (n w : ℕ) → w ≡ 0 → es ≡ requeue es n w
unfolding requeue
requeue_none es n zero e = refl
requeue_none es n (suc w) e = absurd (omega arith)

pub requeue_some : (es : List Entry) (n w : ℕ) → w ≢ 0 → insert heavier es (record { node = n; weight = w }) ≡ requeue es n w
unfolding requeue
requeue_some es n zero e = absurd (e refl)
requeue_some es n (suc w) e = refl

ordered_requeue : (es : List Entry) (n w : ℕ) → Ordered heavier es → Ordered heavier (requeue es n w)
unfolding requeue
ordered_requeue es n zero h = h
ordered_requeue es n (suc w) h = ordered_insert heavier heavier_order es (record { node = n; weight = suc w }) h

-- what is left is lighter, whatever its node
requeue_less : (es : List Entry) (n w : ℕ) → 1 ≤ w → largest es ≡ w → largest (requeue (others w es) n (w - 2 ^ top_bit w)) < w
requeue_less es n w p h =
    let left : List Entry = requeue (others w es) n (w - 2 ^ top_bit w) in
    let lows : All (λ e. e.weight < w) left =
    requeue_all (λ e. e.weight < w) (others w es) n (w - 2 ^ top_bit w)
    (others_less w es (largest_all es w (omega arith))) (λ k. omega (arith, pow_pos (top_bit w))) in
    let most : largest left ≤ w - 1 = all_largest left (w - 1) (All_map (λ e (k : e.weight < w). omega arith) left lows) in
    omega arith

-- Members and entries that reach a power ----------------------------------------------------------------------------------------

pub queued_count : (ws : List ℕ) (h k : ℕ) → Queued ws h → k < 20 → count_at ws k ≤ 256
unfolding load
queued_count ws h k q i =
    let z : 0 + k ≡ k = omega arith in
    let here : get_or (members_from ws 0 20) k [] ≡ members_at ws k = members_get ws 0 20 k i ∙ ap (members_at ws) z in
    let many : length (members_at ws k) ≡ total (map (λ (m : ℕ). 1) (get_or (members_from ws 0 20) k []))
    = ap length (sym here) ∙ length_total (get_or (members_from ws 0 20) k []) in
    count_few ws k i q.long (omega (arith, many, q.few k))

-- the queue is not empty
pub some_head : (ws : List ℕ) (h : ℕ) → 1 ≤ largest (line ws h) → h < 512
unfolding largest
some_head ws h p = go (le_or 512 h)
  where
    go : (512 ≤ h) ⊎ (512 ≤ h → ⊥) → h < 512
    go (inl i) = absurd (omega (arith, p, ap largest (line_none ws h i)))
    go (inr i) = omega arith

pub top_inside : (ws : List ℕ) (h w : ℕ) → Queued ws h → 1 ≤ w → w ≡ largest (line ws h) → top_bit w < 20
top_inside ws h w q p e = top_bit_below 20 w p (omega (arith, q.low))

-- there is room for one member more
pub member_room : (ws : List ℕ) (h w k : ℕ) → Queued ws h → 1 ≤ largest (line ws h) → w ≡ largest (line ws h) → k ≡ top_bit w →
    (k < 20) × (count_at ws k < 512)
member_room ws h w k q p e f =
    let i : k < 20 = omega (arith, f, top_inside ws h w q (omega arith) e) in
    (i, omega (arith, queued_count ws h k q i))

-- The step ------------------------------------------------------------------------------------------------------------------------

-- what a step of weight w leaves
pub record Stepped (vs ws : List ℕ) (h g node w : ℕ) : Type 0 where
  pub members : (n : ℕ) → n ≤ 20 → w < 2 ^ n →
      members_from ws 0 n ≡ set (members_from vs 0 n) (top_bit w) (get_or (members_from vs 0 n) (top_bit w) [] ++ (node ∷ []))
  pub queue : line ws g ≡ requeue (others w (line vs h)) node (w - 2 ^ top_bit w)
  pub queued : Queued ws g
  pub less : largest (line ws g) < w
  pub kept : Kept w vs ws

module _ (vs xs ys : List ℕ) (h e g k node w left : ℕ) (q : Queued vs h) (p : 1 ≤ w) (is : w ≡ largest (line vs h)) (r : Run vs h e w)
    (top : k ≡ top_bit w) (put : xs ≡ put_member vs k node) (rest : left ≡ w - 2 ^ top_bit w)
    (back : line ys g ≡ requeue (line xs e) node left) (head : g ≤ e) (long : length ys ≡ length xs) (beyond : drop 1024 ys ≡ drop 1024 xs) where
  few : (i : ℕ) → i < 20 → count_at vs i < 512
  few i j = omega (arith, queued_count vs h i q j)

  in_top : top_bit w < 20
  in_top = top_inside vs h w q p is

  put_is : xs ≡ put_member vs (top_bit w) node
  put_is = put ∙ ap (λ (k : ℕ). put_member vs k node) top

  members_now : (n : ℕ) → n ≤ 20 → w < 2 ^ n →
      members_from ys 0 n ≡ set (members_from vs 0 n) (top_bit w) (get_or (members_from vs 0 n) (top_bit w) [] ++ (node ∷ []))
  members_now n i j =
      members_beyond ys xs 0 n beyond ∙
      (ap (λ (l : List ℕ). members_from l 0 n) put_is ∙
      put_members vs (top_bit w) node in_top q.long few n (top_bit_below n w p j) i)

  queue_now : line ys g ≡ requeue (others w (line vs h)) node (w - 2 ^ top_bit w)
  queue_now =
      back ∙ ap₂ (λ (l : List Entry) (x : ℕ). requeue l node x)
      (ap (λ (l : List ℕ). line l e) put_is ∙ (put_line vs (top_bit w) node in_top q.long few e ∙ r.kept)) rest

  less_now : largest (line ys g) < w
  less_now = subst (λ (l : List Entry). largest l < w) (sym queue_now) (requeue_less (line vs h) node w p (sym is))

  length_now : length ys ≡ length vs
  length_now = long ∙ (ap length put_is ∙ put_long vs (top_bit w) node in_top q.long few)

  sorted_now : Ordered heavier (line ys g)
  sorted_now =
      subst (Ordered heavier) (sym queue_now)
      (ordered_requeue (others w (line vs h)) node (w - 2 ^ top_bit w)
      (subst (Ordered heavier) r.kept
      (ordered_second (line_from vs h (e - h)) (line vs e)
      (subst (Ordered heavier) (line_split vs h e (omega (arith, r.after)) r.within) q.sorted))))

  few_now : (i : ℕ) → load (λ m. 1) i (members_from ys 0 20) (line ys g) ≤ 256
  few_now i =
      let some : 1 ≤ total (map (λ (m : ℕ). 1) (nodes_of (run w (line vs h)))) =
      omega (arith, run_some (line vs h) w p (sym is), length_total (nodes_of (run w (line vs h))), length-map (run w (line vs h)) (λ (e : Entry). e.node)) in
      let less : load (λ m. 1) i (set (members_from vs 0 20) (top_bit w) (get_or (members_from vs 0 20) (top_bit w) [] ++ (node ∷ [])))
      (requeue (others w (line vs h)) node (w - 2 ^ top_bit w)) ≤ load (λ m. 1) i (members_from vs 0 20) (line vs h) =
      load_step (λ m. 1) (λ m. 1) (members_from vs 0 20) (line vs h) w node p (omega (arith, in_top, members_length vs 0 20))
      (All_make (λ ms. All (λ x. ◌≡◌ {A = ℕ} 1 1) ms) (λ ms. All_make (λ x. ◌≡◌ {A = ℕ} 1 1) (λ x. refl) ms) (members_from vs 0 20))
      (All_make (λ e. ◌≡◌ {A = ℕ} 1 1) (λ x. refl) (line vs h)) some i in
      let same : load (λ m. 1) i (members_from ys 0 20) (line ys g) ≡
      load (λ m. 1) i (set (members_from vs 0 20) (top_bit w) (get_or (members_from vs 0 20) (top_bit w) [] ++ (node ∷ [])))
      (requeue (others w (line vs h)) node (w - 2 ^ top_bit w)) =
      ap₂ (load (λ m. 1) i) (members_now 20 (omega arith) (omega (arith, q.low))) queue_now in
      omega (arith, same, less, q.few i)

  kept_now : Kept w vs ys
  kept_now = record {
    long = length_now;
    words = λ n i a b d f.
        let under : top_bit w < n = top_bit_below n w p a in
        let j : i ≡ 1024 + (i - 1024) = omega arith in
        ap (λ (i : ℕ). get_or ys i 0) j ∙
        (sym (get_or-drop 1024 ys (i - 1024) 0) ∙
        (ap (λ (l : List ℕ). get_or l (i - 1024) 0) beyond ∙
        (get_or-drop 1024 xs (i - 1024) 0 ∙
        (ap (λ (i : ℕ). get_or xs i 0) (sym j) ∙
        (ap (λ (l : List ℕ). get_or l i 0) put_is ∙
        put_word_other vs (top_bit w) node in_top q.long few i d (λ z. let y : 2048 + n ≤ i = f (omega arith) in omega arith))))));
  }

  pub stepped : Stepped vs ys h g node w
  stepped = record {
    members = members_now;
    queue = queue_now;
    queued = record {
      long = omega (arith, length_now, q.long);
      head = omega (arith, head, r.within);
      sorted = sorted_now;
      low = omega (arith, less_now, is, q.low);
      few = few_now;
    };
    less = less_now;
    kept = kept_now;
  }

-- What is made of what was made ----------------------------------------------------------------------------------------------------

pub makes_out : {X Y : Type 0} (σ τ : St) (x : X) (f : Arena → Arena × X) (out : X → Y) → Makes σ τ x f → Makes σ τ (out x) (λ t. ((f t).0, out (f t).1))
makes_out σ τ x f out p = record { go = λ e t h. let a = p.go e t h in (a.0, λ q. ap out (a.1 q)) }

-- the nodes of the run merged, and the step is made
pub step_makes : (σ τ : St) (vs ws : List ℕ) (h e g node w n : ℕ) → n ≤ 20 → w < 2 ^ n → Queued vs h → Run vs h e w → Stepped vs ws h g node w →
    Makes σ τ node (on_records (λ rs. merge rs (take (e - h) (drop h vs)))) →
    Makes σ τ (members_from ws 0 n, line ws g) (sorting (queue_step w) (members_from vs 0 n, line vs h))
unfolding sorting queue_step on_records with_records
step_makes σ τ vs ws h e g node w n i j q r s p =
    let nodes : take (e - h) (drop h vs) ≡ map (λ (e : Entry). e.node) (run w (line vs h))
    = line_nodes vs h (e - h) (omega (arith, r.after, r.within, q.long)) ∙ ap (map (λ (e : Entry). e.node)) r.taken in
    let out : ℕ → List (List ℕ) × List Entry = λ m. (
      set (members_from vs 0 n) (top_bit w) (get_or (members_from vs 0 n) (top_bit w) [] ++ (m ∷ [])),
      requeue (others w (line vs h)) m (w - 2 ^ top_bit w),
    ) in
    let named : Makes σ τ (out node) (sorting (queue_step w) (members_from vs 0 n, line vs h)) =
    makes_out σ τ node (on_records (λ rs. merge rs (map (λ (e : Entry). e.node) (run w (line vs h))))) out
    (subst (λ (l : List ℕ). Makes σ τ node (on_records (λ rs. merge rs l))) nodes p) in
    subst (λ (x : List (List ℕ) × List Entry). Makes σ τ x (sorting (queue_step w) (members_from vs 0 n, line vs h)))
    (ap₂ (λ (a : List (List ℕ)) (b : List Entry). (a, b)) (sym (s.members n i j)) (sym s.queue)) named

-- the whole step, as it is promised
pub step_done : (s s' : List ℕ) (m m' : Held) (vs xs ys : List ℕ) (h e g k node w left : ℕ) → Queued vs h → 1 ≤ largest (line vs h) → w ≡ largest (line vs h) →
    (h < e) × (e ≤ 512) × (line_from vs h (e - h) ≡ run (largest (line vs h)) (line vs h)) × (line vs e ≡ others (largest (line vs h)) (line vs h)) →
    k ≡ top_bit w → xs ≡ put_member vs k node → left ≡ w - 2 ^ top_bit w →
    (g ≤ e) × (line ys g ≡ requeue (line xs e) node left) × (length ys ≡ length xs) × (drop 1024 ys ≡ drop 1024 xs) →
    ((c : List ℤ) → Makes (st s c m) (st s' c m') node (on_records (λ rs. merge rs (take (e - h) (drop h vs))))) →
    ((c : List ℤ) (n : ℕ) → n ≤ 20 → largest (line vs h) < 2 ^ n →
    Makes (st s c m) (st s' c m') (members_from ys 0 n, line ys g) (sorting (queue_step (largest (line vs h))) (members_from vs 0 n, line vs h))) ×
    Kept (largest (line vs h)) vs ys × Queued ys g × (largest (line ys g) < largest (line vs h))
step_done s s' m m' vs xs ys h e g k node w left q p is r top put rest b made =
    let run_is : Run vs h e (largest (line vs h)) = found_run vs h e (largest (line vs h)) refl r in
    let all : Stepped vs ys h g node (largest (line vs h)) =
    stepped vs xs ys h e g k node (largest (line vs h)) left q p refl run_is (top ∙ ap top_bit is) put (rest ∙ ap (λ (w : ℕ). w - 2 ^ top_bit w) is)
    b.1 b.0 b.2 b.3 in
    (λ c n i j. step_makes (st s c m) (st s' c m') vs ys h e g node (largest (line vs h)) n i j q run_is all (made c), all.kept, all.queued, all.less)

-- the room ended in the merge
pub step_ended : (s s' : List ℕ) (m : Held) (vs : List ℕ) (h e g node : ℕ) → Queued vs h →
    (h < e) × (e ≤ 512) × (line_from vs h (e - h) ≡ run (largest (line vs h)) (line vs h)) × (line vs e ≡ others (largest (line vs h)) (line vs h)) →
    ((c : List ℤ) → Makes (st s c m) (st s' c ended) node (on_records (λ rs. merge rs (take (e - h) (drop h vs))))) → (c : List ℤ) (n : ℕ) →
    Makes (st s c m) (st s' c ended) (members_from vs 0 n, line vs g) (sorting (queue_step (largest (line vs h))) (members_from vs 0 n, line vs h))
unfolding sorting queue_step on_records with_records
step_ended s s' m vs h e g node q r made c n =
    let w : ℕ = largest (line vs h) in
    let found : Run vs h e w = found_run vs h e w refl r in
    let nodes : take (e - h) (drop h vs) ≡ map (λ (e : Entry). e.node) (run w (line vs h))
    = line_nodes vs h (e - h) (omega (arith, found.after, found.within, q.long)) ∙ ap (map (λ (e : Entry). e.node)) found.taken in
    makes_full (st s c m) (st s' c ended) (members_from vs 0 n, line vs g) (sorting (queue_step w) (members_from vs 0 n, line vs h)) refl
    (subst (λ (l : List ℕ). Steps (st s c m) (st s' c ended) (λ t. with_records t (merge t.records l).0)) nodes
    (makes_steps (st s c m) (st s' c ended) node (on_records (λ rs. merge rs (take (e - h) (drop h vs)))) (made c)))
