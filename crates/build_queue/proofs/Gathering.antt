-- The queue's run over the work words: growth, its turns, and buckets that no weight reaches.
use mathlib.Core.Path.{◌≡◌, refl, sym, ap, ◌∙◌, subst}
use mathlib.Core.Bool.{Bool, true, false}
use mathlib.Core.List.{List, [], ◌∷◌, ◌++◌, map}
use Prim.Native.Nat.{ℕ, zero, suc, ◌-◌, ◌^◌, ◌≤◌, ◌<◌}
use native.Mathlib.Omega.{arith}
use lib.Dec.{ltb}
use lib.ListN.{length, get_or, set, length-set, get_or-append}
use lib.Seq.{set-append_left}
use borrow.Author.Tests.{le-ltb, ltb-true, ltb-false}
use lib.IntN.{ℤ}
use Rattle.rules.specs.Digits.{top_bit}
use Rattle.rules.specs.Records.{Entry}
use Rattle.rules.specs.Totalizer.{Arena, merge}
use Rattle.rules.specs.Build.{largest}
use Rattle.rules.specs.Queue.{run, others, requeue, Sorting, queue_step, queue_run}
use Rattle.laws.specs.Numbers.Powers.{top_bit_below}
use Rattle.laws.specs.Queue.Runs.{step_less, run_stops, steps_keep}
use Rattle.records.specs.Carries.{Held, ended, St, st, Makes, on_records, with_records}
use Rattle.records.proofs.Grow.{Grows, grows_self, grows_trans}
use Rattle.records.proofs.Step.{makes_none, makes_same, Left, left_start, left_turn, left_end, left_full}
use Rattle.totalizer_merge.proofs.Merging.{merge_grows}
use Rattle.build_line.specs.Work.{line, members_from}
use Rattle.build_queue.specs.Queued.{sorting, Queued, Kept}

-- Growth --------------------------------------------------------------------------------------------------------------------------

-- a run of the queue only grows what is needed
pub queue_run_grows : (f d : ℕ) (x : List (List ℕ) × List Entry) (t : Arena) → Grows t (sorting (queue_run f d) x t).0
unfolding sorting queue_step on_records with_records
queue_run_grows f d x t =
    steps_keep (λ q. Grows t (with_records t q.records)) d
    (λ q g h. grows_trans t (with_records t q.records) (with_records t (queue_step (largest q.queue) q).records) g
    (merge_grows (map (λ (e : Entry). e.node) (run (largest q.queue) q.queue)) (with_records t q.records)))
    f (record { records = t.records; members = x.0; queue = x.1 }) (grows_self t)

-- Turns ---------------------------------------------------------------------------------------------------------------------------

-- one turn, then the others
run_first : (f d : ℕ) (q : Sorting) → queue_run (suc f) d q ≡ queue_run f d (queue_run 1 d q)
unfolding queue_run
run_first f d q = go (ltb (largest q.queue) d) refl
  where
    go : (b : Bool) → ltb (largest q.queue) d ≡ b →
        ◌≡◌ {A = Sorting} (elim b [ true ↦ q | false ↦ queue_run f d (queue_step (largest q.queue) q) ])
        (queue_run f d (elim b [ true ↦ q | false ↦ queue_step (largest q.queue) q ]))
    go true e = sym (run_stops d f q (ltb-true (largest q.queue) d e))
    go false e = refl

sorting_first : (f d : ℕ) (x : List (List ℕ) × List Entry) (t : Arena) →
    sorting (queue_run (suc f) d) x t ≡ sorting (queue_run f d) (sorting (queue_run 1 d) x t).1 (sorting (queue_run 1 d) x t).0
unfolding sorting with_records
sorting_first f d x t =
    ap (λ (q : Sorting). (with_records t q.records, (q.members, q.queue)))
    (run_first f d (record { records = t.records; members = x.0; queue = x.1 }))

-- where the largest weight reaches d one turn is a step
sorting_one : (d : ℕ) (x : List (List ℕ) × List Entry) (t : Arena) → d ≤ largest x.1 →
    sorting (queue_step (largest x.1)) x t ≡ sorting (queue_run 1 d) x t
unfolding sorting queue_run
sorting_one d x t h =
    ap (λ (b : Bool). let q : Sorting = record { records = t.records; members = x.0; queue = x.1 } in
    let r : Sorting = elim b [ true ↦ q | false ↦ queue_step (largest x.1) q ] in
    (with_records t r.records, (r.members, r.queue))) (sym (le-ltb (largest x.1) d h))

sorting_stops : (f d : ℕ) (x : List (List ℕ) × List Entry) (t : Arena) → largest x.1 < d → sorting (queue_run f d) x t ≡ (t, x)
unfolding sorting with_records
sorting_stops f d x t h =
    ap (λ (q : Sorting). (with_records t q.records, (q.members, q.queue)))
    (run_stops d f (record { records = t.records; members = x.0; queue = x.1 }) h)

-- what is left is done at once
left_done : {X Y : Type 0} (σ₀ σ τ : St) (x : X) (z : Y) (f : Arena → Arena × Y) (g : X → Arena → Arena × Y) →
    ((y : X) (t : Arena) → Grows t (g y t).0) → Makes σ τ z (g x) → Left σ₀ σ x f g → Makes σ₀ τ z f
left_done {X} {Y} σ₀ σ τ x z f g grows m l =
    left_end σ₀ τ z z f (λ (y : Y) t. (t, y)) (λ (y : Y). y) refl (λ y t. refl)
    (left_turn σ₀ σ τ x z f g (λ (y : Y) t. (t, y)) g grows m (λ y t. refl) l)

gather_turn : (σ₀ σ τ : St) (fuel d : ℕ) (x y : List (List ℕ) × List Entry) (f : Arena → Arena × (List (List ℕ) × List Entry)) →
    0 < fuel → d ≤ largest x.1 → Makes σ τ y (sorting (queue_step (largest x.1)) x) → Left σ₀ σ x f (sorting (queue_run fuel d)) →
    Left σ₀ τ y f (sorting (queue_run (fuel - 1) d))
gather_turn σ₀ σ τ fuel d x y f p h m l =
    let e : fuel ≡ suc (fuel - 1) = omega arith in
    left_turn σ₀ σ τ x y f (sorting (queue_run (suc (fuel - 1)) d)) (sorting (queue_run (fuel - 1) d)) (sorting (queue_run 1 d))
    (queue_run_grows 1 d)
    (makes_same σ τ y (sorting (queue_step (largest x.1)) x) (sorting (queue_run 1 d) x) (λ t. sorting_one d x t h) m)
    (sorting_first (fuel - 1) d)
    (subst (λ (k : ℕ). Left σ₀ σ x f (sorting (queue_run k d))) e l)

gather_stops : (σ₀ σ : St) (fuel d : ℕ) (x : List (List ℕ) × List Entry) (f : Arena → Arena × (List (List ℕ) × List Entry)) →
    largest x.1 < d → Left σ₀ σ x f (sorting (queue_run fuel d)) → Makes σ₀ σ x f
gather_stops σ₀ σ fuel d x f h l =
    left_done σ₀ σ σ x x f (sorting (queue_run fuel d)) (queue_run_grows fuel d)
    (makes_same σ σ x (λ t. (t, x)) (sorting (queue_run fuel d) x) (λ t. sym (sorting_stops fuel d x t h)) (makes_none σ x)) l

-- What is kept ----------------------------------------------------------------------------------------------------------------------

pub kept_none : (b : ℕ) (ws : List ℕ) → Kept b ws ws
kept_none b ws = record { long = refl; words = λ n i p q r s. refl }

pub kept_then : (b c : ℕ) (us vs ws : List ℕ) → c ≤ b → Kept b us vs → Kept c vs ws → Kept b us ws
kept_then b c us vs ws h p q = record {
  long = q.long ∙ p.long;
  words = λ n i j k l m. q.words n i (omega arith) k l m ∙ p.words n i j k l m;
}

-- The loop ---------------------------------------------------------------------------------------------------------------------------

-- on the way from the queue of vs at h to that of ws at g; the largest weight that waits is at most the fuel of the run that is left
pub record Going (s s' : List ℕ) (m m' : Held) (vs ws : List ℕ) (h g d : ℕ) : Type 0 where
  pub fuel : ℕ
  pub enough : largest (line ws g) ≤ fuel
  pub left : (c : List ℤ) (n : ℕ) → n ≤ 20 → largest (line vs h) < 2 ^ n →
      Left (st s c m) (st s' c m') (members_from ws 0 n, line ws g) (sorting (queue_run (largest (line vs h)) d) (members_from vs 0 n, line vs h))
      (sorting (queue_run fuel d))
  pub queued : Queued ws g
  pub low : largest (line ws g) ≤ largest (line vs h)
  pub kept : Kept (largest (line vs h)) vs ws

-- as it is promised
abbrev pub Gathered : List ℕ → List ℕ → Held → Held → List ℕ → List ℕ → ℕ → ℕ → ℕ → Type 0
Gathered s s' m m' vs ws h g d =
    ((c : List ℤ) (n : ℕ) → n ≤ 20 → largest (line vs h) < 2 ^ n →
    Makes (st s c m) (st s' c m') (members_from ws 0 n, line ws g) (sorting (queue_run (largest (line vs h)) d) (members_from vs 0 n, line vs h))) ×
    Kept (largest (line vs h)) vs ws × Queued ws g × (largest (line ws g) ≤ largest (line vs h))

pub going_start : (s : List ℕ) (m : Held) (vs : List ℕ) (h d : ℕ) → Queued vs h → Going s s m m vs vs h h d
going_start s m vs h d q = record {
  fuel = largest (line vs h);
  enough = omega arith;
  left = λ c n i j. left_start (st s c m) (members_from vs 0 n, line vs h) (sorting (queue_run (largest (line vs h)) d));
  queued = q;
  low = omega arith;
  kept = kept_none (largest (line vs h)) vs;
}

pub going_turn : (s s' s'' : List ℕ) (m m' m'' : Held) (vs ws xs : List ℕ) (h g f d w : ℕ) → 1 ≤ d → w ≡ largest (line ws g) → d ≤ w →
    ((c : List ℤ) (n : ℕ) → n ≤ 20 → largest (line ws g) < 2 ^ n →
    Makes (st s' c m') (st s'' c m'') (members_from xs 0 n, line xs f) (sorting (queue_step (largest (line ws g))) (members_from ws 0 n, line ws g))) ×
    Kept (largest (line ws g)) ws xs × Queued xs f × (largest (line xs f) < largest (line ws g)) →
    Going s s' m m' vs ws h g d → Going s s'' m m'' vs xs h f d
going_turn s s' s'' m m' m'' vs ws xs h g f d w p e reach x y = record {
  fuel = y.fuel - 1;
  enough = omega (arith, x.3, y.enough);
  left = λ c n i j.
      gather_turn (st s c m) (st s' c m') (st s'' c m'') y.fuel d (members_from ws 0 n, line ws g) (members_from xs 0 n, line xs f)
      (sorting (queue_run (largest (line vs h)) d) (members_from vs 0 n, line vs h)) (omega (arith, y.enough)) (omega arith) (x.0 c n i (omega (arith, y.low)))
      (y.left c n i j);
  queued = x.2;
  low = omega (arith, x.3, y.low);
  kept = kept_then (largest (line vs h)) (largest (line ws g)) vs ws xs y.low y.kept x.1;
}

-- the room ended in a step
pub going_ended : (s s' s'' : List ℕ) (m m' : Held) (vs ws xs : List ℕ) (h g f z d w : ℕ) → 1 ≤ d → w ≡ largest (line ws g) → d ≤ w →
    ((c : List ℤ) (n : ℕ) → n ≤ 20 → largest (line ws g) < 2 ^ n →
    Makes (st s' c m') (st s'' c ended) (members_from xs 0 n, line xs f) (sorting (queue_step (largest (line ws g))) (members_from ws 0 n, line ws g))) →
    Kept (largest (line ws g)) ws xs → Going s s' m m' vs ws h g d →
    ((c : List ℤ) (n : ℕ) → n ≤ 20 → largest (line vs h) < 2 ^ n →
    Makes (st s c m) (st s'' c ended) (members_from xs 0 n, line xs z) (sorting (queue_run (largest (line vs h)) d) (members_from vs 0 n, line vs h))) ×
    Kept (largest (line vs h)) vs xs
going_ended s s' s'' m m' vs ws xs h g f z d w p e reach x k y = (
  λ c n i j.
      let whole = sorting (queue_run (largest (line vs h)) d) (members_from vs 0 n, line vs h) in
      left_full (st s c m) (st s'' c ended) (members_from xs 0 n, line xs f) (members_from xs 0 n, line xs z) whole (sorting (queue_run (y.fuel - 1) d))
      (queue_run_grows (y.fuel - 1) d) refl
      (gather_turn (st s c m) (st s' c m') (st s'' c ended) y.fuel d (members_from ws 0 n, line ws g) (members_from xs 0 n, line xs f) whole
      (omega (arith, y.enough)) (omega arith) (x c n i (omega (arith, y.low))) (y.left c n i j)),
  kept_then (largest (line vs h)) (largest (line ws g)) vs ws xs y.low y.kept k,
)

-- the room ended in a step, which left the words alone
pub going_kept : (s s' : List ℕ) (m m' : Held) (vs ws xs : List ℕ) (h g d : ℕ) → xs ≡ ws → Going s s' m m' vs ws h g d →
    Queued xs g × (largest (line xs g) ≤ largest (line vs h))
going_kept s s' m m' vs ws xs h g d e y =
    subst (λ (zs : List ℕ). Queued zs g × (largest (line zs g) ≤ largest (line vs h))) (sym e) (y.queued, y.low)

-- the largest weight is below the divisor
pub going_stops : (s s' : List ℕ) (m m' : Held) (vs ws : List ℕ) (h g d w : ℕ) → w ≡ largest (line ws g) → w < d → Going s s' m m' vs ws h g d →
    Gathered s s' m m' vs ws h g d
going_stops s s' m m' vs ws h g d w e k x = (
  λ c n i j. gather_stops (st s c m) (st s' c m') x.fuel d (members_from ws 0 n, line ws g)
      (sorting (queue_run (largest (line vs h)) d) (members_from vs 0 n, line vs h)) (omega arith) (x.left c n i j),
  x.kept,
  x.queued,
  x.low,
)

-- Buckets above every weight ----------------------------------------------------------------------------------------------------------

-- more buckets behind
abbrev with_more : List (List ℕ) → Sorting → Sorting
with_more zs q = record { records = q.records; members = q.members ++ zs; queue = q.queue }

step_more : (zs : List (List ℕ)) (w : ℕ) (q : Sorting) → top_bit w < length q.members → queue_step w (with_more zs q) ≡ with_more zs (queue_step w q)
unfolding queue_step
step_more zs w q h =
    let m : ℕ = (merge q.records (map (λ (e : Entry). e.node) (run w q.queue))).1 in
    ap (λ (mss : List (List ℕ)). record {
      records = (merge q.records (map (λ (e : Entry). e.node) (run w q.queue))).0;
      members = mss;
      queue = requeue (others w q.queue) m (w - 2 ^ top_bit w);
    })
    (ap (λ (ms : List ℕ). set (q.members ++ zs) (top_bit w) (ms ++ (m ∷ []))) (get_or-append q.members zs [] (top_bit w) h) ∙
    set-append_left q.members zs (top_bit w) (get_or q.members (top_bit w) [] ++ (m ∷ [])) h)

step_many : (w : ℕ) (q : Sorting) → length (queue_step w q).members ≡ length q.members
unfolding queue_step
step_many w q = length-set q.members (top_bit w) _

-- buckets that no weight reaches stay as they are
pub gathered_more : (f d : ℕ) (zs : List (List ℕ)) (q : Sorting) → 1 ≤ d → largest q.queue < 2 ^ length q.members →
    queue_run f d (record { records = q.records; members = q.members ++ zs; queue = q.queue }) ≡
    record { records = (queue_run f d q).records; members = (queue_run f d q).members ++ zs; queue = (queue_run f d q).queue }
unfolding queue_run
gathered_more zero d zs q p h = refl
gathered_more (suc f) d zs q p h =
    go (ltb (largest q.queue) d) refl (gathered_more f d zs (queue_step (largest q.queue) q) p)
  where
    go : (b : Bool) → ltb (largest q.queue) d ≡ b →
        (largest (queue_step (largest q.queue) q).queue < 2 ^ length (queue_step (largest q.queue) q).members →
        queue_run f d (with_more zs (queue_step (largest q.queue) q)) ≡ with_more zs (queue_run f d (queue_step (largest q.queue) q))) →
        ◌≡◌ {A = Sorting} (elim b [ true ↦ with_more zs q | false ↦ queue_run f d (queue_step (largest q.queue) (with_more zs q)) ])
        (with_more zs (elim b [ true ↦ q | false ↦ queue_run f d (queue_step (largest q.queue) q) ]))
    go true e ih = refl
    go false e ih =
        let w : ℕ = largest q.queue in
        let reach : d ≤ w = ltb-false w d e in
        let less : largest (queue_step w q).queue < w = step_less q w (omega arith) refl in
        let same : 2 ^ length (queue_step w q).members ≡ 2 ^ length q.members = ap (λ (k : ℕ). 2 ^ k) (step_many w q) in
        ap (queue_run f d) (step_more zs w q (top_bit_below (length q.members) w (omega arith) h)) ∙ ih (omega arith)
