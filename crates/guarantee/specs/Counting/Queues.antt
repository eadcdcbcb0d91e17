-- The queue's law: for every power, what the buckets from there up count plus what waits is always the same.
use Rattle.std.specs.Prelude.{◌≡◌, refl, Bool, true, false, List, [], ◌∷◌, ◌++◌, map, ℕ, zero, suc, ◌+◌, ◌*◌, ◌-◌, ◌/◌, ◌^◌, ◌≤◌, ◌<◌, ltb, length, get_or, set, drop}
use Rattle.std.proofs.Common.{sym, ap, ap₂, ◌∙◌, arith, mul_comm, mul-add, add-mul, mul_assoc, one-mul, mul-zero, zero-mul, length-drop, length-set, get_or-drop, pow_pos, pow-add, ltb-false}
use Rattle.std.proofs.Math.Nat.{pow-succ', add-mul-div_right, div-eq_of_lt, zero-div}
use Rattle.std.proofs.lemmas.List.{length-map, drop-set-add}
use Rattle.rules.specs.Lists.{total}
use Rattle.rules.specs.Digits.{top_bit}
use Rattle.rules.specs.Records.{Entry}
use Rattle.rules.specs.Totalizer.{merge_by, merge}
use Rattle.rules.specs.Build.{largest}
use Rattle.rules.specs.Queue.{heavier, run, others, requeue, Sorting, queue_step, queue_run}
use Rattle.laws.specs.Lists.Facts.{All, total_append}
use Rattle.laws.specs.Numbers.Powers.{top_bit_within, top_bit_least, top_bit_below}
use Rattle.laws.specs.Lists.Sorts.{total_insert}
use Rattle.laws.specs.Queue.Runs.{run_some, run_weight, run_others, step_less}
use Rattle.guarantee.specs.Meaning.Truth.{Truths}
use Rattle.guarantee.specs.Counting.Sums.{Begins, begins_self, begins_then, begins_length, Reads, reads_before, merge_begins, merge_total}

-- the sum of 2^k times what bucket k counts
abbrev pub heap : (ℕ → ℕ) → List (List ℕ) → ℕ
heap f [] = 0
heap f (ms ∷ mss) = total (map f ms) + 2 * heap f mss

-- what waits, each weight divided by d and rounded down
abbrev pub waited : (ℕ → ℕ) → ℕ → List Entry → ℕ
waited f d es = total (map (λ (e : Entry). e.weight / d * f e.node) es)

heap_put : (f : ℕ → ℕ) (mss : List (List ℕ)) (k m : ℕ) → k < length mss → heap f (set mss k (get_or mss k [] ++ (m ∷ []))) ≡ heap f mss + 2 ^ k * f m
unfolding total
heap_put f [] k m i = absurd (omega arith)
heap_put f (ms ∷ mss) zero m i = omega (arith, total_append f ms (m ∷ []), one-mul (f m))
heap_put f (ms ∷ mss) (suc k) m i =
    let ih : heap f (set mss k (get_or mss k [] ++ (m ∷ []))) ≡ heap f mss + 2 ^ k * f m = heap_put f mss k m (omega arith) in
    let e : 2 ^ suc k * f m ≡ 2 * (2 ^ k * f m) = rw pow-succ' (mul_assoc 2 (2 ^ k) (f m)) in
    omega arith

drop_put_at : (f : ℕ → ℕ) (p k m : ℕ) (mss : List (List ℕ)) → p + k < length mss →
    heap f (drop p (set mss (p + k) (get_or mss (p + k) [] ++ (m ∷ [])))) ≡ heap f (drop p mss) + 2 ^ k * f m
drop_put_at f p k m mss i =
    rw (drop-set-add p mss k (get_or mss (p + k) [] ++ (m ∷ [])), ← get_or-drop p mss k [])
    (heap_put f (drop p mss) k m (omega (arith, length-drop p mss)))

-- a run of weight w counts w times its nodes
run_waited : (f : ℕ → ℕ) (d w : ℕ) (es : List Entry) → All (λ e. e.weight ≡ w) es → waited f d es ≡ w / d * total (map f (map (λ (e : Entry). e.node) es))
unfolding total
run_waited f d w [] a = sym (mul-zero (w / d))
run_waited f d w (e ∷ es) a =
    ap (λ (x : ℕ). x / d * f e.node + waited f d es) a.0 ∙
    omega (arith, run_waited f d w es a.1, mul-add (w / d) (f e.node) (total (map f (map (λ (e : Entry). e.node) es))))

requeue_waited : (f : ℕ → ℕ) (d : ℕ) (es : List Entry) (m r : ℕ) → waited f d (requeue es m r) ≡ r / d * f m + waited f d es
unfolding requeue
requeue_waited f d es m zero = rw (zero-div d) (omega (arith, zero-mul (f m)))
requeue_waited f d es m (suc r) = total_insert heavier (λ (e : Entry). e.weight / d * f e.node) es (record { node = m; weight = suc r })

-- nothing that waits reaches d
pub waited_none : (f : ℕ → ℕ) (d : ℕ) (es : List Entry) → All (λ e. e.weight < d) es → waited f d es ≡ 0
unfolding total
waited_none f d [] a = refl
waited_none f d (e ∷ es) a =
    let z : e.weight / d ≡ 0 = div-eq_of_lt a.0 in
    rw z (omega (arith, zero-mul (f e.node), waited_none f d es a.1))

pub waited_cong : (f g : ℕ → ℕ) (d : ℕ) (es : List Entry) → All (λ e. f e.node ≡ g e.node) es → waited f d es ≡ waited g d es
unfolding total
waited_cong f g d [] a = refl
waited_cong f g d (e ∷ es) a = ap₂ (λ (x y : ℕ). e.weight / d * x + y) a.0 (waited_cong f g d es a.1)

-- taking the top bit off
top_off : (p k w : ℕ) → 2 ^ (p + k) ≤ w → w / 2 ^ p ≡ 2 ^ k + (w - 2 ^ (p + k)) / 2 ^ p
top_off p k w h =
    let e : 2 ^ (p + k) ≡ 2 ^ k * 2 ^ p = pow-add 2 p k ∙ mul_comm (2 ^ p) (2 ^ k) in
    let is : w ≡ (w - 2 ^ (p + k)) + 2 ^ k * 2 ^ p = omega arith in
    ap (λ x. x / 2 ^ p) is ∙ (add-mul-div_right (w - 2 ^ (p + k)) (2 ^ k) (pow_pos p) ∙ omega arith)

-- what the buckets of powers p up count, and what waits
abbrev pub held : (ℕ → ℕ) → ℕ → Sorting → ℕ
held f p q = heap f (drop p q.members) + waited f (2 ^ p) q.queue

step_arith : (a b c x y m : ℕ) → y ≡ b + c → (a + b * m) + (c * m + x) ≡ a + (y * m + x)
step_arith a b c x y m e = rw e (omega (arith, add-mul b c m))

step_held : (base : ℕ) (t : Truths) (f : ℕ → ℕ) (p : ℕ) (q : Sorting) (w : ℕ) → largest q.queue ≡ w → 2 ^ p ≤ w → w < 2 ^ length q.members →
    base ≤ length q.records → Reads base t f (queue_step w q).records → held f p (queue_step w q) ≡ held f p q
unfolding queue_step merge
step_held base t f p q w e h top lo reads =
    ap₂ ◌+◌ put again ∙ (step_arith (heap f (drop p q.members)) (2 ^ k) ((w - 2 ^ (p + k)) / 2 ^ p) (waited f (2 ^ p) (others w q.queue)) (w / 2 ^ p) (f m) (top_off p k w tops) ∙
    ap (λ (x : ℕ). heap f (drop p q.members) + x) (sym split))
  where
    nodes : List ℕ
    nodes = map (λ (e : Entry). e.node) (run w q.queue)

    m : ℕ
    m = (merge_by (length nodes) q.records nodes).1

    w_low : 1 ≤ w
    w_low = omega (arith, pow_pos p)

    k : ℕ
    k = top_bit w - p

    ek : top_bit w ≡ p + k
    ek = omega (arith, top_bit_least p w h)

    tops : 2 ^ (p + k) ≤ w
    tops = rw ek at (top_bit_within w w_low)

    few : 1 ≤ length nodes
    few = omega (arith, run_some q.queue w w_low e, length-map (run w q.queue) (λ (e : Entry). e.node))

    merged : f m ≡ total (map f nodes)
    merged = merge_total base t f (length nodes) q.records nodes few (omega arith) lo reads

    put : heap f (drop p (set q.members (top_bit w) (get_or q.members (top_bit w) [] ++ (m ∷ [])))) ≡ heap f (drop p q.members) + 2 ^ k * f m
    put =
        ap (λ (x : ℕ). heap f (drop p (set q.members x (get_or q.members x [] ++ (m ∷ []))))) ek ∙
        drop_put_at f p k m q.members (omega (arith, ek, top_bit_below (length q.members) w w_low top))

    again : waited f (2 ^ p) (requeue (others w q.queue) m (w - 2 ^ top_bit w)) ≡ (w - 2 ^ (p + k)) / 2 ^ p * f m + waited f (2 ^ p) (others w q.queue)
    again =
        ap (λ (x : ℕ). waited f (2 ^ p) (requeue (others w q.queue) m (w - 2 ^ x))) ek ∙
        requeue_waited f (2 ^ p) (others w q.queue) m (w - 2 ^ (p + k))

    split : waited f (2 ^ p) q.queue ≡ w / 2 ^ p * f m + waited f (2 ^ p) (others w q.queue)
    split =
        run_others (λ (e : Entry). e.weight / 2 ^ p * f e.node) w q.queue ∙
        ap (λ (x : ℕ). x + waited f (2 ^ p) (others w q.queue))
        (run_waited f (2 ^ p) w (run w q.queue) (run_weight w q.queue) ∙ ap (λ (x : ℕ). w / 2 ^ p * x) (sym merged))

step_begins : (w : ℕ) (q : Sorting) → Begins q.records (queue_step w q).records
unfolding queue_step merge
step_begins w q =
    let nodes : List ℕ = map (λ (e : Entry). e.node) (run w q.queue) in
    merge_begins (length nodes) q.records nodes

step_count : (w : ℕ) (q : Sorting) → length (queue_step w q).members ≡ length q.members
unfolding queue_step
step_count w q = length-set q.members (top_bit w) _

pub run_begins : (fuel d : ℕ) (q : Sorting) → Begins q.records (queue_run fuel d q).records
unfolding queue_run
run_begins zero d q = begins_self q.records
run_begins (suc fuel) d q = go (ltb (largest q.queue) d) (run_begins fuel d (queue_step (largest q.queue) q))
  where
    go : (b : Bool) → Begins (queue_step (largest q.queue) q).records (queue_run fuel d (queue_step (largest q.queue) q)).records →
        Begins q.records (elim b as (λ x. Sorting) [ true ↦ q | false ↦ queue_run fuel d (queue_step (largest q.queue) q) ]).records
    go true ih = begins_self q.records
    go false ih = begins_then q.records (queue_step (largest q.queue) q).records _ (step_begins (largest q.queue) q) ih

-- the queue keeps what is held from power p up, for every power up to the divisor's
pub run_held : (base : ℕ) (t : Truths) (f : ℕ → ℕ) (p d : ℕ) → 2 ^ p ≤ d → (fuel : ℕ) (q : Sorting) → largest q.queue < 2 ^ length q.members →
    base ≤ length q.records → Reads base t f (queue_run fuel d q).records → held f p (queue_run fuel d q) ≡ held f p q
unfolding queue_run
run_held base t f p d h zero q top lo reads = refl
run_held base t f p d h (suc fuel) q top lo reads = go (ltb (largest q.queue) d) refl (run_held base t f p d h fuel next) reads
  where
    next : Sorting
    next = queue_step (largest q.queue) q

    go : (b : Bool) → ltb (largest q.queue) d ≡ b →
        (largest next.queue < 2 ^ length next.members → base ≤ length next.records → Reads base t f (queue_run fuel d next).records → held f p (queue_run fuel d next) ≡ held f p next) →
        Reads base t f (elim b as (λ x. Sorting) [ true ↦ q | false ↦ queue_run fuel d next ]).records →
        held f p (elim b as (λ x. Sorting) [ true ↦ q | false ↦ queue_run fuel d next ]) ≡ held f p q
    go true e ih reads = refl
    go false e ih reads =
        let reach : d ≤ largest q.queue = ltb-false _ _ e in
        let w_low : 1 ≤ largest q.queue = omega (arith, pow_pos p) in
        let less : largest next.queue < largest q.queue = step_less q (largest q.queue) w_low refl in
        let count : length next.members ≡ length q.members = step_count (largest q.queue) q in
        let top' : largest next.queue < 2 ^ length next.members = rw count (omega arith) in
        let begins : Begins q.records next.records = step_begins (largest q.queue) q in
        ih top' (omega (arith, begins_length q.records next.records begins)) reads ∙
        step_held base t f p q (largest q.queue) refl (omega arith) top lo
        (reads_before base t f next.records (queue_run fuel d next).records (run_begins fuel d next) reads)
