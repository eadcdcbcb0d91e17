-- What a queue that started with empty buckets put into them, in any power up to its divisor's.
use Rattle.std.specs.Prelude.{◌≡◌, refl, List, [], ◌∷◌, map, ℕ, zero, suc, ◌+◌, ◌*◌, ◌/◌, ◌^◌, ◌≤◌, ◌<◌, length, get_or, drop, replicate}
use Rattle.std.proofs.Common.{sym, ap, ap₂, ◌∙◌, subst, arith, mul_assoc, one-mul, get_or-set_other, pow_pos, pow_mono}
use Rattle.std.proofs.Math.Nat.{pow-succ'}
use Rattle.std.proofs.lemmas.List.{length-replicate}
use Rattle.rules.specs.Lists.{total, sort}
use Rattle.rules.specs.Digits.{top_bit}
use Rattle.rules.specs.Records.{Entry, Record}
use Rattle.rules.specs.Build.{largest}
use Rattle.rules.specs.Queue.{heavier, Sorting, queue_step, queue_run}
use Rattle.laws.specs.Numbers.Powers.{top_bit_least}
use Rattle.laws.specs.Lists.Sorts.{total_sort}
use Rattle.laws.specs.Queue.Runs.{run_keeps, largest_sort}
use Rattle.guarantee.specs.Meaning.Truth.{Truths}
use Rattle.guarantee.specs.Counting.Sums.{Reads}
use Rattle.guarantee.specs.Counting.Queues.{heap, waited, held, run_held}

-- buckets with no members count nothing
heap_none : (f : ℕ → ℕ) (k n : ℕ) → heap f (drop k (replicate n [])) ≡ 0
unfolding total
heap_none f zero zero = refl
heap_none f zero (suc n) = omega (arith, heap_none f zero n)
heap_none f (suc k) zero = refl
heap_none f (suc k) (suc n) = heap_none f k n

drop_first : (mss : List (List ℕ)) (k : ℕ) → k < length mss → drop k mss ≡ get_or mss k [] ∷ drop (suc k) mss
drop_first [] k h = absurd (omega arith)
drop_first (ms ∷ mss) zero h = refl
drop_first (ms ∷ mss) (suc k) h = drop_first mss k (omega arith)

-- empty buckets below power p: what is counted from power k is counted from p, in units of k
pub heap_shift : (f : ℕ → ℕ) (mss : List (List ℕ)) (j k : ℕ) → k + j ≤ length mss → ((i : ℕ) → i < k + j → get_or mss i [] ≡ []) → heap f (drop k mss) ≡ 2 ^ j * heap f (drop (k + j) mss)
unfolding total
heap_shift f mss zero k h e =
    let none : k + 0 ≡ k = omega arith in
    rw none (sym (one-mul (heap f (drop k mss))))
heap_shift f mss (suc j) k h e =
    let next : k + suc j ≡ suc k + j = omega arith in
    let ih : heap f (drop (suc k) mss) ≡ 2 ^ j * heap f (drop (suc k + j) mss) = heap_shift f mss j (suc k) (omega arith) (λ i q. e i (omega arith)) in
    let twice : 2 ^ suc j * heap f (drop (suc k + j) mss) ≡ 2 * (2 ^ j * heap f (drop (suc k + j) mss)) = rw pow-succ' (mul_assoc 2 (2 ^ j) (heap f (drop (suc k + j) mss))) in
    let first : heap f (drop k mss) ≡ 0 + 2 * heap f (drop (suc k) mss) =
    ap (heap f) (drop_first mss k (omega arith)) ∙ ap (λ (ms : List ℕ). total (map f ms) + 2 * heap f (drop (suc k) mss)) (e k (omega arith)) in
    rw next (omega arith)

replicate_empty : (n i : ℕ) → get_or {A = List ℕ} (replicate n []) i [] ≡ []
replicate_empty zero i = refl
replicate_empty (suc n) zero = refl
replicate_empty (suc n) (suc i) = replicate_empty n i

-- a queue over a divisor of 2^p fills no bucket below p
pub low_empty : (p fuel : ℕ) (q : Sorting) → largest q.queue ≤ fuel → ((i : ℕ) → i < p → get_or q.members i [] ≡ []) → (i : ℕ) → i < p → get_or (queue_run fuel (2 ^ p) q).members i [] ≡ []
unfolding queue_step
low_empty p fuel q h e =
    (run_keeps (λ q. (i : ℕ) → i < p → get_or q.members i [] ≡ []) (2 ^ p) (pow_pos p)
    (λ q k reach i lt.
    let high : p ≤ top_bit (largest q.queue) = top_bit_least p (largest q.queue) reach in
    get_or-set_other q.members (top_bit (largest q.queue)) i _ [] (λ z. omega arith) ∙ k i lt)
    fuel q h e).0

-- from empty buckets and a queue es: for every power k up to p, what is in the buckets from p on and what is left weigh es
pub filled_law : (base : ℕ) (t : Truths) (f : ℕ → ℕ) (p n : ℕ) (rs : List Record) (es : List Entry) → p ≤ n → largest es < 2 ^ n → base ≤ length rs →
    let q : Sorting = queue_run (largest es) (2 ^ p) (record { records = rs; members = replicate n []; queue = sort heavier es }) in
    length q.members ≡ n → Reads base t f q.records → (j k : ℕ) → k + j ≡ p →
    2 ^ j * heap f (drop p q.members) + waited f (2 ^ k) q.queue ≡ waited f (2 ^ k) es
filled_law base t f p n rs es few low lo count reads j k is = whole
  where
    start : Sorting
    start = record { records = rs; members = replicate n []; queue = sort heavier es }

    q : Sorting
    q = queue_run (largest es) (2 ^ p) start

    at_most : largest (sort heavier es) ≤ largest es
    at_most = omega (arith, largest_sort es)

    empties : (i : ℕ) → i < k + j → get_or q.members i [] ≡ []
    empties i h = low_empty p (largest es) start at_most (λ i h. replicate_empty n i) i (omega (arith, is))

    shift : heap f (drop k q.members) ≡ 2 ^ j * heap f (drop p q.members)
    shift = heap_shift f q.members j k (omega (arith, is, count)) empties ∙ ap (λ (i : ℕ). 2 ^ j * heap f (drop i q.members)) is

    small : 2 ^ k ≤ 2 ^ p
    small = pow_mono (omega (arith, is))

    sized : largest (sort heavier es) < 2 ^ length (replicate {A = List ℕ} n [])
    sized = subst (λ (i : ℕ). largest (sort heavier es) < 2 ^ i) (sym (length-replicate n [])) (omega (arith, largest_sort es))

    kept : held f k q ≡ held f k start
    kept = run_held base t f k (2 ^ p) small (largest es) start sized lo reads

    sorted : waited f (2 ^ k) (sort heavier es) ≡ waited f (2 ^ k) es
    sorted = total_sort heavier (λ (e : Entry). e.weight / 2 ^ k * f e.node) es

    whole : 2 ^ j * heap f (drop p q.members) + waited f (2 ^ k) q.queue ≡ waited f (2 ^ k) es
    whole = ap (λ (x : ℕ). x + waited f (2 ^ k) q.queue) (sym shift) ∙ (kept ∙ (ap₂ ◌+◌ (heap_none f k n) sorted ∙ omega arith))
