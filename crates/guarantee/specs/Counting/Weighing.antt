-- What a build weighs: its buckets the inputs' weights divided by the built divisor, what waits the rest.
use Rattle.std.specs.Prelude.{◌≡◌, true, ℕ, suc, ◌+◌, ◌*◌, ◌-◌, ◌^◌, ◌≤◌, ◌<◌, ℤ}
use Rattle.std.proofs.Math.Path.{refl, ap, subst}
use Rattle.std.proofs.Common.{sym, ◌∙◌, arith, one-mul, get_or-drop}
use mathlib.Core.List.{List, [], ◌∷◌, map}
use Rattle.std.proofs.Math.ListN.{length, get_or, drop, length-drop}
use Rattle.rules.specs.Lists.{rising}
use Rattle.rules.specs.Digits.{digits, top_bit}
use Rattle.rules.specs.Records.{Record, node_at}
use Rattle.rules.specs.Build.{Build, restructured, largest, some_wait}
use Rattle.rules.specs.Queue.{Sorting, queue_run, gathered}
use Rattle.rules.specs.Buckets.{buckets_over, build_structure}
use Rattle.laws.specs.Lists.Facts.{All, All_map, All_drop, rising_length}
use Rattle.laws.specs.Records.Places.{place, place_inside}
use Rattle.laws.specs.Numbers.Powers.{digits_top, below_digits, top_bit_least}
use Rattle.laws.specs.WellFormed.Plain.{Sound, Formed}
use Rattle.preserve.specs.Gathered.{begun, Gathered, gathered_made}
use Rattle.guarantee.specs.Meaning.Truth.{Truths}
use Rattle.guarantee.specs.Meaning.Values.{value}
use Rattle.guarantee.specs.Counting.Sums.{Begins, begins_then, begins_length, begins_at, Reads, reads_before, value_reads}
use Rattle.guarantee.specs.Counting.Queues.{heap, waited, waited_none, waited_cong, run_begins}
use Rattle.guarantee.specs.Counting.Filling.{filled_law}
use Rattle.guarantee.specs.Counting.Chains.{units, tare_sum, tops}
use Rattle.guarantee.specs.Counting.Buckets.{Filled, Inside, counted, over_begins, over_all}
use Rattle.guarantee.specs.Meaning.Keeping.{value_stays}
use Rattle.guarantee.specs.Promise.{sum_of}

-- the value of a build's nodes
abbrev pub values : Build → Truths → ℕ → ℕ
values b t n = value (node_at b.arena.records) t n

-- unbuilt: what waits weighs all inputs, whatever the divisor
pub record WeighsUnbuilt (xs : List ℤ) (ws : List ℕ) (b : Build) : Type 0 where
  pub waits : (k : ℕ) (t : Truths) → sum_of xs ws (2 ^ k) t ≡ waited (values b t) (2 ^ k) b.queue

-- built: the buckets and their tares, in units of the lowest one, weigh the inputs divided by the built divisor; what waits is the rest
pub record WeighsBuilt (xs : List ℤ) (ws : List ℕ) (b : Build) : Type 0 where
  pub left_out : ℕ
  pub left_count : left_out + length b.buckets ≡ suc (length b.tares)
  pub counts : (t : Truths) →
      2 ^ left_out * units (map (values b t) (tops (node_at b.arena.records) (some_wait b.queue) b.buckets)) ≡
      sum_of xs ws b.built t + 2 ^ left_out * tare_sum t (drop left_out b.tares)
  pub rest : (j k : ℕ) (t : Truths) → k + j ≡ top_bit b.built → sum_of xs ws (2 ^ k) t ≡ 2 ^ j * sum_of xs ws b.built t + waited (values b t) (2 ^ k) b.queue

-- the first buckets have tares, the last one a member
pub filled_first : (tares : List ℕ) (mss : List (List ℕ)) → length mss ≡ suc (length tares) → 1 ≤ length (get_or mss (length tares) []) → Filled tares mss
filled_first [] [] h s = absurd (omega arith)
filled_first [] (ms ∷ []) h s = (s, tt)
filled_first [] (ms ∷ ns ∷ mss) h s = absurd (omega arith)
filled_first (t ∷ tares) [] h s = absurd (omega arith)
filled_first (t ∷ tares) (ms ∷ mss) h s = (tt, filled_first tares mss (omega arith) s)

-- nodes that stand in sound records keep their values as records are appended
pub value_begins : (rs rs' : List Record) → Sound (node_at rs) (place rs) → Begins rs rs' → (t : Truths) (n : ℕ) → place rs n ≡ true → value (node_at rs') t n ≡ value (node_at rs) t n
value_begins rs rs' sound g t n h =
    value_stays (node_at rs) (node_at rs') (λ m. place rs m ≡ true) (λ m k. begins_at rs rs' g m (place_inside rs m k)) (λ m half l r k e. (sound m).links_are half l r e) t n h

module _ (xs : List ℤ) (ws : List ℕ) (b : Build) (f : Formed b) (z : b.built ≡ 0) (reach : b.set ≤ largest b.queue) (w : WeighsUnbuilt xs ws b)
    (f' : Formed (build_structure b)) where
  p : ℕ
  p = top_bit b.set

  n : ℕ
  n = digits (largest b.queue)

  abbrev old : List Record
  old = b.arena.records

  q : Sorting
  q = gathered b n

  tares : List ℕ
  unfolding p n
  tares = rising (n - 1 - p) b.arena.fresh

  mss : List (List ℕ)
  unfolding p q
  mss = drop p q.members

  result : List Record × List ℕ
  unfolding q tares mss
  result = buckets_over (some_wait q.queue) q.records [] tares mss

  made : Gathered b n (λ q. Unit {0})
  unfolding n
  made = gathered_made b f n (subst (All (λ a. a < length old)) (sym (f.if_unbuilt z).no_bucket) tt) (below_digits (largest b.queue)) reach (λ q. Unit {0}) (λ q ok e h. tt) tt

  set_is : b.set ≡ 2 ^ p
  unfolding p
  set_is = f.set_power

  p_low : suc p ≤ n
  unfolding p n
  p_low = omega (arith, top_bit_least (top_bit b.set) (largest b.queue) (omega (arith, f.set_power)), digits_top (largest b.queue))

  tares_count : length tares ≡ n - 1 - p
  unfolding tares
  tares_count = rising_length (n - 1 - p) b.arena.fresh

  members_count : length q.members ≡ n
  unfolding q
  members_count = made.gathers.count

  mss_count : length mss ≡ suc (length tares)
  unfolding mss
  mss_count = omega (arith, length-drop p q.members, members_count, tares_count, p_low)

  begins_queue : Begins old q.records
  unfolding q gathered
  begins_queue = run_begins (largest b.queue) b.set (begun b n)

  begins_result : Begins q.records result.0
  unfolding result
  begins_result = over_begins (some_wait q.queue) q.records [] tares mss

  -- a first build appends nodes
  pub first_begins : Begins old (build_structure b).arena.records
  unfolding build_structure restructured result q tares mss p n
  first_begins = begins_then old q.records result.0 begins_queue begins_result

  begins_all : Begins old result.0
  begins_all = begins_then old q.records result.0 begins_queue begins_result

  sound : Sound (node_at result.0) (place result.0)
  unfolding result q tares mss p n build_structure restructured
  sound = f'.sound

  reads : (t : Truths) → Reads (length old) t (value (node_at result.0) t) result.0
  reads t = value_reads (length old) t result.0 sound

  filled : Filled tares mss
  unfolding mss q p n
  filled =
      filled_first tares mss mss_count
      (subst (λ (ms : List ℕ). 1 ≤ length ms) (sym (get_or-drop p q.members (length tares) [] ∙ ap (λ (i : ℕ). get_or q.members i []) top_is)) made.filled)
    where
      top_is : p + length tares ≡ top_bit (largest b.queue)
      top_is = omega (arith, tares_count, p_low, digits_top (largest b.queue))

  inside : Inside q.records mss
  unfolding mss q
  inside = All_drop (λ ms. All (λ m. m < length q.records) ms) p q.members (All_map (λ ms h. All_map (place_inside q.records) ms h) q.members made.gathers.members_there)

  all : (t : Truths) → (m : ℕ) × (m + length result.1 ≡ length mss) ×
      (2 ^ m * counted (value (node_at result.0) t) (some_wait q.queue) result ≡ heap (value (node_at result.0) t) mss + 2 ^ m * tare_sum t (drop m tares))
  unfolding result
  all t =
      over_all (length old) t (value (node_at result.0) t) (some_wait q.queue) q.records tares mss
      (begins_length old q.records begins_queue) filled (omega (arith, mss_count)) inside (reads t)

  -- what was queued weighs what it weighed
  queued : (k : ℕ) (t : Truths) → waited (value (node_at result.0) t) (2 ^ k) b.queue ≡ sum_of xs ws (2 ^ k) t
  queued k t =
      waited_cong (value (node_at result.0) t) (values b t) (2 ^ k) b.queue (All_map (λ e h. value_begins old result.0 f.sound begins_all t e.node h) b.queue f.waiting_are.nodes_wait) ∙
      sym (w.waits k t)

  below_n : largest b.queue < 2 ^ n
  unfolding n
  below_n = below_digits (largest b.queue)

  law : (j k : ℕ) (t : Truths) → k + j ≡ p → 2 ^ j * heap (value (node_at result.0) t) mss + waited (value (node_at result.0) t) (2 ^ k) q.queue ≡ sum_of xs ws (2 ^ k) t
  unfolding mss q gathered
  law j k t is =
      subst (λ (d : ℕ). length (queue_run (largest b.queue) d (begun b n)).members ≡ n → Reads (length old) t (value (node_at result.0) t) (queue_run (largest b.queue) d (begun b n)).records →
      2 ^ j * heap (value (node_at result.0) t) (drop p (queue_run (largest b.queue) d (begun b n)).members) + waited (value (node_at result.0) t) (2 ^ k) (queue_run (largest b.queue) d (begun b n)).queue ≡ waited (value (node_at result.0) t) (2 ^ k) b.queue)
      (sym set_is)
      (λ count r. filled_law (length old) t (value (node_at result.0) t) p n old b.queue (omega (arith, p_low)) below_n (omega arith) count r j k is)
      members_count (reads_before (length old) t (value (node_at result.0) t) q.records result.0 begins_result (reads t)) ∙ queued k t

  left : ℕ
  left = length mss - length result.1

  left_is : (t : Truths) → (all t).0 ≡ left
  unfolding left
  left_is t = omega (arith, (all t).1)

  left_sum : left + length result.1 ≡ suc (length tares)
  unfolding left
  left_sum = omega (arith, (all (λ x. true)).1, mss_count)

  low : All (λ e. e.weight < 2 ^ p) q.queue
  unfolding q
  low = All_map (λ e h. omega (arith, set_is)) q.queue made.low

  heap_is : (t : Truths) → heap (value (node_at result.0) t) mss ≡ sum_of xs ws b.set t
  heap_is t =
      let none : waited (value (node_at result.0) t) (2 ^ p) q.queue ≡ 0 = waited_none (value (node_at result.0) t) (2 ^ p) q.queue low in
      let at_p : sum_of xs ws (2 ^ p) t ≡ sum_of xs ws b.set t = ap (λ (d : ℕ). sum_of xs ws d t) (sym set_is) in
      omega (arith, law 0 p t (omega arith), none, one-mul (heap (value (node_at result.0) t) mss))

  first_counts : (t : Truths) → 2 ^ left * counted (value (node_at result.0) t) (some_wait q.queue) result ≡ sum_of xs ws b.set t + 2 ^ left * tare_sum t (drop left tares)
  first_counts t =
      subst (λ (m : ℕ). 2 ^ m * counted (value (node_at result.0) t) (some_wait q.queue) result ≡ heap (value (node_at result.0) t) mss + 2 ^ m * tare_sum t (drop m tares)) (left_is t) (all t).2 ∙
      ap (λ (s : ℕ). s + 2 ^ left * tare_sum t (drop left tares)) (heap_is t)

  -- a first build weighs the inputs
  pub first_weighs : WeighsBuilt xs ws (build_structure b)
  unfolding build_structure restructured result q tares mss p n
  first_weighs = record {
    left_out = left;
    left_count = left_sum;
    counts = first_counts;
    rest = λ j k t is. after j k t (is ∙ built_power);
  }
    where
      built_power : top_bit b.set ≡ p
      built_power = refl

      after : (j k : ℕ) (t : Truths) → k + j ≡ p → sum_of xs ws (2 ^ k) t ≡ 2 ^ j * sum_of xs ws b.set t + waited (value (node_at result.0) t) (2 ^ k) q.queue
      after j k t is = sym (law j k t is) ∙ ap (λ (s : ℕ). 2 ^ j * s + waited (value (node_at result.0) t) (2 ^ k) q.queue) (heap_is t)
