-- One law for each way through the tests of the check.
use mathlib.Core.Path.{◌≡◌, refl, sym, ap, ap₂, ◌∙◌}
use mathlib.Core.Bool.{Bool, true, false, ◌&&◌}
use mathlib.Core.List.{List, map}
use Prim.Native.Nat.{ℕ, zero, suc, ◌*◌, ◌-◌, ◌/◌, ◌%◌, ◌^◌, ◌≤◌, ◌<◌, min}
use native.Mathlib.Omega.{arith}
use native.Mathlib.Nat.{le-div_iff_mul-le, mod-eq_of_lt, suc-mul}
use lib.Pow.{pow_mono, pow_pos}
use lib.Dec.{eqb, leb, ltb}
use lib.ListN.{length, take, drop}
use lib.IntN.{ℤ}
use borrow.Author.Tests.{eq-eqb, ne_eqb, eqb-true, eqb-false, le-leb, lt-leb, leb-true, leb-false, ltb-true, ltb-false}
use Rattle.std.proofs.Common.{Option, None, Some, cond}
use Rattle.std.specs.Option.{is_some, option_eq}
use Rattle.rules.specs.declared.State.{State}
use Rattle.rules.specs.Lists.{all, among, distinct, total, rising}
use Rattle.rules.specs.Numbers.{capacity}
use Rattle.rules.specs.Digits.{power_of_two}
use Rattle.rules.specs.Records.{Record, Entry, node_at, entries, records_of}
use Rattle.rules.specs.Build.{tares_of, buckets_of, some_wait, held}
use Rattle.rules.specs.WellFormed.{is_leaf, slots_within, tares_within, buckets_within, marks_within, clauses_within, variables_below, fresh_within, set_lawful, inputs_within, inputs_first, two_inputs, built_power, built_coarser, built_times_weight, some_bucket, few_buckets, linked, buckets_linked, left_maxima_within, waiting_within, waiting_maxima_within, unbuilt_clauses, no_tare, no_bucket, inputs_wait, weights_add, waiting_last, kinds_known, outputs_rise, outputs_distinct, well_formed, well_formed_clauses}
use Rattle.laws.specs.Records.Words.{image_of_records, both}
use Rattle.laws.specs.Lists.Facts.{All_make, total_cong, length_total}
use Rattle.laws.specs.WellFormed.Whole.{records_length}
use Rattle.records.specs.Carries.{Stores}
use Rattle.check_records.specs.declared.Limits.{Limits}
use Rattle.check_records.specs.Tests.{records_right}
use Rattle.check_outputs.specs.declared.Cost.TheVariants.{Count, Maximum, Weight}
use Rattle.check_outputs.specs.Steps.{cost, total_cost, spent}
use Rattle.check_buckets.specs.Links.{left_low}
use Rattle.check_inputs.specs.Steps.{waits_in}
use Rattle.check_inputs.proofs.Inputs.{waits_last}
use Rattle.check_well_formed.specs.Groups.{hold, state_right, state_right_clauses, numbered, numbered_clauses, waiting_few, waiting_few_clauses, built_numbers, built_numbers_clauses, built_right, built_right_clauses, unbuilt_right, records_hold, records_hold_clauses, Limited}
use Rattle.check_well_formed.proofs.Clauses.{numbered_is, all_cong, held_at}
use Rattle.check_well_formed.proofs.Regroup.{regroup}

last_one : (a : Bool) → (a && true) ≡ a
last_one true = refl
last_one false = refl

-- budgets
module _ (n t : ℕ) (z : Option ℕ) (e : z ≡ spent n t) where
  pub few_is : is_some z ≡ leb t n
  unfolding spent
  few_is = ap is_some e ∙ go (ltb n t) refl
    where
      go : (b : Bool) → ltb n t ≡ b → is_some (cond b None (Some (n - t))) ≡ leb t n
      go true h = sym (lt-leb t n (ltb-true n t h))
      go false h = sym (le-leb t n (ltb-false n t h))

  pub cost_is : option_eq eqb z (Some 0) ≡ eqb t n
  unfolding spent
  cost_is = ap (λ (y : Option ℕ). option_eq eqb y (Some 0)) e ∙ go (ltb n t) refl
    where
      last : (b : Bool) → eqb (n - t) 0 ≡ b → t ≤ n → b ≡ eqb t n
      last true q k = sym (eq-eqb t n (omega (arith, eqb-true (n - t) 0 q)))
      last false q k = sym (ne_eqb t n (λ r. eqb-false (n - t) 0 q (omega arith)))

      go : (b : Bool) → ltb n t ≡ b → option_eq eqb (cond b None (Some (n - t))) (Some 0) ≡ eqb t n
      go true h = let more : n < t = ltb-true n t h in sym (ne_eqb t n (λ q. omega arith))
      go false h = last (eqb (n - t) 0) refl (ltb-false n t h)

module _ (rs : List Record) where
  pub count_is : total_cost rs Count rs ≡ length (entries rs)
  unfolding total_cost cost
  count_is = total_cong (cost rs Count) (λ (e : Entry). 1) (entries rs) (All_make (λ e. cost rs Count e ≡ 1) (λ e. refl) (entries rs)) ∙ sym (length_total (entries rs))

  pub maxima_is : total_cost rs Maximum rs ≡ total (map (λ (e : Entry). (node_at rs e.node).maximum) (entries rs))
  unfolding total_cost cost
  maxima_is = total_cong (cost rs Maximum) (λ (e : Entry). (node_at rs e.node).maximum) (entries rs)
      (All_make (λ e. cost rs Maximum e ≡ (node_at rs e.node).maximum) (λ e. refl) (entries rs))

  pub weights_is : total_cost rs Weight rs ≡ total (map (λ (e : Entry). e.weight) (entries rs))
  unfolding total_cost cost
  weights_is = total_cong (cost rs Weight) (λ (e : Entry). e.weight) (entries rs) (All_make (λ e. cost rs Weight e ≡ e.weight) (λ e. refl) (entries rs))

  -- inputs that wait
  pub each_is : (records inputs : ℕ) → records ≡ length rs → waiting_last rs ≡ true → length (entries rs) ≡ inputs →
      all (waits_in (drop (records - inputs) rs)) (rising inputs 0) ≡ all (among (map (λ (e : Entry). e.node) (entries rs))) (rising inputs 0)
  each_is records inputs count last e =
      ap (λ (n : ℕ). all (waits_in (drop (n - inputs) rs)) (rising inputs 0)) count ∙
      all_cong (waits_in (drop (length rs - inputs) rs)) (among (map (λ (e : Entry). e.node) (entries rs))) (waits_last rs inputs last e) (rising inputs 0)

-- powers
pub power_positive : (n : ℕ) → power_of_two n ≡ true → 1 ≤ n
unfolding power_of_two
power_positive zero e = absurd (eqb-false 1 0 refl (eqb-true 1 0 e))
power_positive (suc n) e = omega arith

module _ (t : ℕ) where
  small_power : t ≤ 19 → 2 ^ t % 2 ^ 64 ≡ 2 ^ t
  small_power h = mod-eq_of_lt (omega (arith, pow_mono {i = t} {j = 19} h))

  pub times_over : (n : ℕ) → 1 ≤ n → 19 < t → false ≡ leb (n * 2 ^ t) (2 ^ 19)
  times_over zero k h = absurd (omega arith)
  times_over (suc n) k h = sym (lt-leb (suc n * 2 ^ t) (2 ^ 19) (omega (arith, suc-mul n (2 ^ t), pow_mono {i = 20} {j = t} h)))

  pub times_is : (n p : ℕ) → t ≤ 19 → p ≡ 2 ^ t % 2 ^ 64 → leb n (524288 / p) ≡ leb (n * 2 ^ t) (2 ^ 19)
  times_is n p h e =
      ap (λ (q : ℕ). leb n (524288 / q)) (e ∙ small_power h) ∙ go (leb n (524288 / 2 ^ t)) refl
    where
      over : (b : Bool) → ltb (2 ^ 19) (n * 2 ^ t) ≡ b → 524288 / 2 ^ t < n → false ≡ leb (n * 2 ^ t) (2 ^ 19)
      over true q k = sym (lt-leb (n * 2 ^ t) (2 ^ 19) (ltb-true _ _ q))
      over false q k =
          let up : n ≤ 524288 / 2 ^ t = (le-div_iff_mul-le (pow_pos t)).1 (ltb-false _ _ q) in
          absurd (omega arith)

      go : (b : Bool) → leb n (524288 / 2 ^ t) ≡ b → b ≡ leb (n * 2 ^ t) (2 ^ 19)
      go true q = sym (le-leb (n * 2 ^ t) (2 ^ 19) ((le-div_iff_mul-le (pow_pos t)).0 (leb-true n (524288 / 2 ^ t) q)))
      go false q = over (ltb (2 ^ 19) (n * 2 ^ t)) refl (leb-false n (524288 / 2 ^ t) q)

-- the pass over the used slots
pub numbered_way : (s : State) (rs : List Record) (lim : Limits) → Limited s rs lim → (t b : List ℕ) → t ≡ tares_of s → b ≡ buckets_of s →
    (records_right rs t b lim && (outputs_rise rs && (outputs_distinct rs && (distinct t && all (λ n. leb lim.low n && ltb n lim.fresh) t)))) ≡
    numbered s rs
numbered_way s rs lim l t b et eb =
    ap₂ (λ (t b : List ℕ). records_right rs t b lim && (outputs_rise rs && (outputs_distinct rs && (distinct t &&
    all (λ n. leb lim.low n && ltb n lim.fresh) t)))) et eb ∙ numbered_is s rs lim l

-- words whose kinds are known store the records that they hold
pub stores_held : (store : List ℕ) (records : ℕ) → kinds_known (records_of store records) ≡ true → Stores store records (records_of store records)
unfolding kinds_known
stores_held store records e = record {
  image_is = sym (image_of_records store records e);
  count_is = sym (records_length store records);
}

pub marks_room : (store : List ℕ) (records : ℕ) → leb records (capacity store) ≡ true → 8 * records ≤ length store
unfolding capacity
marks_room store records e =
    let h : records ≤ min (length store / 8) 4294967296 = leb-true records _ e in
    omega arith

-- and as many have places
pub marks_few : (store : List ℕ) (records : ℕ) → leb records (capacity store) ≡ true → records ≤ 4294967296
unfolding capacity
marks_few store records e =
    let h : records ≤ min (length store / 8) 4294967296 = leb-true records _ e in
    omega arith

-- records that pass hold their waiting entries last
pub numbered_last : (s : State) (rs : List Record) → numbered s rs ≡ true → waiting_last rs ≡ true
unfolding numbered numbered_clauses
numbered_last s rs e = held_at (numbered_clauses s rs) e 0

-- a right state uses no more slots than there are
pub slots_few : (s : State) → state_right s ≡ true → (s.tares_used ≤ 19) × (s.buckets_used ≤ 20)
unfolding state_right state_right_clauses tares_within buckets_within slots_within
slots_few s e =
    let (tares, buckets) = both (tares_within s) (buckets_within s) (held_at (state_right_clauses s) e 0) in
    (leb-true s.tares_used 19 (both _ _ tares).0, leb-true s.buckets_used 20 (both _ _ buckets).0)

-- the tests in turn
pub well_formed_is : (s : State) (store : List ℕ) (clauses : List ℤ) →
    (marks_within s store clauses && (state_right s && (kinds_known (records_of store s.records) && records_hold s (records_of store s.records)))) ≡ well_formed s store clauses
unfolding well_formed well_formed_clauses all held
well_formed_is s store clauses = ap (λ (b : Bool). marks_within s store clauses && b) (regroup s (records_of store s.records))

-- each group, as the check asks it
pub arrays_within_is : (s : State) → (tares_within s && buckets_within s) ≡
    (slots_within 19 s.tares_used s.tares (take s.tares_used s.tares) && slots_within 20 s.buckets_used s.buckets (take s.buckets_used s.buckets))
unfolding tares_within buckets_within tares_of buckets_of
arrays_within_is s = refl

pub state_right_is : (s : State) → state_right s ≡
    ((tares_within s && buckets_within s) && (leb s.clauses s.words && (ltb s.variables s.fresh && (leb s.fresh 1000000001 && (power_of_two s.set && leb s.inputs 256)))))
unfolding state_right state_right_clauses hold all clauses_within variables_below fresh_within set_lawful inputs_within
state_right_is s = simp last_one

pub built_numbers_is : (s : State) → built_numbers s ≡
    (leb 2 s.inputs && (power_of_two s.built && (leb s.set s.built && (leb (s.built * 2 ^ s.tares_used) (2 ^ 19) && (leb 1 s.buckets_used && leb s.buckets_used (suc s.tares_used))))))
unfolding built_numbers built_numbers_clauses hold all two_inputs built_power built_coarser built_times_weight some_bucket few_buckets
built_numbers_is s = simp last_one

module _ (s : State) (rs : List Record) where
  pub waiting_few_is : waiting_few rs ≡ (leb (total_cost rs Count rs) 256 && leb (total_cost rs Maximum rs) 256)
  unfolding waiting_few waiting_few_clauses hold all waiting_within waiting_maxima_within
  waiting_few_is = sym (simp (last_one, count_is rs, maxima_is rs))

  pub unbuilt_right_is : unbuilt_right s rs ≡ (eqb s.tares_used 0 && (eqb s.buckets_used 0 && (
      (eqb (length (entries rs)) s.inputs && all (among (map (λ (e : Entry). e.node) (entries rs))) (rising s.inputs 0)) && eqb (total_cost rs Weight rs) s.sum)))
  unfolding unbuilt_right hold all unbuilt_clauses no_tare no_bucket inputs_wait weights_add
  unbuilt_right_is = simp (last_one, weights_is rs)

  pub built_right_is : built_right s rs ≡ (built_numbers s && (linked rs (some_wait (entries rs)) (buckets_of s) && all (left_low rs) (buckets_of s)))
  unfolding built_right built_right_clauses hold all buckets_linked left_maxima_within left_low
  built_right_is = simp last_one

  pub records_hold_is : records_hold s rs ≡ (all (λ (i : ℕ). is_leaf (node_at rs i).kind) (rising s.inputs 0) && (numbered s rs && (
      waiting_few rs && cond (eqb s.built 0) (unbuilt_right s rs) (built_right s rs))))
  unfolding records_hold records_hold_clauses hold all inputs_first
  records_hold_is = simp last_one
