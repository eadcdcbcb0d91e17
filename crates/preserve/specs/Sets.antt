-- An accepted set leaves the state well formed: only the set divisor changes.
use Rattle.std.specs.Prelude.{◌≡◌, refl, ◌≢◌, Bool, true, false, not, ◌&&◌, ◌||◌, List, ℕ, zero, suc, ◌≤◌, ◌^◌, ltb, ℤ}
use Rattle.std.proofs.Common.{sym, ◌∙◌, ap, arith, ne_eqb, ltb-false}
use Rattle.std.proofs.lemmas.Bool.{false≢true}
use Rattle.rules.specs.declared.State.{State}
use Rattle.rules.specs.Numbers.{divisor_of}
use Rattle.rules.specs.Digits.{top_bit, digits, bit_length, power_of_two}
use Rattle.rules.specs.Refusals.{first_true, divisor_unlawful}
use Rattle.rules.specs.Records.{Record}
use Rattle.rules.specs.Build.{Build, clause_total, clause_mark, records, unbuilt, tares_of, buckets_of, held, build_over, build_of}
use Rattle.rules.specs.WellFormed.{well_formed, not_well_formed}
use Rattle.rules.specs.Precision.{divisor_coarser, set_refusal, with_set, set_end, set_precision}
use Rattle.laws.specs.Lists.Facts.{not_not}
use Rattle.laws.specs.Numbers.Powers.{power_is}
use Rattle.laws.specs.WellFormed.Plain.{Formed, Laid, WellFormed}
use Rattle.laws.specs.WellFormed.Whole.{well_formed_facts, facts_well_formed}
use Rattle.preserve.specs.Starts.{not_first}

-- a lawful divisor, 0 taken as 1, is a power of two
pub divisor_power : (d : ℕ) → divisor_unlawful d ≡ false → divisor_of d ≡ 2 ^ top_bit (divisor_of d)
unfolding divisor_unlawful divisor_of top_bit digits bit_length
divisor_power zero e = refl
divisor_power (suc d) e = power_is (suc d) (not_not (power_of_two (suc d))
    (ap (λ (t : Bool). not (t || power_of_two (suc d))) (sym (ne_eqb (suc d) 0 (λ z. omega arith))) ∙ e))

-- the build with another set divisor
unfoldable pub set_to : Build → ℕ → Build
set_to b d = record {
  inputs = b.inputs;
  sum = b.sum;
  first = b.first;
  set = d;
  built = b.built;
  tares = b.tares;
  buckets = b.buckets;
  queue = b.queue;
  arena = b.arena;
  clauses_before = b.clauses_before;
  words_before = b.words_before;
}

pub set_formed : (b : Build) (d : ℕ) → Formed b → d ≡ 2 ^ top_bit d → (b.built ≢ 0 → d ≤ b.built) → Formed (set_to b d)
unfolding set_to clause_total clause_mark
set_formed b d f power below = record {
  all_known = f.all_known;
  none_waits = f.none_waits;
  first_low = f.first_low;
  first_high = f.first_high;
  fresh_few = f.fresh_few;
  clauses_few = f.clauses_few;
  inputs_few = f.inputs_few;
  inputs_first = f.inputs_first;
  sound = f.sound;
  defined = f.defined;
  taken = f.taken;
  waiting_are = f.waiting_are;
  spares = f.spares;
  entries_spare = f.entries_spare;
  set_power = power;
  if_unbuilt = λ z.
      let u = f.if_unbuilt z in
      record { no_tare = u.no_tare; no_bucket = u.no_bucket; count = u.count; each_waits = u.each_waits; sum_is = u.sum_is };
  if_built = λ n.
      let u = f.if_built n in
      record {
        two = u.two;
        power = u.power;
        coarser = below n;
        times_weight = u.times_weight;
        some = u.some;
        few = u.few;
        linked = u.linked;
        lefts = u.lefts;
        below_built = u.below_built;
      };
}

set_laid : (s : State) (rs : List Record) (d : ℕ) → Laid s rs → Laid (with_set s d) rs
unfolding with_set build_over records tares_of buckets_of
set_laid s rs d l = record {
  tares_few = l.tares_few;
  tares_laid = l.tares_laid;
  buckets_few = l.buckets_few;
  buckets_laid = l.buckets_laid;
  variables_few = l.variables_few;
  waiting_last = l.waiting_last;
}

-- what is not coarser than the last set divisor of a built state is at most the built one
not_coarser : (b : Build) (d : ℕ) → divisor_coarser b d ≡ false → b.built ≢ 0 → b.set ≤ b.built → divisor_of d ≤ b.built
unfolding divisor_coarser unbuilt
not_coarser b d e n h = go (ltb b.set (divisor_of d)) refl
    (ap (λ (t : Bool). not t && ltb b.set (divisor_of d)) (sym (ne_eqb b.built 0 n)) ∙ e)
  where
    go : (t : Bool) → ltb b.set (divisor_of d) ≡ t → t ≡ false → divisor_of d ≤ b.built
    go true q r = absurd (false≢true (sym r))
    go false q r = omega (arith, ltb-false b.set (divisor_of d) q)

-- what an accepted set leaves is well formed
pub accepted_set : (s : State) (store : List ℕ) (clauses : List ℤ) (d : ℕ) → set_refusal s store clauses d ≡ 0 →
    well_formed (set_precision s store clauses d).state store clauses ≡ true
unfolding set_precision set_end set_refusal first_true not_well_formed build_of build_over held with_set set_to tares_of buckets_of
accepted_set s store clauses d e =
    let (formed, e₁) = not_first 11 (not_well_formed s store clauses) _ e in
    let (lawful, e₂) = not_first 7 (divisor_unlawful d) _ e₁ in
    let (finer, e₃) = not_first 8 (divisor_coarser (build_of s store) d) _ e₂ in
    let w : WellFormed s store clauses = well_formed_facts s store clauses (not_not _ formed) in
    let rs : List Record = held s store in
    ap (λ (n : ℕ). well_formed (set_end n s d).state store clauses) e ∙
    facts_well_formed (with_set s (divisor_of d)) store clauses (record {
      records_within = w.records_within;
      words_within = w.words_within;
      laid = set_laid s rs (divisor_of d) w.laid;
      formed = set_formed (build_over s rs) (divisor_of d) w.formed (divisor_power d lawful)
          (λ n. not_coarser (build_of s store) d finer n (w.formed.if_built n).coarser);
    })
