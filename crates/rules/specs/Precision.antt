-- Set precision, next precision, maximum precision. They write nothing.
use Rattle.std.specs.Prelude.{Bool, true, false, not, ◌&&◌, List, [], ◌∷◌, ℕ, zero, suc, ◌^◌, ltb, ℤ, Result, Ok, Err}
use Rattle.rules.specs.declared.State.{State}
use Rattle.rules.specs.declared.Set.{Set}
use Rattle.rules.specs.declared.Refusal.{Refusal}
use Rattle.rules.specs.declared.Refusal.TheVariants.{NotWellFormed}
use Rattle.rules.specs.Numbers.{divisor_of}
use Rattle.rules.specs.Digits.{top_bit}
use Rattle.rules.specs.Refusals.{first_true, divisor_unlawful, answer_of}
use Rattle.rules.specs.Build.{Build, build_of, unbuilt, largest, some_wait}
use Rattle.rules.specs.WellFormed.{well_formed, not_well_formed}

-- 9: built, and divisor above the last one set
unfoldable pub divisor_coarser : Build → ℕ → Bool
unfolding unbuilt divisor_of
divisor_coarser b divisor = not (unbuilt b) && ltb b.set (divisor_of divisor)

-- set: 12 first, then 8, 9
unfoldable pub set_refusal : State → List ℕ → List ℤ → ℕ → ℕ
unfolding first_true not_well_formed divisor_unlawful divisor_coarser build_of
set_refusal s store clauses divisor = first_true (
    (12, not_well_formed s store clauses) ∷
    (8, divisor_unlawful divisor) ∷
    (9, divisor_coarser (build_of s store) divisor) ∷ [])

-- the state with another set divisor
unfoldable pub with_set : State → ℕ → State
with_set s divisor = record {
  inputs = s.inputs;
  sum = s.sum;
  set = divisor;
  built = s.built;
  records = s.records;
  words = s.words;
  clauses = s.clauses;
  variables = s.variables;
  fresh = s.fresh;
  tares = s.tares;
  tares_used = s.tares_used;
  buckets = s.buckets;
  buckets_used = s.buckets_used;
}

-- a refusal returns its number and the state as it came
unfoldable pub set_end : ℕ → State → ℕ → Set
unfolding answer_of with_set divisor_of
set_end zero s divisor = record { answer = answer_of 0; state = with_set s (divisor_of divisor) }
set_end (suc n) s divisor = record { answer = answer_of (suc n); state = s }

-- set_precision
unfoldable pub set_precision : State → List ℕ → List ℤ → ℕ → Set
unfolding set_refusal set_end
set_precision s store clauses divisor = set_end (set_refusal s store clauses divisor) s divisor

-- next precision: the top power of the largest waiting weight, else 1
unfoldable pub next_precision : State → List ℕ → List ℤ → Result ℕ Refusal
unfolding well_formed top_bit largest build_of
next_precision s store clauses =
    elim (well_formed s store clauses) [
      | true ↦ Ok (2 ^ top_bit (largest (build_of s store).queue))
      | false ↦ Err NotWellFormed
    ]

-- maximum precision: nothing waits
unfoldable pub is_max_precision : State → List ℕ → List ℤ → Result Bool Refusal
unfolding well_formed some_wait build_of
is_max_precision s store clauses =
    elim (well_formed s store clauses) [
      | true ↦ elim (some_wait (build_of s store).queue) [ true ↦ Ok false | false ↦ Ok true ]
      | false ↦ Err NotWellFormed
    ]
