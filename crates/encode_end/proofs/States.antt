-- What every way of encode keeps of a build, and the state that it ends with.
use mathlib.Core.Path.{◌≡◌, refl}
use Prim.Native.Nat.{ℕ, ◌+◌, ◌-◌}
use lib.ListN.{length}
use Rattle.rules.specs.declared.State.{State}
use Rattle.rules.specs.Build.{Build, records, clause_total, clause_mark, variable_total, state_of, restructured, with_arena}
use Rattle.rules.specs.Buckets.{build_structure}
use Rattle.rules.specs.Refinement.{patched, merge_structures}
use Rattle.rules.specs.Encode.{prepared, encode_outputs}
use Rattle.preserve.specs.Encodes.{prepared_cases}
use Rattle.build_begin.specs.declared.Structure.{Structure}
use Rattle.build_begin.specs.Named.{Slots}
use Rattle.encode_end.specs.Settled.{state_after}

-- p comes of b: inputs, sum, first number, set divisor and earlier clauses are the same
pub record Kin (b p : Build) : Type 0 where
  pub inputs_same : p.inputs ≡ b.inputs
  pub sum_same : p.sum ≡ b.sum
  pub first_same : p.first ≡ b.first
  pub set_same : p.set ≡ b.set
  pub clauses_same : p.clauses_before ≡ b.clauses_before
  pub words_same : p.words_before ≡ b.words_before

self_kin : (b : Build) → Kin b b
self_kin b = record { inputs_same = refl; sum_same = refl; first_same = refl; set_same = refl; clauses_same = refl; words_same = refl }

first_kin : (b : Build) → Kin b (build_structure b)
unfolding build_structure restructured
first_kin b = record { inputs_same = refl; sum_same = refl; first_same = refl; set_same = refl; clauses_same = refl; words_same = refl }

refined_kin : (b : Build) → Kin b (merge_structures b)
unfolding merge_structures patched with_arena restructured
refined_kin b = record { inputs_same = refl; sum_same = refl; first_same = refl; set_same = refl; clauses_same = refl; words_same = refl }

pub outputs_kin : (b p : Build) (lo end : ℕ) → Kin b p → Kin b (encode_outputs p lo end)
unfolding encode_outputs with_arena restructured
outputs_kin b p lo end k = record {
  inputs_same = k.inputs_same;
  sum_same = k.sum_same;
  first_same = k.first_same;
  set_same = k.set_same;
  clauses_same = k.clauses_same;
  words_same = k.words_same;
}

-- what the three ways keep
pub prepared_kin : (b : Build) → Kin b (prepared b)
prepared_kin b = prepared_cases (Kin b) b (λ _. first_kin b) (λ _ _. refined_kin b) (λ _ _. self_kin b)

-- z holds what was reached of c
pub record Ends_with (s : State) (z : Structure) (c : Build) : Type 0 where
  pub records_are : z.marks.records ≡ length (records c)
  pub words_are : z.marks.words ≡ clause_mark c
  pub clauses_are : z.marks.clauses ≡ clause_total c
  pub fresh_is : z.marks.fresh ≡ c.arena.fresh
  pub variables_are : s.variables + (z.marks.fresh - s.fresh) ≡ c.arena.fresh - c.first
  pub slots : Slots z c

pub state_is : (s : State) (built : ℕ) (z : Structure) (c : Build) → s.inputs ≡ c.inputs → s.sum ≡ c.sum → s.set ≡ c.set → built ≡ c.built → Ends_with s z c →
    state_after s built z ≡ state_of c
unfolding state_after state_of variable_total
state_is s built z c e₁ e₂ e₃ e₄ h =
    rw (e₁, e₂, e₃, e₄, h.records_are, h.words_are, h.clauses_are, h.variables_are, h.fresh_is, h.slots.tares_are, h.slots.tares_many, h.slots.buckets_are, h.slots.buckets_many) refl
