-- What a well formed state and store give the calls that read them.
use mathlib.Core.Path.{◌≡◌}
use mathlib.Core.Bool.{true}
use mathlib.Core.List.{List}
use Prim.Native.Nat.{ℕ, ◌≤◌}
use lib.IntN.{ℤ}
use lib.ListN.{length}
use Rattle.rules.specs.declared.State.{State}
use Rattle.rules.specs.Build.{held, tares_of}
use Rattle.rules.specs.WellFormed.{well_formed}
use Rattle.laws.specs.WellFormed.Plain.{WellFormed}
use Rattle.laws.specs.WellFormed.Whole.{well_formed_facts}
use Rattle.laws.specs.WellFormed.ToPlain.{slots_count}
use Rattle.records.specs.Carries.{Stores}
use Rattle.records_waiting.proofs.Whole.{readable}

module _ (s : State) (store : List ℕ) (clauses : List ℤ) (formed : well_formed s store clauses ≡ true) where
  facts : WellFormed s store clauses
  facts = well_formed_facts s store clauses formed

  pub formed_stores : Stores store s.records (held s store)
  formed_stores = (readable s store clauses facts).stores

  pub formed_few : s.tares_used ≤ 19
  formed_few = facts.laid.tares_few

  pub formed_tares : length (tares_of s) ≡ s.tares_used
  unfolding tares_of
  formed_tares = slots_count 19 s.tares_used s.tares facts.laid.tares_few facts.laid.tares_laid
