-- What the reading calls need of a state and a store: facts that well formed gives.
use Rattle.std.specs.Prelude.{List, ℕ}
use Rattle.rules.specs.declared.State.{State}
use Rattle.rules.specs.Build.{build_of, held}
use Rattle.laws.specs.WellFormed.Plain.{Formed, Laid}
use Rattle.records.specs.Carries.{Stores}

-- a state and a store that hold a build
pub record Readable (s : State) (store : List ℕ) : Type 0 where
  pub stores : Stores store s.records (held s store)
  pub laid : Laid s (held s store)
  pub formed : Formed (build_of s store)
