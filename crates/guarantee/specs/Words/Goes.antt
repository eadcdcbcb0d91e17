-- What calls lead memory to.
use Rattle.std.specs.Prelude.{◌≡◌, ◌⊎◌, ℕ}
use Rattle.rules.specs.Build.{Build}
use Rattle.rules.specs.Encode.{encode}
use Rattle.guarantee.specs.Histories.Worlds.{Leads}
use Rattle.guarantee.specs.Calls.{Memory}
use Rattle.guarantee.specs.Words.Shows.{Shows}

-- a build that calls lead to, and memory that shows it
pub record Goes (b : Build) (m : Memory) : Type 0 where
  pub build : Build
  pub leads : Leads b build
  pub shows : Shows m build

-- what an encode leaves shows the build as it was, or the one that encode reaches
pub record Encodes (b : Build) (lo end : ℕ) (m : Memory) : Type 0 where
  pub build : Build
  pub how : (build ≡ b) ⊎ (build ≡ encode b lo end)
  pub leads : Leads b build
  pub shows : Shows m build
