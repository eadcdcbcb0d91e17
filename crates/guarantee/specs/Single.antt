-- Ask 2: one input as calls leave it, and what its answers say.
use Rattle.std.specs.Prelude.{◌≡◌, ◌↔◌, ℤ}
use Rattle.std.proofs.Math.Bool.{true}
use Rattle.std.proofs.Math.Option.{some}
use mathlib.Core.List.{List, [], ◌∷◌}
use Prim.Native.Nat.{ℕ, ◌≤◌}
use Rattle.rules.specs.Build.{Build}
use Rattle.rules.specs.Start.{new_build}
use Rattle.rules.specs.Enforce.{enforce}
use Rattle.guarantee.specs.Meaning.Truth.{Assign, holds}
use Rattle.guarantee.specs.Promise.{sum_of, Admits}
use Rattle.guarantee.specs.Histories.Worlds.{Leads}

-- one input x of weight w, as start left it but for the set divisor
pub record Single (x : ℤ) (w first : ℕ) (b : Build) : Type 0 where
  pub one_input : b.inputs ≡ 1
  pub not_built : b.built ≡ 0
  pub sum_is : b.sum ≡ w
  pub queue_is : b.queue ≡ record { node = 0; weight = w } ∷ []
  pub arena_is : b.arena ≡ (new_build (x ∷ []) (w ∷ []) first).arena

-- what answers of one input say in a world that a start of it leads to
pub record Alone (xs : List ℤ) (ws : List ℕ) (b : Build) : Type 0 where
  pub admits : (u : ℕ) (l : ℤ) (ls : List ℤ) → enforce b u ≡ some (l ∷ ls) → (c : Build) → Leads b c → (α : Assign) →
      Admits xs c.arena.clauses (l ∷ ls) α ↔ (sum_of xs ws b.set (holds α) ≤ u)
  pub empty : (u : ℕ) → enforce b u ≡ some [] → sum_of xs ws b.set (λ x. true) ≤ u
  pub kept : (c : Build) → Leads b c → c.built ≡ b.built
