-- What an answer comes from: the bound in units of the built divisor, the output and the tares.
use Rattle.std.specs.Prelude.{◌≡◌, ◌≢◌, ℤ, pos}
use mathlib.Core.List.{List, ◌∷◌}
use Prim.Native.Nat.{ℕ, suc, ◌-◌, ◌/◌, ◌%◌, ◌^◌, ◌≤◌, ◌<◌}
use Rattle.std.proofs.Math.ListN.{length}
use Rattle.std.proofs.Math.IntN.{neg_ℤ}
use Rattle.rules.specs.Totalizer.{number_of}
use Rattle.rules.specs.Build.{Build, root, largest}
use Rattle.rules.specs.Enforce.{set_tares}

-- the bound in units of the built divisor
abbrev pub asked : Build → ℕ → ℕ
asked b u = u / (b.built / b.set)

-- an answer that is not empty: the negation of an output, and the tares of the bits that fill the bound up
pub record Answered (b : Build) (q : ℕ) (answer : List ℤ) : Type 0 where
  pub number : ℕ
  pub positive : 1 ≤ number
  pub defined : number_of b.arena.records (root b) (suc (q / 2 ^ length b.tares)) ≡ number
  pub is : answer ≡ neg_ℤ (pos number) ∷ set_tares b.tares (2 ^ length b.tares - 1 - q % 2 ^ length b.tares)

-- what an answer of two or more inputs comes from
pub record Enforced (b : Build) (u : ℕ) (answer : List ℤ) : Type 0 where
  pub is_built : b.built ≢ 0
  pub settled : largest b.queue < b.set
  pub answered : Answered b (asked b u) answer
