-- What an answer promises, as demand 3, Ask 2 and Ask 13 say it: the sum of a load, when a load is admitted, and what is admitted over which divisors.
use Rattle.std.specs.Prelude.{◌≡◌, ◌↔◌, List, [], ◌∷◌, ℕ, suc, ◌+◌, ◌*◌, ◌-◌, ◌/◌, ◌≤◌, length, ℤ}
use Rattle.laws.specs.Lists.Facts.{All}
use Rattle.guarantee.specs.Meaning.Truth.{Assign, Truths, holds, Sat, Held}
use Rattle.guarantee.specs.Meaning.Values.{bit}

-- the weights of the inputs that are true, each divided by d and rounded down, added up
abbrev pub sum_of : List ℤ → List ℕ → ℕ → Truths → ℕ
sum_of [] ws d t = 0
sum_of (x ∷ xs) [] d t = 0
sum_of (x ∷ xs) (w ∷ ws) d t = w / d * bit (t x) + sum_of xs ws d t

-- an assignment of the inputs xs is admitted: some assignment of all variables agrees with it on them and satisfies every clause and every
-- literal of the answer
pub record Admits (xs : List ℤ) (clauses : List (List ℤ)) (answer : List ℤ) (α : Assign) : Type 0 where
  pub all : Assign
  pub agrees : All (λ x. holds all x ≡ holds α x) xs
  pub satisfies : Sat all clauses
  pub answered : Held all answer

-- Two or more inputs, and a non-empty answer for u, given while the set divisor was d and the built divisor D; the built divisor later is D', and
-- these are the clauses then. The bound in units of D is u times d divided by D, rounded down
pub record Refined (xs : List ℤ) (ws : List ℕ) (d D u : ℕ) (answer : List ℤ) (D' : ℕ) (clauses : List (List ℤ)) : Type 0 where
  pub is_built : 1 ≤ D
  -- D' divides D
  pub divides : D / D' * D' ≡ D
  -- it admits exactly the loads whose sum at D' is at most (D/D')(q + 1) - 1, q being u d / D
  pub admits : (α : Assign) → Admits xs clauses answer α ↔ (sum_of xs ws D' (holds α) ≤ D / D' * suc (u * d / D) - 1)

-- One input or more, the rest as above
pub record Promised (xs : List ℤ) (ws : List ℕ) (d D u : ℕ) (answer : List ℤ) (D' : ℕ) (clauses : List (List ℤ)) : Type 0 where
  -- with no refinement in between it admits exactly the loads whose sum at d is at most u
  pub unrefined : D' ≡ D → (α : Assign) → Admits xs clauses answer α ↔ (sum_of xs ws d (holds α) ≤ u)
  -- over one input nothing is built, so nothing is refined
  pub one_input : length xs ≡ 1 → D' ≡ D
  pub two_inputs : 2 ≤ length xs → Refined xs ws d D u answer D' clauses
