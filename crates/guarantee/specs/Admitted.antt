-- Demand 3 and Ask 13 over words, as one promise: any run of calls on lent slices, with the clause words in the buffer read as clauses.
use Rattle.std.specs.Prelude.{true, ℕ, ◌≤◌, ℤ}
use mathlib.Core.List.{List, [], ◌∷◌}
use Rattle.guarantee.specs.Promise.{sum_of, Promised}
use Rattle.guarantee.specs.Calls.{Memory, Run, clauses_in}

-- What an answer for u promises that was given in m. An empty one: all inputs together, divided by the set divisor, stay within u. One that is
-- not: what `Promised` says of any n that calls lead to, with the clauses in its buffer
abbrev pub Promises : List ℤ → List ℕ → Memory → ℕ → List ℤ → Type 0
Promises xs ws m u [] = sum_of xs ws m.state.set (λ x. true) ≤ u
Promises xs ws m u (l ∷ ls) = (n : Memory) → Run m n → Promised xs ws m.state.set m.state.built u (l ∷ ls) n.state.built (clauses_in n)
