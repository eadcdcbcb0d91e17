-- "The totals of clauses and fresh variables reported equal the clauses in the buffer and the numbers taken": over words, after any run of calls.
use Rattle.std.specs.Prelude.{◌≡◌, length}
use Prim.Native.Nat.{ℕ, ◌+◌}
use Rattle.rules.specs.Records.{outputs}
use Rattle.rules.specs.Build.{held}
use Rattle.guarantee.specs.Calls.{Memory, clauses_in}

-- the totals that memory m bears out, `first` being the first fresh number that start was given
pub record Totals (first clauses variables : ℕ) (m : Memory) : Type 0 where
  -- the clauses in the buffer
  pub clauses_are : clauses ≡ length (clauses_in m)
  -- the numbers taken: those from the first one up to the next fresh one
  pub taken : first + variables ≡ m.state.fresh
  -- and each is a tare's or an output's
  pub variables_are : variables ≡ m.state.tares_used + length (outputs (held m.state m.store))
