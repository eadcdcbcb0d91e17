-- What one record adds to a walk over outputs or waiting entries.
use Rattle.std.specs.Prelude.{Bool, false, cond, ◌&&◌, List, map, ℕ, ◌-◌, eqb, ltb, Option, None, Some}
use Rattle.rules.specs.Lists.{any, total}
use Rattle.rules.specs.Records.{Record, Entry, node, output, waiting, unknown, node_at, entries}
use Rattle.check_outputs.specs.declared.Cost.{Cost}
use Rattle.check_outputs.specs.declared.Cost.TheVariants.{Count, Maximum, Weight}

-- the record is output v of node n
unfoldable pub defines : Record → ℕ → ℕ → Bool
defines (output o) n v = eqb n o.node && eqb v o.value
defines (node m) n v = false
defines (waiting e) n v = false
defines unknown n v = false

-- output v of node n stands among the records
unfoldable pub defined_in : ℕ → ℕ → List Record → Bool
unfolding any defines
defined_in n v rs = any (λ r. defines r n v) rs

-- the record is an output that stands among the records too
unfoldable pub again_in : Record → List Record → Bool
unfolding defined_in
again_in (output o) rs = defined_in o.node o.value rs
again_in (node m) rs = false
again_in (waiting e) rs = false
again_in unknown rs = false

-- what an entry costs: it counts 1, its node's maximum, or its weight
unfoldable pub cost : List Record → Cost → Entry → ℕ
unfolding node_at
cost rs Count e = 1
cost rs Maximum e = (node_at rs e.node).maximum
cost rs Weight e = e.weight

-- a record that is no entry costs nothing
unfoldable pub record_cost : List Record → Cost → Record → ℕ
unfolding cost
record_cost rs what (waiting e) = cost rs what e
record_cost rs what (node n) = 0
record_cost rs what (output o) = 0
record_cost rs what unknown = 0

-- the entries' costs together
unfoldable pub total_cost : List Record → Cost → List Record → ℕ
unfolding total cost entries
total_cost rs what part = total (map (cost rs what) (entries part))

-- what is left of a budget after a total, unless that is more
unfoldable pub spent : ℕ → ℕ → Option ℕ
spent budget x = cond (ltb budget x) None (Some (budget - x))
