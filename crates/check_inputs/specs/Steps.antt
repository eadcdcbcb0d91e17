-- What the walks over inputs ask.
use Rattle.std.specs.Prelude.{Bool, false, List, ℕ, eqb}
use Rattle.rules.specs.Lists.{any}
use Rattle.rules.specs.Records.{Record, node, output, waiting, unknown}

-- the record is a waiting entry of node n
unfoldable pub is_entry : ℕ → Record → Bool
is_entry n (waiting e) = eqb n e.node
is_entry n (node m) = false
is_entry n (output o) = false
is_entry n unknown = false

-- node n waits among the records
unfoldable pub waits_in : List Record → ℕ → Bool
unfolding any is_entry
waits_in rs n = any (is_entry n) rs
