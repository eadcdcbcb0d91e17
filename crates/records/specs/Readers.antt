-- What the readers answer of a record; 0 or no where the record is of another kind.
use Rattle.std.specs.Prelude.{Bool, true, false, ℕ, pos}
use Rattle.rules.specs.Records.{Kind, leaf, join, dummy, Record, node, output, waiting, unknown, literal_word}

-- the node is a join
unfoldable pub is_join : Kind → Bool
is_join (join half l r) = true
is_join (leaf x) = false
is_join dummy = false

-- the node is a join whose right side is halved
unfoldable pub is_halved : Kind → Bool
is_halved (join half l r) = half
is_halved (leaf x) = false
is_halved dummy = false

-- a leaf's literal as a word
unfoldable pub leaf_word : Kind → ℕ
unfolding literal_word
leaf_word (leaf x) = literal_word x
leaf_word (join half l r) = 0
leaf_word dummy = 0

-- the record is an output
unfoldable pub is_output : Record → Bool
is_output (output o) = true
is_output (node n) = false
is_output (waiting e) = false
is_output unknown = false

-- an output's node
unfoldable pub output_node : Record → ℕ
output_node (output o) = o.node
output_node (node n) = 0
output_node (waiting e) = 0
output_node unknown = 0

-- an output's value
unfoldable pub output_value : Record → ℕ
output_value (output o) = o.value
output_value (node n) = 0
output_value (waiting e) = 0
output_value unknown = 0

-- an output's number as a literal's word
unfoldable pub output_number : Record → ℕ
unfolding literal_word
output_number (output o) = literal_word (pos o.number)
output_number (node n) = 0
output_number (waiting e) = 0
output_number unknown = 0

-- a waiting entry's node
unfoldable pub entry_node : Record → ℕ
entry_node (waiting e) = e.node
entry_node (node n) = 0
entry_node (output o) = 0
entry_node unknown = 0

-- a waiting entry's weight
unfoldable pub entry_weight : Record → ℕ
entry_weight (waiting e) = e.weight
entry_weight (node n) = 0
entry_weight (output o) = 0
entry_weight unknown = 0
