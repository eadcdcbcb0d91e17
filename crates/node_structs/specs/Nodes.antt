-- What the nodes of a slice hold of the records that they were copied from.
use Rattle.std.specs.Prelude.{◌≡◌, true, cond, List, ℕ, ◌/◌, ◌≤◌, ◌<◌, min, eqb, length, get_or}
use Rattle.rules.specs.Records.{Record, node_at, right_link}
use Rattle.rules.specs.Totalizer.{counts}
use Rattle.records.specs.Words.{field_at}
use Rattle.records.specs.Carries.{Stores}
use Rattle.node_structs.specs.declared.Node.{Node}

abbrev pub node_of : ℕ → ℕ → Node
node_of l m = record { link = l; maximum = m }

-- node n of a slice, all 0 past its end
abbrev pub node_in : List Node → ℕ → Node
node_in ns n = get_or ns n (node_of 0 0)

-- link and maximum of record n, by the words: a join's link is its third word, any maximum the fifth
unfoldable pub read_node : List ℕ → ℕ → ℕ → Node
unfolding field_at
read_node s records n = node_of (cond (eqb (field_at s records n 0) 2) (field_at s records n 2) 0) (field_at s records n 4)

-- link and maximum of node n of the records
unfoldable pub node_among : List Record → ℕ → Node
unfolding node_at right_link
node_among rs n = node_of (right_link (node_at rs n).kind) (node_at rs n).maximum

-- the first r nodes are those of the records, as many as both hold; the others are kept
pub record Copies (ns ns' : List Node) (s : List ℕ) (records r : ℕ) : Type 0 where
  pub count_is : r ≡ min (length ns) (min records (length s / 8))
  pub same_length : length ns' ≡ length ns
  pub copied : (n : ℕ) → n < r → node_in ns' n ≡ read_node s records n
  pub means : (rs : List Record) → Stores s records rs → (n : ℕ) → n < r → node_in ns' n ≡ node_among rs n
  pub kept : (n : ℕ) → r ≤ n → node_in ns' n ≡ node_in ns n

-- half the maximum of the node that bucket b links to, rounded down
unfoldable pub former_half_in : List Node → ℕ → ℕ
unfolding counts
former_half_in ns b = counts true (node_in ns (node_in ns b).link).maximum
