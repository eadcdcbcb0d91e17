-- Records and their words: eight to a record, `kind, a, b, c, maximum, height, role, index`.
--
--   leaf     1  literal              maximum  height
--   join     2  left  right  halved  maximum  height
--   dummy    3                       maximum  height
--   output   4  node  value  number, as a literal
--   waiting  5  node  weight
--
-- A literal's word is twice its variable, one more for a negation. Words that a record does not use are 0.
use Rattle.std.specs.Prelude.{Bool, true, false, cond, List, [], ◌∷◌, ◌++◌, ℕ, zero, suc, ◌+◌, ◌*◌, ◌/◌, ◌%◌, eqb, get_or, take, drop, ℤ, pos, negsuc, neg_ℤ}
use Rattle.rules.specs.Lists.{same}
use Rattle.rules.specs.Numbers.{record_words}

-- a node is a leaf with its literal, a join of a left and a right node, the right one halved or not, or a dummy
pub data Kind : Type 0 where
  leaf : ℤ → Kind
  join : Bool → ℕ → ℕ → Kind
  dummy : Kind

-- a node has a maximum and a height
pub record Node : Type 0 where
  pub kind : Kind
  pub maximum : ℕ
  pub height : ℕ

-- a defined output: its number means that the node's value is at least `value`
pub record Output : Type 0 where
  pub node : ℕ
  pub value : ℕ
  pub number : ℕ

-- a waiting queue entry
pub record Entry : Type 0 where
  pub node : ℕ
  pub weight : ℕ

-- records are nodes, defined outputs and waiting queue entries; a node is known by its place among the records
pub data Record : Type 0 where
  node : Node → Record
  output : Output → Record
  waiting : Entry → Record
  unknown : Record

-- a literal as a word
unfoldable pub literal_word : ℤ → ℕ
literal_word (pos n) = 2 * n
literal_word (negsuc n) = 2 * suc n + 1

-- the literal of a word
unfoldable pub word_literal : ℕ → ℤ
word_literal w = cond (eqb (w % 2) 0) (pos (w / 2)) (neg_ℤ (pos (w / 2)))

-- a node's words
unfoldable pub node_image : Kind → ℕ → ℕ → List ℕ
unfolding literal_word
node_image (leaf x) m h = 1 ∷ literal_word x ∷ 0 ∷ 0 ∷ m ∷ h ∷ 0 ∷ 0 ∷ []
node_image (join half l r) m h = 2 ∷ l ∷ r ∷ cond half 1 0 ∷ m ∷ h ∷ 0 ∷ 0 ∷ []
node_image dummy m h = 3 ∷ 0 ∷ 0 ∷ 0 ∷ m ∷ h ∷ 0 ∷ 0 ∷ []

-- a record's words
unfoldable pub record_image : Record → List ℕ
unfolding node_image literal_word
record_image (node n) = node_image n.kind n.maximum n.height
record_image (output o) = 4 ∷ o.node ∷ o.value ∷ literal_word (pos o.number) ∷ 0 ∷ 0 ∷ 0 ∷ 0 ∷ []
record_image (waiting e) = 5 ∷ e.node ∷ e.weight ∷ 0 ∷ 0 ∷ 0 ∷ 0 ∷ 0 ∷ []
record_image unknown = 0 ∷ 0 ∷ 0 ∷ 0 ∷ 0 ∷ 0 ∷ 0 ∷ 0 ∷ []

-- the words of the records
unfoldable pub image_of : List Record → List ℕ
unfolding record_image
image_of [] = []
image_of (r ∷ rs) = record_image r ++ image_of rs

-- what the words that a record uses say: the kind picks
unfoldable pub reading : ℕ → ℕ → ℕ → ℕ → ℕ → ℕ → Record
unfolding word_literal
reading kind a b c m h =
    get_or (
    unknown ∷
    node (record { kind = leaf (word_literal a); maximum = m; height = h }) ∷
    node (record { kind = join (eqb c 1) a b; maximum = m; height = h }) ∷
    node (record { kind = dummy; maximum = m; height = h }) ∷
    output (record { node = a; value = b; number = c / 2 }) ∷
    waiting (record { node = a; weight = b }) ∷ []) kind unknown

-- the record of eight words: the one whose image they are, else unknown
unfoldable pub record_of : List ℕ → Record
unfolding reading record_image same
record_of ws =
    let r : Record = reading (get_or ws 0 0) (get_or ws 1 0) (get_or ws 2 0) (get_or ws 3 0) (get_or ws 4 0) (get_or ws 5 0) in
    cond (same (record_image r) ws) r unknown

-- the first n records of a store
unfoldable pub records_of : List ℕ → ℕ → List Record
unfolding record_of
records_of ws zero = []
records_of ws (suc n) = record_of (take record_words ws) ∷ records_of (drop record_words ws) n

-- a leaf's height is 0, its maximum 1
unfoldable pub leaf_node : ℤ → Node
leaf_node x = record { kind = leaf x; maximum = 1; height = 0 }

-- a dummy's height is 0, its maximum 0
unfoldable pub dummy_node : Node
dummy_node = record { kind = dummy; maximum = 0; height = 0 }

-- a record as a node; where it is none, a dummy
unfoldable pub node_of : Record → Node
unfolding dummy_node
node_of (node n) = n
node_of (output o) = dummy_node
node_of (waiting e) = dummy_node
node_of unknown = dummy_node

-- the node at place n
unfoldable pub node_at : List Record → ℕ → Node
unfolding node_of
node_at rs n = node_of (get_or rs n unknown)

-- a join's left link, 0 where a node has none
unfoldable pub left_link : Kind → ℕ
left_link (join half l r) = l
left_link (leaf x) = 0
left_link dummy = 0

-- and the right one
unfoldable pub right_link : Kind → ℕ
right_link (join half l r) = r
right_link (leaf x) = 0
right_link dummy = 0

-- the nodes, in record order
unfoldable pub nodes : List Record → List Node
nodes [] = []
nodes (node n ∷ rs) = n ∷ nodes rs
nodes (output o ∷ rs) = nodes rs
nodes (waiting e ∷ rs) = nodes rs
nodes (unknown ∷ rs) = nodes rs

-- the defined outputs, in record order
unfoldable pub outputs : List Record → List Output
outputs [] = []
outputs (output o ∷ rs) = o ∷ outputs rs
outputs (node n ∷ rs) = outputs rs
outputs (waiting e ∷ rs) = outputs rs
outputs (unknown ∷ rs) = outputs rs

-- the waiting entries, in record order
unfoldable pub entries : List Record → List Entry
entries [] = []
entries (waiting e ∷ rs) = e ∷ entries rs
entries (node n ∷ rs) = entries rs
entries (output o ∷ rs) = entries rs
entries (unknown ∷ rs) = entries rs

-- the record is a waiting entry
unfoldable pub waits : Record → Bool
waits (waiting e) = true
waits (node n) = false
waits (output o) = false
waits unknown = false
