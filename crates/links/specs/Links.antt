-- Links: from a node to its outputs, a tree with four ways on from each output. They are worked out from the records.
use Rattle.std.specs.Prelude.{Bool, true, false, ◌&&◌, List, [], ◌∷◌, ◌++◌, ℕ, zero, suc, ◌/◌, ◌%◌, eqb, length, get_or}

-- what linking sees of a record: a node, an output of a node and value, or neither
pub data View : Type 0 where
  a_node : View
  an_output : ℕ → ℕ → View
  neither : View

-- where a link stands: a node has one place for it, an output four
pub data Slot : Type 0 where
  root : ℕ → Slot
  next : ℕ → ℕ → Slot

-- links: at each slot 0, or one more than the place of an output
abbrev pub Links : Type 0
Links = Slot → ℕ

-- the two slots are one
unfoldable pub same_slot : Slot → Slot → Bool
same_slot (root n) (root m) = eqb n m
same_slot (root n) (next q j) = false
same_slot (next p k) (root m) = false
same_slot (next p k) (next q j) = eqb p q && eqb k j

-- no links
unfoldable pub none : Links
none s = 0

-- the links with x at slot s
unfoldable pub put : Links → Slot → ℕ → Links
unfolding same_slot
put L s x t = elim (same_slot t s) [ true ↦ x | false ↦ L t ]

-- the record is output v of node n
unfoldable pub hits : View → ℕ → ℕ → Bool
hits (an_output m w) n v = eqb m n && eqb w v
hits a_node n v = false
hits neither n v = false

-- the one at place q is
unfoldable pub hit : List View → ℕ → ℕ → ℕ → Bool
unfolding hits
hit ks n v q = hits (get_or ks q neither) n v

-- where a walk leads: to an output, or to a slot with no link
pub data Way : Type 0 where
  found : ℕ → Way
  ended : Slot → Way

-- a walk: an output that is not the one looked for leads on by the next digit to base 4, the lowest first
unfoldable pub walk : ℕ → (ℕ → Bool) → Links → ℕ → Slot → Way
walk zero is L w s = ended s
walk (suc f) is L w s = elim (L s) [
  | zero ↦ ended s
  | suc q ↦ elim (is q) [ true ↦ found q | false ↦ walk f is L (w / 4) (next q (w % 4)) ]
]

-- the walk for output v of node n
unfoldable pub way : List View → Links → ℕ → ℕ → Way
unfolding walk hit
way ks L n v = walk (length ks) (hit ks n v) L v (root n)

-- the output at place p is linked where its walk ended; one that is there already is linked nowhere
unfoldable pub hang : Links → ℕ → Way → Links
unfolding put
hang L p (found q) = L
hang L p (ended s) = put L s (suc p)

-- the record is a node
unfoldable pub sees_node : View → Bool
sees_node a_node = true
sees_node (an_output n v) = false
sees_node neither = false

-- one record more: an output is linked if its node stands before it
unfoldable pub link : List View → Links → View → Links
unfolding hang way sees_node
link ks L a_node = L
link ks L (an_output n v) = elim (sees_node (get_or ks n neither)) [ true ↦ hang L (length ks) (way ks L n v) | false ↦ L ]
link ks L neither = L

-- the links of records, those before them linked
unfoldable pub links_from : List View → Links → List View → Links
unfolding link
links_from before L [] = L
links_from before L (x ∷ xs) = links_from (before ++ (x ∷ [])) (link before L x) xs

-- the links of records, each output linked in record order
unfoldable pub links_of : List View → Links
unfolding links_from none
links_of ks = links_from [] none ks
