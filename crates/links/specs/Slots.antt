-- Slots of links: the records that they belong to, and links up to a place.
use Rattle.std.specs.Prelude.{Bool, true, false, cond, ◌&&◌, List, ℕ, suc, leb, ltb, get_or}
use Rattle.links.specs.Links.{View, a_node, an_output, neither, Slot, root, next, Links, sees_node}

-- the record is an output
unfoldable pub sees_output : View → Bool
sees_output a_node = false
sees_output (an_output n v) = true
sees_output neither = false

-- a link up to m, else 0
unfoldable pub up_to : ℕ → ℕ → ℕ
up_to m x = cond (leb x m) x 0

-- the links up to m
unfoldable pub cut : ℕ → Links → Links
unfolding up_to
cut m L s = up_to m (L s)

-- the record that a slot belongs to
unfoldable pub owner : Slot → ℕ
owner (root n) = n
owner (next p k) = p

-- links lead past it
unfoldable pub low : Slot → ℕ
unfolding owner
low s = suc (owner s)

-- a node has its root, an output its four ways on
unfoldable pub has : View → Slot → Bool
unfolding sees_node sees_output
has x (root n) = sees_node x
has x (next p k) = sees_output x && ltb k 4

-- the slot has a word
unfoldable pub stands : List View → Slot → Bool
unfolding has owner
stands ks s = has (get_or ks (owner s) neither) s
