-- "Totalizer". A node is known by its place among the records; defining outputs adds records and changes none.
use Rattle.std.specs.Prelude.{Bool, true, false, cond, ◌&&◌, List, [], ◌∷◌, ◌++◌, map, ℕ, zero, suc, ◌+◌, ◌*◌, ◌-◌, ◌/◌, min, max, eqb, length, take, drop, ℤ, pos, neg_ℤ}
use Rattle.rules.specs.Lists.{in_turn}
use Rattle.rules.specs.Records.{Kind, leaf, join, dummy, Node, Output, Record, node, output, node_at, outputs}

-- what building and defining write: nodes and outputs, the next fresh number, clauses
pub record Arena : Type 0 where
  pub records : List Record
  pub fresh : ℕ
  pub clauses : List (List ℤ)

-- a halved side counts half rounded down
unfoldable pub counts : Bool → ℕ → ℕ
counts false x = x
counts true x = x / 2

-- right output b is 2b through a halving
unfoldable pub asks : Bool → ℕ → ℕ
asks false b = b
asks true b = 2 * b

-- a node's maximum is left plus right, a halved side counting half rounded down; its height is one above its higher link
unfoldable pub joining : List Record → Bool → ℕ → ℕ → Node
unfolding node_at counts
joining rs half l r = record {
  kind = join half l r;
  maximum = (node_at rs l).maximum + counts half (node_at rs r).maximum;
  height = suc (max (node_at rs l).height (node_at rs r).height);
}

-- the records with one node more, and its place
unfoldable pub add : List Record → Node → List Record × ℕ
add rs n = (rs ++ (node n ∷ []), length rs)

-- one member is itself; n members split into the first n/2 (rounded down) and the others, left merged first
unfoldable pub merge_by : ℕ → List Record → List ℕ → List Record × ℕ
unfolding add joining
merge_by zero rs ms = (rs, 0)
merge_by (suc f) rs [] = (rs, 0)
merge_by (suc f) rs (m ∷ []) = (rs, m)
merge_by (suc f) rs (m ∷ m' ∷ ms) =
    let half : ℕ = length (m ∷ m' ∷ ms) / 2 in
    let (rs₁, l) = merge_by f rs (take half (m ∷ m' ∷ ms)) in
    let (rs₂, r) = merge_by f rs₁ (drop half (m ∷ m' ∷ ms)) in
    add rs₂ (joining rs₂ false l r)

-- merging a list: its length is fuel enough
unfoldable pub merge : List Record → List ℕ → List Record × ℕ
unfolding merge_by
merge rs ms = merge_by (length ms) rs ms

-- the number of output v of node n, 0 where it is not defined: no number is 0
unfoldable pub number_in : List Output → ℕ → ℕ → ℕ
number_in [] n v = 0
number_in (o ∷ os) n v = cond (eqb o.node n && eqb o.value v) o.number (number_in os n v)

-- the same among the records
unfoldable pub number_of : List Record → ℕ → ℕ → ℕ
unfolding number_in outputs
number_of rs n v = number_in (outputs rs) n v

-- output v of a node as a literal; a leaf's output is its literal
unfoldable pub literal_of : Kind → ℕ → ℤ
literal_of (leaf x) number = x
literal_of (join half l r) number = pos number
literal_of dummy number = pos number

-- k pairs that add to v, the first with a
unfoldable pub pairs_from : ℕ → ℕ → ℕ → List (ℕ × ℕ)
pairs_from zero a v = []
pairs_from (suc k) a v = (a, v - a) ∷ pairs_from k (suc a) v

-- each a + b = v within the two maxima, a rising
unfoldable pub pairs : ℕ → ℕ → ℕ → List (ℕ × ℕ)
unfolding pairs_from
pairs left right v = pairs_from (suc (min v left) - (v - right)) (v - right) v

-- what a side adds to a clause: its output negated; a side that is 0 is left out
unfoldable pub side : List Record → ℕ → ℕ → List ℤ
unfolding literal_of node_at number_of
side rs n zero = []
side rs n (suc v) = neg_ℤ (literal_of (node_at rs n).kind (number_of rs n (suc v))) ∷ []

-- the clause of a pair: negated left, negated right, output
unfoldable pub clause : List Record → Bool → ℕ → ℕ → ℕ → ℕ × ℕ → List ℤ
unfolding side asks
clause rs half l r number p = side rs l p.0 ++ (side rs r (asks half p.1) ++ (pos number ∷ []))

-- write for each pair, a rising, the clause
unfoldable pub write : Bool → ℕ → ℕ → ℕ → List (ℕ × ℕ) → Arena → Arena
unfolding clause
write half l r number ps s = record {
  records = s.records;
  fresh = s.fresh;
  clauses = s.clauses ++ map (clause s.records half l r number) ps;
}

-- take the next number for output v of node n
unfoldable pub take_number : ℕ → ℕ → Arena → Arena
take_number n v s = record {
  records = s.records ++ (output (record { node = n; value = v; number = s.fresh }) ∷ []);
  fresh = suc s.fresh;
  clauses = s.clauses;
}

-- what defining output v of node n makes of an arena
abbrev pub Define : Type 0
Define = Arena → ℕ → ℕ → Arena

-- a connection asks its node, skipping 0
unfoldable pub ask : Define → Arena → ℕ → ℕ → Arena
ask define s n zero = s
ask define s n (suc v) = define s n (suc v)

-- first define left output a, then right output b (2b through a halving)
unfoldable pub ask_pair : Define → Bool → ℕ → ℕ → Arena → ℕ × ℕ → Arena
unfolding ask asks
ask_pair define half l r s p = ask define (ask define s l p.0) r (asks half p.1)

-- skip what is defined; else ask for each pair, then take the next number and write the clauses
unfoldable pub define_join : Define → ℕ → ℕ → Bool → ℕ → ℕ → List (ℕ × ℕ) → ℕ → Arena → Arena
unfolding in_turn ask_pair write take_number
define_join define n v half l r ps zero s =
    let t : Arena = in_turn (ask_pair define half l r) s ps in
    take_number n v (write half l r t.fresh ps t)
define_join define n v half l r ps (suc number) s = s

-- an output asks its connections; a leaf's output is its literal and a dummy has none
unfoldable pub define_kind : Define → ℕ → ℕ → Kind → Arena → Arena
unfolding define_join node_at pairs counts number_of
define_kind define n v (leaf x) s = s
define_kind define n v (join half l r) s =
    define_join define n v half l r
    (pairs (node_at s.records l).maximum (counts half (node_at s.records r).maximum) v)
    (number_of s.records n v)
    s
define_kind define n v dummy s = s

-- to define v at node n; the remaining height falls, so the node's height is fuel enough
unfoldable pub define : ℕ → Define
unfolding define_kind node_at
define zero s n v = s
define (suc h) s n v = define_kind (define h) n v (node_at s.records n).kind s

-- output v of node n of an arena, defined
unfoldable pub define_output : Define
unfolding define node_at
define_output s n v = define (node_at s.records n).height s n v
