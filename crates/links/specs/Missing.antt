-- The outputs below an output that are missing, in the order in which the rule asks.
use Rattle.std.specs.Prelude.{◌≡◌, ◌⊎◌, Bool, true, false, cond, List, [], ◌∷◌, ℕ, zero, suc, ◌≤◌}
use Rattle.rules.specs.Records.{Kind, leaf, join, dummy, Record, node_at}
use Rattle.rules.specs.Totalizer.{Arena, Define, ask, asks, counts, pairs, number_of, define}

-- what the pairs ask for, in order: left output a, then right output b (2b through a halving)
unfoldable pub sides : Bool → ℕ → ℕ → List (ℕ × ℕ) → List (ℕ × ℕ)
unfolding asks
sides half l r [] = []
sides half l r (p ∷ ps) = (l, p.0) ∷ (r, asks half p.1) ∷ sides half l r ps

-- an output, node and value, asked for
unfoldable pub asking : Define → Arena → ℕ × ℕ → Arena
unfolding ask
asking d s x = ask d s x.0 x.1

-- an output of a join that has no number yet
unfoldable pub lacks : Kind → ℕ → Bool
lacks (leaf x) number = false
lacks (join half l r) zero = true
lacks (join half l r) (suc number) = false
lacks dummy number = false

-- output v of node n is missing
unfoldable pub missing : List Record → ℕ × ℕ → Bool
unfolding lacks node_at number_of
missing rs x = lacks (node_at rs x.0).kind (number_of rs x.0 x.1)

-- a connection asks for an output that is missing; 0 asks for nothing
unfoldable pub wanting : List Record → ℕ × ℕ → Bool
unfolding missing
wanting rs (n, zero) = false
wanting rs (n, suc v) = missing rs (n, suc v)

-- the sides from the first that wants its output on
unfoldable pub rest : List Record → List (ℕ × ℕ) → List (ℕ × ℕ)
unfolding wanting
rest rs [] = []
rest rs (x ∷ xs) = cond (wanting rs x) (x ∷ xs) (rest rs xs)

-- what an output of a node asks for, in order
unfoldable pub asked : List Record → ℕ → Kind → List (ℕ × ℕ)
unfolding sides pairs counts node_at
asked rs v (leaf x) = []
asked rs v (join half l r) = sides half l r (pairs (node_at rs l).maximum (counts half (node_at rs r).maximum) v)
asked rs v dummy = []

-- the sides of an output from the first missing one on
unfoldable pub wants : List Record → ℕ × ℕ → List (ℕ × ℕ)
unfolding rest asked node_at
wants rs x = rest rs (asked rs x.1 (node_at rs x.0).kind)

-- an output with the height that is left for it is defined
unfoldable pub put : Arena → ℕ × (ℕ × ℕ) → Arena
unfolding define
put s x = define x.0 s x.1.0 x.1.1

-- from x down to y, each time to the first missing side, with one height less
pub data Below (rs : List Record) (x : ℕ × (ℕ × ℕ)) : ℕ × (ℕ × ℕ) → Type 0 where
  here : Below rs x x
  further : (k : ℕ) (y z : ℕ × ℕ) (zs : List (ℕ × ℕ)) → wants rs y ≡ z ∷ zs → Below rs x (suc k, y) → Below rs x (k, z)

-- down from the top, or from p, which is missing
abbrev pub Reached : List Record → ℕ × (ℕ × ℕ) → ℕ × (ℕ × ℕ) → ℕ × (ℕ × ℕ) → Type 0
Reached rs top p y = Below rs top y ⊎ ((missing rs p.1 ≡ true) × Below rs p y)

-- the way down goes no further: no height is left, the node is at most the limit high, or no side is missing
abbrev pub Ends : ℕ → List Record → ℕ × (ℕ × ℕ) → Type 0
Ends limit rs x = (x.0 ≡ 0) ⊎ (((node_at rs x.1.0).height ≤ limit) ⊎ (wants rs x.1 ≡ []))
