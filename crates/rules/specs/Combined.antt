-- Ask 4 of document 02, "the same volume twice": the combined list of the lines that start is sent.
use Rattle.std.specs.Prelude.{cond, List, [], ◌∷◌, ◌++◌, map, ℕ, ◌+◌, eqb, ℤ}
use Rattle.rules.specs.Lists.{in_turn, among}
use Rattle.rules.specs.Records.{literal_word}

-- a literal joins the list unless it stands there (x and its negation are distinct)
unfoldable pub joined : List ℤ → ℤ → List ℤ
unfolding among literal_word
joined xs x = cond (among (map literal_word xs) (literal_word x)) xs (xs ++ (x ∷ []))

-- first places kept in order
unfoldable pub combined_literals : List ℤ → List ℤ
unfolding in_turn joined
combined_literals lits = in_turn joined [] lits

-- the weights of the lines that name x, added
unfoldable pub weight_named : List ℤ → List ℕ → ℤ → ℕ
unfolding literal_word
weight_named [] weights x = 0
weight_named (y ∷ lits) [] x = 0
weight_named (y ∷ lits) (w ∷ weights) x = cond (eqb (literal_word x) (literal_word y)) w 0 + weight_named lits weights x

-- weights added
unfoldable pub combined_weights : List ℤ → List ℕ → List ℕ
unfolding weight_named combined_literals
combined_weights lits weights = map (weight_named lits weights) (combined_literals lits)
