-- The words of the literals of a list.
use Rattle.std.specs.Prelude.{List, map, ℕ, ℤ}
use Rattle.numbers.specs.Signed.{word_or_none}

-- the word of each literal, 0 where a number is none
unfoldable pub words : List ℤ → List ℕ
unfolding word_or_none
words lits = map word_or_none lits
