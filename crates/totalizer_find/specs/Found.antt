-- What is found, as words: none where there is nothing.
use Rattle.std.specs.Prelude.{List, [], ◌∷◌, ℕ, zero, suc, ℤ, pos, Option, Some, None}
use Rattle.rules.specs.Records.{literal_word}

-- a number as a literal's word, none for 0: no number is 0
unfoldable pub number_word : ℕ → Option ℕ
unfolding literal_word
number_word zero = None
number_word (suc n) = Some (literal_word (pos (suc n)))

-- what a side adds to a clause, as a word
unfoldable pub side_word : List ℤ → Option ℕ
unfolding literal_word
side_word [] = None
side_word (x ∷ xs) = Some (literal_word x)
