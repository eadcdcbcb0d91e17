-- Words read and written, and a list laid over the front of another.
use Rattle.std.specs.Prelude.{List, ◌++◌, ℕ, length, get_or, set, drop}

-- the word at i, 0 past the end
unfoldable pub word_at : List ℕ → ℕ → ℕ
word_at s i = get_or s i 0

-- the words with w at i; past the end nothing changes
unfoldable pub put_word : List ℕ → ℕ → ℕ → List ℕ
put_word s i w = set s i w

-- a list laid over the front of another
unfoldable pub laid : {A : Type 0} → List A → List A → List A
laid xs s = xs ++ drop (length xs) s
