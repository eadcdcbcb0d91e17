-- Signed words of a lent slice.
use Rattle.std.specs.Prelude.{cond, List, ℕ, get_or, set, ℤ, pos}
use Rattle.rules.specs.Numbers.{lawful}
use Rattle.rules.specs.Records.{literal_word}

-- the signed number at i, 0 past the end
unfoldable pub signed_at : List ℤ → ℕ → ℤ
signed_at xs i = get_or xs i (pos 0)

-- the list with x at i; past the end nothing changes
unfoldable pub put_signed : List ℤ → ℕ → ℤ → List ℤ
put_signed xs i x = set xs i x

-- the word of a literal, 0 for a number that is none
unfoldable pub word_or_none : ℤ → ℕ
unfolding lawful literal_word
word_or_none x = cond (lawful x) (literal_word x) 0
