-- The words that a clause is written by, and the clause that they are.
use Rattle.std.specs.Prelude.{cond, Option, Some, None, List, [], ◌∷◌, ◌++◌, ℕ, ◌+◌, ltb, length, ℤ}
use Rattle.rules.specs.Records.{word_literal}
use Rattle.rules.specs.Totalizer.{Arena}
use Rattle.numbers.specs.Signed.{put_signed}

-- what a side adds to a clause: its word's literal, nothing where it is left out
unfoldable pub side_of : Option ℕ → List ℤ
side_of (Some w) = word_literal w ∷ []
side_of None = []

-- a clause buffer and its mark
pub data Buf : Type 0 where
  buf : List ℤ → ℕ → Buf

unfoldable pub push : Buf → ℕ → Buf
push (buf c i) w = cond (ltb i (length c)) (buf (put_signed c i (word_literal w)) (i + 1)) (buf c i)

unfoldable pub push_side : Buf → Option ℕ → Buf
unfolding push
push_side b (Some w) = push b w
push_side b None = b

unfoldable pub push_clause : Buf → Option ℕ → Option ℕ → ℕ → Buf
push_clause b p q o = push (push (push_side (push_side b p) q) o) 0

-- one clause more
unfoldable pub with_clause : List ℤ → Arena → Arena
with_clause c t = record { records = t.records; fresh = t.fresh; clauses = t.clauses ++ (c ∷ []) }

-- a clause of two sides and an output, by their words
unfoldable pub clause_of : Option ℕ → Option ℕ → ℕ → List ℤ
unfolding side_of
clause_of p q o = side_of p ++ (side_of q ++ (word_literal o ∷ []))
