-- Which eight words are the image of a record.
use Rattle.std.specs.Prelude.{Bool, false, not, cond, ◌&&◌, List, ℕ, ◌%◌, eqb, leb}
use Rattle.records.specs.Words.{field_at}

-- all three are 0
unfoldable pub zeros : ℕ → ℕ → ℕ → Bool
zeros a b c = eqb a 0 && (eqb b 0 && eqb c 0)

-- the six words that a record may use: no literal has word 1, a halving is 0 or 1, an output's number is a positive literal
unfoldable pub kind_known : ℕ → ℕ → ℕ → ℕ → ℕ → ℕ → Bool
unfolding zeros
kind_known k a b c m h =
    cond (eqb k 1) (not (eqb a 1) && zeros b c 0) (cond (eqb k 2) (leb c 1) (cond (eqb k 3) (zeros a b c) (cond (eqb k 4) (zeros (c % 2) m h) (
    cond (eqb k 5) (zeros c m h) false))))

-- and the two that none uses
unfoldable pub words_known : ℕ → ℕ → ℕ → ℕ → ℕ → ℕ → ℕ → ℕ → Bool
unfolding kind_known
words_known k a b c m h x y = eqb x 0 && (eqb y 0 && kind_known k a b c m h)

-- the words of record i
unfoldable pub known_at : List ℕ → ℕ → ℕ → Bool
unfolding words_known field_at
known_at s records i =
    words_known (field_at s records i 0) (field_at s records i 1) (field_at s records i 2) (field_at s records i 3) (field_at s records i 4)
    (field_at s records i 5) (field_at s records i 6) (field_at s records i 7)
