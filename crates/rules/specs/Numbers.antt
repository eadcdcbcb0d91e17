-- "Numbers that hold".
use Rattle.std.specs.Prelude.{Bool, ◌&&◌, List, ℕ, zero, suc, ◌/◌, min, leb, length, ℤ, nat_abs}

-- at most 256 inputs
abbrev pub most_inputs : ℕ
most_inputs = 256

-- a variable is at most 1,000,000,000
abbrev pub most_variable : ℕ
most_variable = 1000000000

-- weights 1 to 1,048,575
abbrev pub most_weight : ℕ
most_weight = 1048575

-- a work slice of 16,384 words
abbrev pub work_words : ℕ
work_words = 16384

-- tares in an array of 19
abbrev pub most_tares : ℕ
most_tares = 19

-- and buckets in one of 20
abbrev pub most_buckets : ℕ
most_buckets = 20

-- eight words to a record
abbrev pub record_words : ℕ
record_words = 8

-- a literal is not 0, its variable at most 1,000,000,000
unfoldable pub lawful : ℤ → Bool
lawful x = leb 1 (nat_abs x) && leb (nat_abs x) most_variable

-- weights 1 to 1,048,575
unfoldable pub lawful_weight : ℕ → Bool
lawful_weight w = leb 1 w && leb w most_weight

-- divisor 0 is taken as 1
unfoldable pub divisor_of : ℕ → ℕ
divisor_of zero = 1
divisor_of (suc d) = suc d

-- a store's capacity is its length divided by 8 rounded down; a place is a 32-bit word, so it is at most 2^32
unfoldable pub capacity : List ℕ → ℕ
capacity store = min (length store / record_words) 4294967296
