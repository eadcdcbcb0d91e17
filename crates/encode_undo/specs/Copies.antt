-- What copying words, setting buckets aside and putting them back promise, word by word.
use Rattle.std.specs.Prelude.{◌≡◌, List, ◌++◌, ℕ, ◌+◌, ◌*◌, ◌/◌, ◌≤◌, ◌<◌, length, get_or, take, drop}
use Rattle.laws.specs.Lists.Facts.{occurs}

-- `to` with its words from b on replaced by n of `from`, from a on
unfoldable pub copied : List ℕ → ℕ → List ℕ → ℕ → ℕ → List ℕ
copied from a to b n = take b to ++ (take n (drop a from) ++ drop (b + n) to)

-- the work words from 2048 on are those of the first `used` buckets in the store o, eight a bucket
pub record Saved (o w buckets : List ℕ) (used : ℕ) : Type 0 where
  pub at : (i j : ℕ) → i < used → j < 8 → get_or w (2048 + 8 * i + j) 0 ≡ get_or o (8 * get_or buckets i 0 + j) 0

-- the buckets are saved, and the work words elsewhere are kept
pub record Saves (s w w' buckets : List ℕ) (used : ℕ) : Type 0 where
  pub same_length : length w' ≡ length w
  pub saved : Saved s w' buckets used
  pub below : (k : ℕ) → k < 2048 → get_or w' k 0 ≡ get_or w k 0
  pub above : (k : ℕ) → 2048 + 8 * used ≤ k → get_or w' k 0 ≡ get_or w k 0

-- the words of the buckets are those of the store that was saved, and words elsewhere are kept
pub record Restores (s s' w buckets : List ℕ) (used : ℕ) : Type 0 where
  pub same_length : length s' ≡ length s
  pub back : (o : List ℕ) → Saved o w buckets used → (k : ℕ) → 1 ≤ occurs (k / 8) (take used buckets) → get_or s' k 0 ≡ get_or o k 0
  pub others : (k : ℕ) → occurs (k / 8) (take used buckets) ≡ 0 → get_or s' k 0 ≡ get_or s k 0
