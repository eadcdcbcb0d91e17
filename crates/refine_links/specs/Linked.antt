-- What linking a bucket anew, and all of them, promises of the words that the records lie in.
use Rattle.std.specs.Prelude.{◌≡◌, Bool, true, false, List, reverse, ℕ, ◌*◌, ◌/◌, ◌≤◌, ◌<◌, length, get_or, set}
use Rattle.rules.specs.Records.{Node, Record, node, node_at, left_link, image_of}
use Rattle.rules.specs.Totalizer.{joining}
use Rattle.rules.specs.Refinement.{relink}
use Rattle.laws.specs.Lists.Facts.{All, occurs}
use Rattle.records_words.specs.Words.{laid}
use Rattle.records.specs.Carries.{size, peak}

-- the words lie over s₀ as the image of rs, whose maxima and heights fit a word
pub record Lies (s : List ℕ) (records : ℕ) (s₀ : List ℕ) (rs : List Record) : Type 0 where
  pub store_is : s ≡ laid (image_of rs) s₀
  pub count_is : records ≡ length rs
  pub room : 8 * length rs ≤ length s₀
  pub small : peak rs < 4294967296

-- the node of bucket b, linked, halved, to the one below
unfoldable pub renewed : List Record → ℕ → ℕ → Node
unfolding joining node_at left_link
renewed rs below b = joining rs true (left_link (node_at rs b).kind) below

-- the records with it
unfoldable pub linked : List Record → ℕ → ℕ → List Record
unfolding renewed
linked rs below b = set rs b (node (renewed rs below b))

-- r says whether the sizes fit; where they do the records are linked, and other words are kept in both cases
pub record Links (s s' : List ℕ) (records b below : ℕ) (r : Bool) : Type 0 where
  pub same_length : length s' ≡ length s
  pub kept : (i : ℕ) → (i / 8 ≡ b → ⊥) → get_or s' i 0 ≡ get_or s i 0
  pub done : (s₀ : List ℕ) (rs : List Record) → Lies s records s₀ rs → b < length rs → r ≡ true → Lies s' records s₀ (linked rs below b)
  pub over : (s₀ : List ℕ) (rs : List Record) → Lies s records s₀ rs → r ≡ false → 4294967296 ≤ size (node (renewed rs below b))

-- and so of all the buckets: r is true exactly where the sizes fit, if no bucket stands twice
pub record Relinks (s s' : List ℕ) (records : ℕ) (bs : List ℕ) (below : ℕ) (r : Bool) : Type 0 where
  pub same_length : length s' ≡ length s
  pub kept : (i : ℕ) → occurs (i / 8) bs ≡ 0 → get_or s' i 0 ≡ get_or s i 0
  pub done : (s₀ : List ℕ) (rs : List Record) → Lies s records s₀ rs → All (λ b. b < length rs) bs → r ≡ true →
      Lies s' records s₀ (relink rs below (reverse bs))
  pub fit : (s₀ : List ℕ) (rs : List Record) → Lies s records s₀ rs → All (λ b. b < length rs) bs → ((n : ℕ) → occurs n bs ≤ 1) →
      peak (relink rs below (reverse bs)) < 4294967296 → r ≡ true
