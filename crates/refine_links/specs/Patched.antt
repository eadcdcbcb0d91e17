-- A bucket with another right link, and the words of its record.
use Rattle.std.specs.Prelude.{List, [], ◌∷◌, ℕ}
use Rattle.refine_links.specs.declared.Bucket.{Bucket}

-- all other fields are kept
abbrev pub with_right : Bucket → ℕ → Bucket
with_right b below = record { left = b.left; right = below; maximum = b.maximum; height = b.height }

-- a join whose right side is halved
abbrev pub bucket_words : Bucket → List ℕ
bucket_words b = 2 ∷ b.left ∷ b.right ∷ 1 ∷ b.maximum ∷ b.height ∷ 0 ∷ 0 ∷ []
