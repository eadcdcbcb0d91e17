-- What is asked of one bucket.
use Rattle.std.specs.Prelude.{Bool, List, ℕ, leb}
use Rattle.rules.specs.Records.{Record, node_at, left_link}

-- the bucket's left maximum is at most 257
unfoldable pub left_low : List Record → ℕ → Bool
unfolding node_at left_link
left_low rs n = leb (node_at rs (left_link (node_at rs n).kind)).maximum 257
