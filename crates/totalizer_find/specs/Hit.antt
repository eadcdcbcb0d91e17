-- The test of one record in the walk.
use Rattle.std.specs.Prelude.{Bool, false, cond, List, ℕ, eqb}
use Rattle.records.specs.Words.{field_at}

-- record i says output, node and value
unfoldable pub hit_at : List ℕ → ℕ → ℕ → ℕ → ℕ → Bool
unfolding field_at
hit_at s records i n v =
    cond (eqb (field_at s records i 0) 4) (cond (eqb (field_at s records i 1) n) (eqb (field_at s records i 2) v) false) false
