-- Fresh numbers, taken.
use Rattle.std.specs.Prelude.{ℕ, ◌+◌}
use Rattle.rules.specs.Totalizer.{Arena}

-- so many numbers more are taken
unfoldable pub with_numbers : ℕ → Arena → Arena
with_numbers k t = record { records = t.records; fresh = t.fresh + k; clauses = t.clauses }
