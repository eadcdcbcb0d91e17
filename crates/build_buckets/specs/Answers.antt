-- What the steps of buckets answer, or that the room ended.
use Rattle.std.specs.Prelude.{ℕ, Option, Some, None}
use Rattle.records.specs.Carries.{Held, at, ended}
use Rattle.build_buckets.specs.declared.Row.{Row}
use Rattle.build_buckets.specs.declared.Tower.{Tower}

-- the marks after a line of sorted members
abbrev pub row_marks : Option Row → Held
row_marks (Some r) = at r.marks
row_marks None = ended

-- where the line begins, 0 where the room ended
abbrev pub row_head : Option Row → ℕ
row_head (Some r) = r.head
row_head None = 0

-- the marks after the buckets made so far
abbrev pub tower_marks : Option Tower → Held
tower_marks (Some t) = at t.marks
tower_marks None = ended

-- how many they are, 0 where the room ended
abbrev pub tower_used : Option Tower → ℕ
tower_used (Some t) = t.used
tower_used None = 0
