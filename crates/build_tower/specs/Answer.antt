-- What a tower answers: the marks after it, where the queue begins and how many buckets were made, or none where the room ended.
use Rattle.std.specs.Prelude.{ℕ, Option, Some, None}
use Rattle.records.specs.Carries.{Held, at, ended}
use Rattle.build_tower.specs.declared.Segment.{Segment}

-- the marks after it
abbrev pub segment_marks : Option Segment → Held
segment_marks (Some s) = at s.marks
segment_marks None = ended

-- where the queue begins, 0 where the room ended
abbrev pub segment_head : Option Segment → ℕ
segment_head (Some s) = s.head
segment_head None = 0

-- how many buckets were made, 0 where the room ended
abbrev pub segment_used : Option Segment → ℕ
segment_used (Some s) = s.used
segment_used None = 0
