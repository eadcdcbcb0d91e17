-- What making a node answers: its place and the marks after it, or none where the room ended.
use Rattle.std.specs.Prelude.{ℕ, Option, Some, None}
use Rattle.records.specs.Carries.{Held, at, ended}
use Rattle.records_append.specs.declared.Made.{Made}

-- the place of what was made, 0 where nothing was
abbrev pub made_node : Option Made → ℕ
made_node (Some x) = x.node
made_node None = 0

-- the marks after it
abbrev pub made_marks : Option Made → Held
made_marks (Some x) = at x.marks
made_marks None = ended
