-- What a build or a refinement answers: its structure, or none where the room ended.
use Rattle.std.specs.Prelude.{Option, Some, None}
use Rattle.records.specs.Carries.{Held, at, ended}
use Rattle.build_begin.specs.declared.Structure.{Structure}

-- the marks after it
abbrev pub structure_marks : Option Structure → Held
structure_marks (Some z) = at z.marks
structure_marks None = ended
