-- What a step of the queue and a run of it answer: the marks after it and where the queue begins. Where the room ended a step answers
-- none, and a run where the queue begins then.
use Rattle.std.specs.Prelude.{ℕ, Option, Some, None, Result, Ok, Err}
use Rattle.records.specs.Carries.{Held, at, ended}
use Rattle.build_queue.specs.declared.Gathered.{Gathered}

-- the marks after a step
abbrev pub gathered_marks : Option Gathered → Held
gathered_marks (Some g) = at g.marks
gathered_marks None = ended

-- where the queue begins after it, 0 where the room ended
abbrev pub gathered_head : Option Gathered → ℕ
gathered_head (Some g) = g.head
gathered_head None = 0

-- the marks after a run
abbrev pub run_marks : Result Gathered ℕ → Held
run_marks (Ok g) = at g.marks
run_marks (Err h) = ended

-- where the queue begins after it, also where the room ended
abbrev pub run_head : Result Gathered ℕ → ℕ
run_head (Ok g) = g.head
run_head (Err h) = h
