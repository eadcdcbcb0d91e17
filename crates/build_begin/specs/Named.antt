-- The marks with which an encode begins, and what a build or a refinement names.
use Rattle.std.specs.Prelude.{◌≡◌, false, List, ℕ, length}
use Rattle.rules.specs.declared.State.{State}
use Rattle.rules.specs.Lists.{padded}
use Rattle.rules.specs.Build.{Build}
use Rattle.records.specs.declared.Marks.{Marks}
use Rattle.build_line.specs.Work.{line}
use Rattle.build_begin.specs.declared.Structure.{Structure}

-- the marks of a state whose waiting entries begin at record n: what waits is seen as free words
unfoldable pub marks_at : State → ℕ → Marks
marks_at s n = record { records = n; words = s.words; fresh = s.fresh; clauses = s.clauses }

-- the structure with other marks
abbrev pub with_marks : Structure → Marks → Structure
with_marks z m = record z { marks = m }

-- z has the tares and buckets of c
pub record Slots (z : Structure) (c : Build) : Type 0 where
  pub tares_are : z.tares ≡ padded 0 19 c.tares
  pub tares_many : z.tares_used ≡ length c.tares
  pub buckets_are : z.buckets ≡ padded 0 20 c.buckets
  pub buckets_many : z.buckets_used ≡ length c.buckets

-- and in the work words ws what waits
pub record Named (ws : List ℕ) (z : Structure) (c : Build) : Type 0 where
  pub slots : Slots z c
  pub queue_is : line ws z.head ≡ c.queue
