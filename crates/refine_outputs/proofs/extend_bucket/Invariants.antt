-- `extend_bucket` goes through the old records: those that are left, extended from here, are all of them.
use mathlib.Core.Path.{◌≡◌}
use lib.ListN.{length}
use Rattle.records.specs.Carries.{st, at}
use Rattle.refine_outputs.proofs.Extending.{Going}
use Rattle.refine_outputs.proofs.extend_bucket.Given as goal

abbrev pub invariant-loop-i : goal.invariant-loop-i
invariant-loop-i l = Going (st l.initial.store l.initial.clauses (at l.initial.marks)) (st l.store l.clauses (at l.marks)) l.old l.node l.most l.i × (length l.store ≡ length l.initial.store) × (length l.clauses ≡ length l.initial.clauses)
