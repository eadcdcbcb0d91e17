-- `extend_buckets` goes through the buckets from the last one: those that are left, extended from here, are all of them.
use mathlib.Core.Path.{◌≡◌}
use lib.ListN.{length}
use Rattle.records.specs.Carries.{st, at}
use Rattle.refine_outputs.proofs.Extending.{Passing}
use Rattle.refine_outputs.proofs.extend_buckets.Given as goal

abbrev pub invariant-loop-node : goal.invariant-loop-node
invariant-loop-node l = Passing (st l.initial.store l.initial.clauses (at l.initial.marks)) (st l.store l.clauses (at l.marks)) l.old l.buckets l.halves (length l.yielded) × (length l.store ≡ length l.initial.store) × (length l.clauses ≡ length l.initial.clauses)
