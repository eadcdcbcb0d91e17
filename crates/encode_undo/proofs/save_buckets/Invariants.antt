-- `save_buckets` has saved the first i buckets.
use Rattle.encode_undo.specs.Copies.{Saves}
use Rattle.encode_undo.proofs.save_buckets.Given as goal

abbrev pub invariant-loop-i : goal.invariant-loop-i
invariant-loop-i l = Saves l.store l.initial.work l.work l.buckets l.i
