-- `restore_buckets` has put the first k buckets back.
use Rattle.encode_undo.specs.Copies.{Restores}
use Rattle.encode_undo.proofs.restore_buckets.Given as goal

abbrev pub invariant-loop-k : goal.invariant-loop-k
invariant-loop-k l = Restores l.initial.store l.store l.work l.buckets l.k
