-- `append_waiting` takes the entries in turn: those that are left, behind what is there, are all.
use mathlib.Core.List.{List}
use Prim.Native.Nat.{◌+◌, ◌*◌, ◌-◌}
use lib.IntN.{ℤ}
use Rattle.records.specs.Carries.{st, at}
use Rattle.records.proofs.Step.{Rest}
use Rattle.encode_outputs.specs.Taken.{entries_by, entries_at, with_waiting}
use Rattle.encode_outputs.proofs.append_waiting.Given as goal

abbrev pub invariant-loop-k : goal.invariant-loop-k
invariant-loop-k l = (c : List ℤ) → Rest (st l.initial.store c (at l.initial.n)) (st l.store c (at l.n)) (with_waiting (entries_at l.work l.queue))
    (with_waiting (entries_by l.work (l.queue.node + l.k * l.queue.apart) (l.queue.weight + l.k * l.queue.apart) l.queue.apart (l.queue.many - l.k)))
