-- `waits` has written a waiting entry for each weight before i.
use mathlib.Core.Path.{◌≡◌}
use mathlib.Core.List.{List}
use lib.ListN.{length, take}
use lib.IntN.{ℤ}
use Rattle.records.specs.Carries.{st, at, Steps}
use Rattle.watchdog_start.specs.Writing.{with_more, wait_records}
use Rattle.watchdog_start.proofs.waits.Given as goal

abbrev pub invariant-loop-i : goal.invariant-loop-i
invariant-loop-i l = ((c : List ℤ) → Steps (st l.initial.s c (at l.initial.m)) (st l.s c (at l.m)) (with_more (take l.i (wait_records l.weights)))) × (length l.s ≡ length l.initial.s)
