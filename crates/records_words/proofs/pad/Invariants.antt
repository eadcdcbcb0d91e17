-- `pad` has set all elements from the mark up to i.
use mathlib.Core.Path.{◌≡◌}
use Prim.Native.Nat.{◌≤◌, max}
use lib.ListN.{length}
use Rattle.records_words.proofs.Zero.{zeroed}
use Rattle.records_words.proofs.pad.Given as goal

abbrev pub invariant-loop-i : goal.invariant-loop-i
invariant-loop-i g l = (l.s ≡ zeroed l.x l.initial.s l.from l.i) × (l.i ≤ max l.from (length l.initial.s))
