-- `fresh_tares` fills the slots in turn.
use mathlib.Core.Path.{◌≡◌}
use Rattle.rules.specs.Lists.{rising, padded}
use Rattle.build_arrays.proofs.fresh_tares.Given as goal

abbrev pub invariant-loop-i : goal.invariant-loop-i
invariant-loop-i l = l.tare-items ≡ padded 0 l.many (rising l.i l.first)
