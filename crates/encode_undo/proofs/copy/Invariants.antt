-- `copy` has copied the first i words.
use mathlib.Core.Path.{◌≡◌}
use lib.ListN.{length}
use Rattle.encode_undo.specs.Copies.{copied}
use Rattle.encode_undo.proofs.copy.Given as goal

abbrev pub invariant-loop-i : goal.invariant-loop-i
invariant-loop-i l = (l.to ≡ copied l.from l.a l.initial.to l.b l.i) × (length l.to ≡ length l.initial.to)
