-- `weight_named` has added the lines before i.
use mathlib.Core.Path.{◌≡◌}
use Prim.Native.Nat.{◌+◌}
use lib.ListN.{drop}
use Rattle.start_lists.specs.Literals.{words}
use Rattle.start_lists.specs.Lines.{named_word}
use Rattle.start_lists.proofs.weight_named.Given as goal

abbrev pub invariant-loop-i : goal.invariant-loop-i
invariant-loop-i l = l.t + named_word (drop l.i (words l.lits)) (drop l.i l.weights) l.w ≡ named_word (words l.lits) l.weights l.w
