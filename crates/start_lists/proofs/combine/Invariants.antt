-- `combine` has combined the lines before i.
use Prim.Native.Nat.{◌≤◌}
use lib.ListN.{take}
use Rattle.start_lists.specs.Literals.{words}
use Rattle.start_lists.specs.Lines.{Listed, combined_words}
use Rattle.start_lists.proofs.combine.Given as goal

abbrev pub invariant-loop-i : goal.invariant-loop-i
invariant-loop-i l = Listed (combined_words (take l.i (words l.lits))) (words l.lits) l.weights l.list.literals l.list.weights l.list.used × (l.list.used ≤ l.i)
