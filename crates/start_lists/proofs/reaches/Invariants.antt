-- `reaches` stops at the first variable that is not below.
use mathlib.Core.Path.{◌≡◌}
use lib.ListN.{drop}
use Rattle.rules.specs.Lists.{all}
use Rattle.start_lists.specs.Literals.{words}
use Rattle.start_lists.proofs.Order.{Below}
use Rattle.start_lists.proofs.reaches.Given as goal

abbrev pub invariant-loop-i : goal.invariant-loop-i
invariant-loop-i l = all (Below l.first) (drop l.i (words l.lits)) ≡ all (Below l.first) (words l.lits)
