-- `literal_unlawful` stops at the first number that is no literal.
use mathlib.Core.Path.{◌≡◌}
use lib.ListN.{drop}
use Rattle.rules.specs.Lists.{all}
use Rattle.rules.specs.Numbers.{lawful}
use Rattle.start_lists.proofs.literal_unlawful.Given as goal

abbrev pub invariant-loop-i : goal.invariant-loop-i
invariant-loop-i l = all lawful (drop l.i l.lits) ≡ all lawful l.lits
