-- `fresh_unlawful` tests the number, then the variables.
use mathlib.Core.Path.{◌≡◌}
use mathlib.Core.Bool.{true}
use Rattle.std.proofs.Common.{inl, inr}
use Rattle.rules.specs.Refusals.{fresh_unlawful}
use Rattle.start_lists.proofs.Order.{fresh_none, fresh_high, fresh_rest}
use Rattle.start_lists.proofs.fresh_unlawful.Goals as goal

pub returns-then-first-gt-MOST_VARIABLE : goal.returns-then-first-gt-MOST_VARIABLE
returns-then-first-gt-MOST_VARIABLE c = λ l.
    let lits = c.args.lits.now in
    let first = c.args.first in
    let is : true ≡ fresh_unlawful lits first = elim c.if-first-gt-MOST_VARIABLE.either [
      | inl e ↦ fresh_none lits first e
      | inr h ↦ fresh_high lits first h.0 h.1
    ] in
    cc

pub returns-else-first-gt-MOST_VARIABLE : goal.returns-else-first-gt-MOST_VARIABLE
returns-else-first-gt-MOST_VARIABLE c = λ l. fresh_rest _ _ _ c.if-first-gt-MOST_VARIABLE.false.0 c.if-first-gt-MOST_VARIABLE.false.1 c.reaches.ensures l
