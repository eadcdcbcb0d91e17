-- `times_weight` divides, since the product may not fit.
use mathlib.Core.Path.{◌∙◌}
use borrow.Author.Tests.{lt-leb}
use Rattle.check_well_formed.proofs.Ways.{times_over, times_is}
use Rattle.check_well_formed.proofs.times_weight.Goals as goal

pub returns-then-tares-le-MOST_TARES : goal.returns-then-tares-le-MOST_TARES
returns-then-tares-le-MOST_TARES c =
    let args = c.args in
    times_is args.tares args.built _ c.if-tares-le-MOST_TARES.true c.power.ensures

pub returns-else-tares-le-MOST_TARES : goal.returns-else-tares-le-MOST_TARES
returns-else-tares-le-MOST_TARES c =
    let args = c.args in
    lt-leb _ _ c.if-tares-le-MOST_TARES.false ∙ times_over args.tares args.built c.requires c.if-tares-le-MOST_TARES.false
