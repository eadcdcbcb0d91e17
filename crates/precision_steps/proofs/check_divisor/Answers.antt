-- `check_divisor` takes the tests in their order.
use mathlib.Core.Path.{◌∙◌, sym, ap}
use mathlib.Core.Bool.{not}
use Rattle.precision_steps.proofs.Divisor.{set_12, set_8, set_9, set_0}
use Rattle.precision_steps.proofs.check_divisor.Goals as goal

pub returns-then-not-formed : goal.returns-then-not-formed
returns-then-not-formed c = set_12 _ _ _ (ap not c.if-not-formed.true)

pub returns-then-divisor_unlawful : goal.returns-then-divisor_unlawful
returns-then-divisor_unlawful c = set_8 _ _ _ (ap not c.if-not-formed.false) (sym c.divisor_unlawful.ensures ∙ c.if-divisor_unlawful.true)

pub returns-then-divisor_coarser : goal.returns-then-divisor_coarser
returns-then-divisor_coarser c =
    set_9 _ _ _ (ap not c.if-not-formed.false) (sym c.divisor_unlawful.ensures ∙ c.if-divisor_unlawful.false) (sym c.divisor_coarser.ensures ∙ c.if-divisor_coarser.true)

pub returns-else-divisor_coarser : goal.returns-else-divisor_coarser
returns-else-divisor_coarser c =
    set_0 _ _ _ (ap not c.if-not-formed.false) (sym c.divisor_unlawful.ensures ∙ c.if-divisor_unlawful.false) (sym c.divisor_coarser.ensures ∙ c.if-divisor_coarser.false)
