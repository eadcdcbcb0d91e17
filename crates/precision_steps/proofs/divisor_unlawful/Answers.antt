-- `divisor_unlawful` lets 0 and the powers of two pass.
use mathlib.Core.Path.{refl}
use borrow.Author.Tests.{ne_eqb, eq-eqb}
use Rattle.rules.specs.Refusals.{divisor_unlawful}
use Rattle.precision_steps.proofs.divisor_unlawful.Goals as goal

pub returns-then-divisor-ne0 : goal.returns-then-divisor-ne0
unfolding divisor_unlawful
returns-then-divisor-ne0 c = rw (c.power_of_two.ensures, ne_eqb c.args.divisor 0 c.if-divisor-ne0.true) refl

pub returns-else-divisor-ne0 : goal.returns-else-divisor-ne0
unfolding divisor_unlawful
returns-else-divisor-ne0 c = rw (eq-eqb c.args.divisor 0 c.if-divisor-ne0.false) refl
