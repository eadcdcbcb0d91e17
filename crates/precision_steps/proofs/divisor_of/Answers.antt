-- `divisor_of` takes 0 as 1.
use mathlib.Core.Path.{◌∙◌}
use Rattle.precision_steps.proofs.Divisor.{divisor_most}
use Rattle.precision_steps.proofs.divisor_of.Goals as goal

pub returns : goal.returns
returns c = c.max.ensures ∙ divisor_most _
