use mathlib.Core.Path.{◌∙◌}
use Rattle.numbers.proofs.Bits.{power_test}
use Rattle.numbers.proofs.power_of_two.Goals as goal

pub returns : goal.returns
returns c = c.is_power_of_two.ensures ∙ power_test _
