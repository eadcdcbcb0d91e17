-- `power` shifts 1; past 63 the power is a multiple of 2^64.
use mathlib.Core.Path.{◌∙◌}
use Rattle.numbers.proofs.Bits.{power_shifted}
use Rattle.numbers.proofs.power.Goals as goal

pub returns : goal.returns
returns c = c.unwrap_or.ensures ∙ power_shifted _ _ c.checked_shl.ensures
