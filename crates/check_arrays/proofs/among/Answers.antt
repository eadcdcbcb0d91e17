use mathlib.Core.Path.{◌∙◌}
use Rattle.check_arrays.proofs.Chains.{contains_is}
use Rattle.check_arrays.proofs.among.Goals as goal

pub returns : goal.returns
returns c = c.contains.ensures.value ∙ contains_is _ _
