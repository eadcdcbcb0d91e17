-- `costs` asks whether the budget was spent exactly.
use mathlib.Core.Path.{◌∙◌}
use Rattle.check_well_formed.proofs.Ways.{cost_is}
use Rattle.check_well_formed.proofs.costs.Goals as goal

pub returns : goal.returns
returns c = λ rs h. c.eq.ensures ∙ cost_is _ _ _ (c.spent.ensures rs h)
