-- `costs_few` asks whether the budget was overspent.
use mathlib.Core.Path.{◌∙◌}
use Rattle.check_well_formed.proofs.Ways.{few_is}
use Rattle.check_well_formed.proofs.costs_few.Goals as goal

pub returns : goal.returns
returns c = λ rs h. c.is_some.ensures ∙ few_is _ _ _ (c.spent.ensures rs h)
