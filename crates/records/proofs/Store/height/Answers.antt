-- `height` reads the sixth word, which is 0 where there is no node.
use mathlib.Core.Path.{◌∙◌}
use Rattle.records.proofs.Read.{height_is}
use Rattle.records.proofs.Store.height.Goals as goal

pub returns : goal.returns
returns c = λ rs h. c.field.ensures ∙ height_is _ _ rs h _
