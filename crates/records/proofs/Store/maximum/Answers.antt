-- `maximum` reads the fifth word, which is 0 where there is no node.
use mathlib.Core.Path.{◌∙◌}
use Rattle.records.proofs.Read.{maximum_is}
use Rattle.records.proofs.Store.maximum.Goals as goal

pub returns : goal.returns
returns c = λ rs h. c.field.ensures ∙ maximum_is _ _ rs h _
