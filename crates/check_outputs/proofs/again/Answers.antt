-- `again` looks an output up among the later records.
use mathlib.Core.Path.{sym, ◌∙◌}
use Rattle.check_outputs.proofs.Outputs.{again_other, again_output}
use Rattle.check_outputs.proofs.again.Goals as goal

pub returns-then-is_output : goal.returns-then-is_output
returns-then-is_output c =
    λ rs h. c.defined_from.ensures rs h ∙ again_output _ (sym (c.is_output.ensures rs h) ∙ c.if-is_output.true) _ _ (c.output_node.ensures rs h) (c.output_value.ensures rs h) _

pub returns-else-is_output : goal.returns-else-is_output
returns-else-is_output c = λ rs h. c.if-is_output.false ∙ again_other _ (sym (c.is_output.ensures rs h) ∙ c.if-is_output.false) _
