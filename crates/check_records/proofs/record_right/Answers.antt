-- `record_right` tests a record by its kind.
use mathlib.Core.Path.{sym, ◌∙◌}
use Rattle.rules.specs.Records.{node_at}
use Rattle.check_records.proofs.Right.{right_output, right_entry, right_node}
use Rattle.check_records.proofs.record_right.Goals as goal

pub returns-then-is_output : goal.returns-then-is_output
returns-then-is_output c =
    λ rs h. c.output_right.ensures rs h ∙ right_output rs _ _ _ _ (sym (c.is_output.ensures rs h) ∙ c.if-is_output.true) _ _ _ _ (c.output_node.ensures rs h) (c.output_value.ensures rs h) (c.output_number.ensures rs h) c.variable-number.ensures

pub returns-then-is_waiting : goal.returns-then-is_waiting
returns-then-is_waiting c =
    λ rs h. c.entry_right.ensures rs h ∙ right_entry rs _ _ _ _ (sym (c.is_waiting.ensures rs h) ∙ c.if-is_waiting.true) _ _ (c.entry_node.ensures rs h) (c.entry_weight.ensures rs h)

pub returns-else-is_waiting : goal.returns-else-is_waiting
unfolding node_at
returns-else-is_waiting c =
    λ rs h. c.node_right.ensures rs h ∙ right_node rs _ _ _ _ (sym (c.is_output.ensures rs h) ∙ c.if-is_output.false) (sym (c.is_waiting.ensures rs h) ∙ c.if-is_waiting.false)
