-- `extend_record` reads whether the record is an output of the node, and then its value and number.
use Rattle.std.proofs.Common.{refl}
use Rattle.refine_outputs.proofs.Extending.{at_none, at_other, at_done}
use Rattle.refine_outputs.proofs.extend_record.Goals as goal
use Rattle.refine_outputs.proofs.extend_record.Goals.{then-not-is_output-via-then-not-is_output, then-not-is_output-via-else-not-is_output+then-output_node-node}

pub returns-then-not-is_output : goal.returns-then-not-is_output
returns-then-not-is_output c = elim c.then-not-is_output.branch [
  | then-not-is_output-via-then-not-is_output w ↦ at_none _ _ _ _ _ _ _ refl c.is_output.ensures w.if-not-is_output.true
  | then-not-is_output-via-else-not-is_output+then-output_node-node w ↦
      at_other _ _ _ _ _ _ _ refl c.is_output.ensures w.if-not-is_output.false _ w.output_node.ensures w.if-output_node-node.true
]

pub returns : goal.returns
returns c =
    at_done _ _ _ _ _ _ _ refl c.is_output.ensures c.if-not-is_output.false _ c.output_node.ensures _ _ _ c.if-output_node-node.false c.output_value-v.ensures c.output_number-o.ensures c.extend.ensures
