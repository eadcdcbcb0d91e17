-- `defines` compares node and value of an output.
use lib.ListN.{get_or}
use native.Mathlib.Omega.{arith}
use Rattle.rules.specs.Records.{unknown}
use Rattle.check_outputs.proofs.Outputs.{defines_by}
use Rattle.check_outputs.proofs.defines.Goals as goal
use Rattle.check_outputs.proofs.defines.Goals.{then-is_output, else-is_output}

pub returns-then-output_node-n : goal.returns-then-output_node-n
returns-then-output_node-n c = λ rs h.
    let r = get_or rs c.args.i unknown in
    let e = c.is_output.ensures rs h in
    let f = c.output_value.ensures rs h in
    elim c.if-is_output.branch [
      | then-is_output w ↦ let g = w.output_node.ensures rs h in grind (arith, defines_by r c.args.n c.args.v)
      | else-is_output w ↦ grind (arith, defines_by r c.args.n c.args.v)
    ]

pub returns-else-output_node-n : goal.returns-else-output_node-n
returns-else-output_node-n c = λ rs h.
    let r = get_or rs c.args.i unknown in
    let e = c.is_output.ensures rs h in
    elim c.if-is_output.branch [
      | then-is_output w ↦ let g = w.output_node.ensures rs h in grind (arith, defines_by r c.args.n c.args.v)
      | else-is_output w ↦ grind (arith, defines_by r c.args.n c.args.v)
    ]
