-- `output_node` reads a word of the records of one kind.
use native.Mathlib.Omega.{arith}
use Rattle.records.specs.Readers.{output_node}
use Rattle.records.proofs.Read.{output_node_held, held_tells}
use Rattle.records.proofs.Store.output_node.Goals as goal

pub returns : goal.returns
returns c = λ rs h. held_tells _ _ rs h output_node 4 1 output_node_held (omega arith) _ _ c.held.ensures
