-- `entry_node` reads a word of the records of one kind.
use native.Mathlib.Omega.{arith}
use Rattle.records.specs.Readers.{entry_node}
use Rattle.records.proofs.Read.{entry_node_held, held_tells}
use Rattle.records.proofs.Store.entry_node.Goals as goal

pub returns : goal.returns
returns c = λ rs h. held_tells _ _ rs h entry_node 5 1 entry_node_held (omega arith) _ _ c.held.ensures
