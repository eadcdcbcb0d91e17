-- `is_node` tests for the kinds of nodes.
use Rattle.records.proofs.Read.{node_some, node_none}
use Rattle.records.proofs.Store.is_node.Goals as goal

pub returns-then-kind : goal.returns-then-kind
returns-then-kind c = λ rs h. node_some _ _ rs h _ _ c.field-kind.ensures c.if-kind.true

pub returns-else-kind : goal.returns-else-kind
returns-else-kind c = λ rs h. node_none _ _ rs h _ _ c.field-kind.ensures c.if-kind.false
