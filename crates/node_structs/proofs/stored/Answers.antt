-- `stored` reads a node's words.
use Rattle.node_structs.proofs.Reading.{stored_none, stored_some}
use Rattle.node_structs.proofs.stored.Goals as goal
use Rattle.node_structs.proofs.stored.Goals.{then-field, else-field}

pub returns : goal.returns
returns c = elim c.if-field.branch [
  | then-field w ↦ rw w.link-is (stored_some _ _ _ _ _ c.field-2.ensures c.field.ensures w.if-field.true _ w.field-link.ensures)
  | else-field w ↦ rw w.link-is (stored_none _ _ _ _ _ c.field-2.ensures c.field.ensures w.if-field.false)
]
