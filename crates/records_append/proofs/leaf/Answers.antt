-- `leaf` appends the words of a leaf.
use Rattle.records_append.proofs.Appending.{leaf_done}
use Rattle.records_append.proofs.leaf.Goals as goal

pub returns : goal.returns
returns c = λ b x e. leaf_done _ _ _ _ x e (c.append.ensures b)
