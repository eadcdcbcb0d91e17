-- `is_leaf` compares the kind.
use Rattle.rules.specs.Records.{node_of, node_at}
use Rattle.rules.specs.WellFormed.{is_leaf}
use Rattle.records.proofs.Read.{leaf_kinded, kind_tells}
use Rattle.records.proofs.Store.is_leaf.Goals as goal

pub returns : goal.returns
unfolding node_at
returns c = λ rs h. kind_tells _ _ rs h (λ r. is_leaf (node_of r).kind) 1 leaf_kinded _ _ c.field.ensures
