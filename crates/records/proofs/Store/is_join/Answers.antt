-- `is_join` compares the kind.
use Rattle.rules.specs.Records.{node_of, node_at}
use Rattle.records.specs.Readers.{is_join}
use Rattle.records.proofs.Read.{join_kinded, kind_tells}
use Rattle.records.proofs.Store.is_join.Goals as goal

pub returns : goal.returns
unfolding node_at
returns c = λ rs h. kind_tells _ _ rs h (λ r. is_join (node_of r).kind) 2 join_kinded _ _ c.field.ensures
