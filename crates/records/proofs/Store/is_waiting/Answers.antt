-- `is_waiting` compares the kind.
use Rattle.rules.specs.Records.{waits}
use Rattle.records.proofs.Read.{waits_kinded, kind_tells}
use Rattle.records.proofs.Store.is_waiting.Goals as goal

pub returns : goal.returns
returns c = λ rs h. kind_tells _ _ rs h waits 5 waits_kinded _ _ c.field.ensures
