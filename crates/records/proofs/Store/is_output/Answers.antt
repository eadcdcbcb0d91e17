-- `is_output` compares the kind.
use Rattle.records.specs.Readers.{is_output}
use Rattle.records.proofs.Read.{output_kinded, kind_tells}
use Rattle.records.proofs.Store.is_output.Goals as goal

pub returns : goal.returns
returns c = λ rs h. kind_tells _ _ rs h is_output 4 output_kinded _ _ c.field.ensures
