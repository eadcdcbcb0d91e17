-- `output_value` reads a word of the records of one kind.
use native.Mathlib.Omega.{arith}
use Rattle.records.specs.Readers.{output_value}
use Rattle.records.proofs.Read.{output_value_held, held_tells}
use Rattle.records.proofs.Store.output_value.Goals as goal

pub returns : goal.returns
returns c = λ rs h. held_tells _ _ rs h output_value 4 2 output_value_held (omega arith) _ _ c.held.ensures
