-- `output_number` reads a word of the records of one kind.
use native.Mathlib.Omega.{arith}
use Rattle.records.specs.Readers.{output_number}
use Rattle.records.proofs.Read.{output_number_held, held_tells}
use Rattle.records.proofs.Store.output_number.Goals as goal

pub returns : goal.returns
returns c = λ rs h. held_tells _ _ rs h output_number 4 3 output_number_held (omega arith) _ _ c.held.ensures
