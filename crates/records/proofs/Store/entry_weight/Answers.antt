-- `entry_weight` reads a word of the records of one kind.
use native.Mathlib.Omega.{arith}
use Rattle.records.specs.Readers.{entry_weight}
use Rattle.records.proofs.Read.{entry_weight_held, held_tells}
use Rattle.records.proofs.Store.entry_weight.Goals as goal

pub returns : goal.returns
returns c = λ rs h. held_tells _ _ rs h entry_weight 5 2 entry_weight_held (omega arith) _ _ c.held.ensures
