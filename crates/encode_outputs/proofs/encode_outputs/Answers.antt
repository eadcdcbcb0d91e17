-- `encode_outputs` defines the values of the range.
use mathlib.Core.Path.{refl}
use Rattle.encode_outputs.proofs.Turns.{outputs_done}
use Rattle.encode_outputs.proofs.encode_outputs.Goals as goal

pub returns : goal.returns
returns c =
    let values = c.values-v in
    outputs_done _ _ _ _ _ _ _ _ _ _ _ refl c.maximum.ensures values.ensures.0 (c.define_from.ensures values.ensures.1)
