-- `next` raises 2 to the top bit of the largest waiting weight.
use mathlib.Core.Path.{◌∙◌}
use Rattle.precision_steps.proofs.Bound.{top_power}
use Rattle.precision_steps.proofs.next.Goals as goal

pub returns : goal.returns
returns c =
    let top_bit = c.top_bit in
    λ rs h. top_power _ _ _ _ top_bit.ensures.value top_bit.ensures.within c.power.ensures (c.from.ensures ∙ c.largest.ensures rs h)
