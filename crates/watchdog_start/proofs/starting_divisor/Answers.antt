-- `starting_divisor` raises 2 to the top bit of the largest weight.
use Rattle.watchdog_start.proofs.Written.{starting_at}
use Rattle.watchdog_start.proofs.starting_divisor.Goals as goal

pub returns : goal.returns
returns c =
    let top_bit = c.top_bit in
    starting_at _ _ _ _ c.heaviest.ensures top_bit.ensures.value top_bit.ensures.within c.power.ensures
