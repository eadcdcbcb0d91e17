-- `state` makes its record.
use mathlib.Core.Path.{refl}
use Rattle.watchdog_start.specs.Writing.{state_with}
use Rattle.watchdog_start.proofs.state.Goals as goal

pub returns : goal.returns
unfolding state_with
returns c = refl
