-- `state_after` is the definition.
use mathlib.Core.Path.{refl}
use Rattle.encode_end.specs.Settled.{state_after}
use Rattle.encode_end.proofs.state_after.Goals as goal

pub returns : goal.returns
unfolding state_after
returns c = refl
