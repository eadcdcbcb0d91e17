-- `encoded` has the totals of its state.
use mathlib.Core.Path.{refl}
use Rattle.encode_end.specs.Settled.{totalled}
use Rattle.encode_end.proofs.encoded.Goals as goal

pub returns : goal.returns
unfolding totalled
returns c = refl
