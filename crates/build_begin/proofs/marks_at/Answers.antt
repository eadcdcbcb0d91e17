-- `marks_at` is the definition.
use mathlib.Core.Path.{refl}
use Rattle.build_begin.specs.Named.{marks_at}
use Rattle.build_begin.proofs.marks_at.Goals as goal

pub returns : goal.returns
unfolding marks_at
returns c = refl
