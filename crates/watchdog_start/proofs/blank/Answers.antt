-- `blank` makes its record.
use mathlib.Core.Path.{refl}
use Rattle.watchdog_start.specs.Writing.{blank_marks}
use Rattle.watchdog_start.proofs.blank.Goals as goal

pub returns : goal.returns
unfolding blank_marks
returns c = refl
