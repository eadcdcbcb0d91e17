-- `lawful` tests that a number's size lies between the bounds.
use mathlib.Core.Path.{◌≡◌, ap, ap₂, ◌∙◌}
use mathlib.Core.Bool.{◌&&◌}
use lib.IntN.{nat_abs}
use mir.Syntax.{w32}
use mir.Facts.{to_z-of_z}
use Rattle.rules.specs.Numbers.{lawful}
use Rattle.numbers.proofs.Literals.{le_is}
use Rattle.numbers.proofs.lawful.Goals as goal

pub returns : goal.returns
unfolding lawful
returns c =
    let size : c.unsigned_abs.result ≡ nat_abs c.args.x = c.unsigned_abs.ensures.value ∙ ap nat_abs (to_z-of_z {w = w32} c.ranges.x) in
    rw (← size, c.contains.ensures.value, c.new.ensures.start, c.new.ensures.end, c.new.ensures.exhausted) (ap₂ ◌&&◌ (le_is 1 c.unsigned_abs.result) (le_is c.unsigned_abs.result 1000000000))
