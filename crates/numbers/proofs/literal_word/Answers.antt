-- `literal_word` doubles the size of a literal, so that nothing wraps.
use mathlib.Core.Path.{◌≡◌, sym, ap, ◌∙◌}
use native.Mathlib.Omega.{arith}
use mir.Syntax.{w32}
use mir.Val.{to_z, of_z}
use lib.Signed.{lt_z}
use lib.IntN.{pos}
use Rattle.numbers.specs.Signed.{word_or_none}
use mir.Facts.{to_z-of_z}
use Rattle.numbers.proofs.Literals.{byte_small, lawful_size, word_some, word_none}
use Rattle.numbers.proofs.literal_word.Goals as goal

pub overflow_mul-result : goal.overflow_mul-result
overflow_mul-result c = omega (arith, c.unsigned_abs.ensures.value, lawful_size _ (sym c.if-lawful.true ∙ c.lawful.ensures))

pub overflow_add-result : goal.overflow_add-result
overflow_add-result c =
    omega (arith, c.unsigned_abs.ensures.value, lawful_size _ (sym c.if-lawful.true ∙ c.lawful.ensures), c.from.ensures, byte_small (lt_z (to_z w32 (of_z w32 c.args.x)) (pos 0)))

pub returns-then-lawful : goal.returns-then-lawful
returns-then-lawful c =
    let same : to_z w32 (of_z w32 c.args.x) ≡ c.args.x = to_z-of_z {w = w32} c.ranges.x in
    rw (← same, c.unsigned_abs.ensures.value, c.from.ensures) (word_some _ (sym c.if-lawful.true ∙ c.lawful.ensures))

pub returns-else-lawful : goal.returns-else-lawful
returns-else-lawful c =
    let same : to_z w32 (of_z w32 c.args.x) ≡ c.args.x = to_z-of_z {w = w32} c.ranges.x in
    word_none _ (sym c.if-lawful.false ∙ c.lawful.ensures) ∙ ap word_or_none same
