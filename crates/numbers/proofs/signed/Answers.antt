-- `signed` halves the word, which always fits, and negates an odd one.
use Prim.Native.Nat.{◌/◌}
use mathlib.Core.Path.{sym, ◌∙◌}
use native.Mathlib.Omega.{arith}
use mir.Syntax.{w32}
use mir.Facts.{to_z_pos}
use Rattle.numbers.proofs.Literals.{word_even, word_odd, neg_fits, neg_is}
use Rattle.numbers.proofs.signed.Goals as goal

pub returns-then-w-eq0 : goal.returns-then-w-eq0
returns-then-w-eq0 c = to_z_pos w32 {n = c.args.w / 2} (omega arith) ∙ sym (word_even _ c.if-w-eq0.true)

pub overflow_sub-result : goal.overflow_sub-result
overflow_sub-result c = neg_fits (c.args.w / 2) (omega arith)

pub returns-else-w-eq0 : goal.returns-else-w-eq0
returns-else-w-eq0 c = neg_is (c.args.w / 2) (omega arith) ∙ sym (word_odd _ c.if-w-eq0.false)
