-- `join` computes maximum and height: where one does not fit a word, no state that it leads to fits; else it appends the words of the node that the rule makes.
use Rattle.std.proofs.Common.{refl, arith, ◌≡◌, ◌∙◌, Bool, true, false, cond}
use mir.Val.{bool_byte}
use Rattle.records_append.proofs.Appending.{join_over_top, join_over_high, join_done}
use Rattle.records_append.proofs.join.Goals as goal

pub returns-in_err-maximum : goal.returns-in_err-maximum
returns-in_err-maximum c =
    λ b. rw c.from_residual.ensures (join_over_top _ b _ _ _ _ refl _ _ _ _ c.maximum-2.ensures c.maximum.ensures c.counted-right.ensures refl _ (omega (arith, c.in_err-maximum.ensures)))

pub returns-in_err-height : goal.returns-in_err-height
returns-in_err-height c =
    λ b. rw c.from_residual-in_err-height.ensures (join_over_high _ b _ _ _ _ refl _ _ _ c.height.ensures c.height-2.ensures refl _ (omega (arith, c.in_err-height.ensures, c.max.ensures)))

one_bit : (b : Bool) → bool_byte b ≡ cond b 1 0
one_bit true = refl
one_bit false = refl

pub returns : goal.returns
returns c =
    λ b. join_done _ b _ _ _ _ refl _ _ _ _ _ _ _ c.maximum-2.ensures c.maximum.ensures c.counted-right.ensures c.in_ok-maximum.ensures.1 c.height.ensures c.height-2.ensures (omega (arith, c.in_ok-height.ensures, c.max.ensures)) _ _ _ (c.from.ensures ∙ one_bit c.args.half) (c.append.ensures b)
