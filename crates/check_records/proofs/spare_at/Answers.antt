-- `spare_at` looks both links of a join up among the buckets.
use mathlib.Core.Path.{sym, ap, ◌∙◌}
use mathlib.Core.Bool.{not}
use Rattle.check_arrays.proofs.Walk.{then_and, else_and, then_or, else_or}
use Rattle.check_records.proofs.Right.{spare_other, spare_join}
use Rattle.check_records.proofs.spare_at.Goals as goal

pub returns-then-not-is_join : goal.returns-then-not-is_join
returns-then-not-is_join c = λ rs h. spare_other _ _ _ (sym (c.is_join.ensures rs h) ∙ c.if-not-is_join.true)

pub returns-then-not-among-2 : goal.returns-then-not-among-2
returns-then-not-among-2 c =
    λ rs h. then_and _ _ (ap not c.among.ensures) (ap not c.if-not-among.true) (then_or _ _ (ap not c.among-then-not-among.ensures) (ap not c.if-not-among-2.true)) ∙ spare_join _ _ _ (sym (c.is_join.ensures rs h) ∙ c.if-not-is_join.false) _ _ (c.left.ensures rs h) (c.right-r.ensures rs h)

pub returns-else-not-among-2 : goal.returns-else-not-among-2
returns-else-not-among-2 c =
    λ rs h. then_and _ _ (ap not c.among.ensures) (ap not c.if-not-among.true) (else_or _ _ (ap not c.among-then-not-among.ensures) (ap not c.if-not-among-2.false) c.above.ensures) ∙ spare_join _ _ _ (sym (c.is_join.ensures rs h) ∙ c.if-not-is_join.false) _ _ (c.left.ensures rs h) (c.right-r.ensures rs h)

pub returns-else-not-among : goal.returns-else-not-among
returns-else-not-among c =
    λ rs h. else_and _ _ (ap not c.among.ensures) (ap not c.if-not-among.false) ∙ spare_join _ _ _ (sym (c.is_join.ensures rs h) ∙ c.if-not-is_join.false) _ _ (c.left.ensures rs h) (c.right-r.ensures rs h)
