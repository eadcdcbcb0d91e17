-- `node_right` tests a node by its kind.
use mathlib.Core.Path.{refl, sym, ◌∙◌}
use borrow.Author.Tests.{eq-eqb, ne_eqb}
use Rattle.check_arrays.proofs.Walk.{then_and, else_and}
use Rattle.check_records.proofs.Right.{right_leaf, right_join, right_dummy}
use Rattle.check_records.proofs.node_right.Goals as goal

pub returns-then-is_leaf : goal.returns-then-is_leaf
returns-then-is_leaf c =
    λ rs h. c.leaf_right.ensures rs ∙ right_leaf rs _ _ _ _ _ (c.maximum-maximum.ensures rs h) (c.height-height.ensures rs h) (sym (c.is_leaf.ensures rs h) ∙ c.if-is_leaf.true) _ (c.literal.ensures rs h)

pub returns-then-is_join : goal.returns-then-is_join
returns-then-is_join c =
    λ rs h. c.join_right.ensures rs h ∙ right_join rs _ _ _ _ _ (c.maximum-maximum.ensures rs h) (c.height-height.ensures rs h) (sym (c.is_join.ensures rs h) ∙ c.if-is_join.true) _ _ _ (c.halved-half.ensures rs h) (c.left.ensures rs h) (c.right.ensures rs h)

pub returns-then-maximum-eq0 : goal.returns-then-maximum-eq0
returns-then-maximum-eq0 c =
    λ rs h. then_and _ _ refl (eq-eqb _ 0 c.if-maximum-eq0.true) refl ∙ right_dummy rs _ _ _ _ _ (c.maximum-maximum.ensures rs h) (c.height-height.ensures rs h) (sym (c.is_leaf.ensures rs h) ∙ c.if-is_leaf.false) (sym (c.is_join.ensures rs h) ∙ c.if-is_join.false)

pub returns-else-maximum-eq0 : goal.returns-else-maximum-eq0
returns-else-maximum-eq0 c =
    λ rs h. else_and _ _ refl (ne_eqb _ 0 c.if-maximum-eq0.false) ∙ right_dummy rs _ _ _ _ _ (c.maximum-maximum.ensures rs h) (c.height-height.ensures rs h) (sym (c.is_leaf.ensures rs h) ∙ c.if-is_leaf.false) (sym (c.is_join.ensures rs h) ∙ c.if-is_join.false)
