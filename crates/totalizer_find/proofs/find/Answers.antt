use mathlib.Core.Path.{sym, ◌∙◌}
use Rattle.totalizer_find.proofs.Walk.{walk_on, walk_hit, walk_zero, walk_end}
use Rattle.totalizer_find.proofs.find.Goals as goal

pub returns-then-number-eq0 : goal.returns-then-number-eq0
returns-then-number-eq0 c =
    λ rs h. walk_zero _ _ rs h _ _ _ _ c.loop-i-test.true (sym c.if-hit.true ∙ c.hit.ensures) (c.loop-i.invariant rs h) c.field-number.ensures c.if-number-eq0.true

pub returns-else-number-eq0 : goal.returns-else-number-eq0
returns-else-number-eq0 c =
    λ rs h. walk_hit _ _ rs h _ _ _ _ c.loop-i-test.true (sym c.if-hit.true ∙ c.hit.ensures) (c.loop-i.invariant rs h) c.field-number.ensures c.if-number-eq0.false

pub loop-i-preserved : goal.loop-i-preserved
loop-i-preserved c =
    λ rs h. walk_on _ _ rs h _ _ _ c.loop-i-test.true (sym c.if-hit.false ∙ c.hit.ensures) (c.loop-i.invariant rs h)

pub returns : goal.returns
returns c = λ rs h. walk_end _ _ rs h _ _ _ c.loop-i-test.false (c.loop-i.invariant rs h)
