use Rattle.enforce_answer.proofs.Back.{back_on, back_end, back_laid}
use mathlib.Core.Path.{◌∙◌}
use Rattle.enforce_answer.proofs.put_tares.Goals as goal

pub loop-i-preserved : goal.loop-i-preserved
loop-i-preserved c =
    let put-tare = c.put_tare-at in
    let loop = c.loop-i in
    (back_on _ c.args.tares.now loop.i c.args.x _ _ c.loop-i-test.true put-tare.ensures loop.invariant.0, put-tare.auto.scratch ∙ loop.invariant.1)

pub returns : goal.returns
returns c =
    λ from e h. back_laid _ from _ _ _ _ _ e h (back_end _ _ _ _ _ c.loop-i-test.false c.loop-i.invariant.0)
