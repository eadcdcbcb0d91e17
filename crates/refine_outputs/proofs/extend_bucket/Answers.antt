use mathlib.Core.Path.{refl, ◌∙◌}
use Rattle.refine_outputs.proofs.Extending.{going_turn, going_end, going_full}
use Rattle.refine_outputs.proofs.extend_bucket.Goals as goal

pub loop-i-preserved : goal.loop-i-preserved
loop-i-preserved c =
    let loop = c.loop-i in
    (going_turn _ _ _ _ _ _ _ c.loop-i-test.true c.in_ok-marks.ensures loop.invariant.0, c.extend_record.auto.store ∙ loop.invariant.1, c.extend_record.auto.clauses ∙ loop.invariant.2)

pub returns-in_err-marks : goal.returns-in_err-marks
returns-in_err-marks c =
    rw c.from_residual.ensures (going_full _ _ _ _ _ _ refl (going_turn _ _ _ _ _ _ _ c.loop-i-test.true c.in_err-marks.ensures c.loop-i.invariant.0))

pub returns : goal.returns
returns c = going_end _ _ _ _ _ _ c.loop-i-test.false c.loop-i.invariant.0
