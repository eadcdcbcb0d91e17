use mathlib.Core.Path.{refl, ◌∙◌}
use native.Mathlib.Omega.{arith}
use Rattle.records.proofs.Step.{rest_end}
use Rattle.totalizer_define.proofs.Pairs.{rising_end}
use Rattle.totalizer_define.proofs.Defining.{outputs_turn, outputs_full}
use Rattle.totalizer_define.proofs.define_from.Goals as goal

pub loop-v-preserved : goal.loop-v-preserved
loop-v-preserved c =
    let loop = c.loop-v in
    (λ i. outputs_turn _ _ _ _ _ _ _ (omega arith) c.in_ok-marks.ensures (loop.invariant.0 i), c.define.auto.s ∙ loop.invariant.1, c.define.auto.c ∙ loop.invariant.2)

pub returns-in_err-marks : goal.returns-in_err-marks
returns-in_err-marks c =
    λ i. rw c.from_residual.ensures (outputs_full _ _ _ _ _ _ refl (outputs_turn _ _ _ _ _ _ _ (omega arith) c.in_err-marks.ensures (c.loop-v.invariant.0 i)))

pub returns : goal.returns
returns c = λ i. rest_end _ _ _ _ (rising_end _ _ _ (omega arith)) (c.loop-v.invariant.0 i)
