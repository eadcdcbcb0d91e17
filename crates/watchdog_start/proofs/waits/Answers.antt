use mathlib.Core.Path.{refl, ◌∙◌}
use native.Mathlib.Omega.{arith}
use Rattle.watchdog_start.proofs.Written.{more_none, wait_next, more_all, more_full, waits_over, weight_small}
use Rattle.watchdog_start.proofs.waits.Goals as goal

pub loop-i-init : goal.loop-i-init
loop-i-init c = (λ b. more_none _, refl)

pub overflow_cast-weight : goal.overflow_cast-weight
overflow_cast-weight c = omega (arith, weight_small c.args.weights.now c.loop-i.i c.requires.0 c.loop-i-test.true)

pub loop-i-preserved : goal.loop-i-preserved
loop-i-preserved c =
    let loop = c.loop-i in (
      λ b. wait_next _ _ _ _ _ c.loop-i-test.true (loop.invariant.0 b) (c.in_ok-m.ensures b),
      c.waiting.auto.s ∙ loop.invariant.1,
    )

pub returns-in_err-m : goal.returns-in_err-m
returns-in_err-m c =
    λ b. rw c.from_residual.ensures (more_full _ _ _ _ refl (wait_next _ _ _ _ _ c.loop-i-test.true (c.loop-i.invariant.0 b) (c.in_err-m.ensures b)))

pub shape_of-s : goal.shape_of-s
shape_of-s c = c.loop-i.invariant.1

pub returns : goal.returns
returns c = λ b. more_all _ _ _ _ (waits_over _ _ c.loop-i-test.false) (c.loop-i.invariant.0 b)
