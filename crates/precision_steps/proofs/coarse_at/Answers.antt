-- `coarse_at` takes off what is over the last multiple of the weight, and never adds to u.
use Rattle.precision_steps.proofs.Bound.{coarse_none, coarse_low, coarse_whole, coarse_part}
use native.Mathlib.Omega.{arith}
use Rattle.precision_steps.proofs.coarse_at.Goals as goal

pub returns-then-w-eq0 : goal.returns-then-w-eq0
returns-then-w-eq0 c = coarse_none _ _ c.if-w-eq0.true

pub returns-then-u-w : goal.returns-then-u-w
returns-then-u-w c = coarse_low _ _ c.if-u-w.true

pub returns-then-left-w : goal.returns-then-left-w
returns-then-left-w c = coarse_whole _ _ (omega arith) c.if-left-w.true

pub returns-else-left-w : goal.returns-else-left-w
returns-else-left-w c = coarse_part _ _ (omega arith) c.if-u-w.false c.if-left-w.false
