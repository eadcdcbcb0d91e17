use mathlib.Core.Path.{refl}
use native.Mathlib.Omega.{arith}
use Rattle.records_words.proofs.Zero.{zero_start, zero_turn, zero_end}
use Rattle.records_words.proofs.pad.Goals as goal

pub loop-i-init : goal.loop-i-init
loop-i-init g c = (zero_start c.args.x c.args.s.now c.args.from, omega arith)

pub loop-i-preserved : goal.loop-i-preserved
loop-i-preserved g c =
    let loop = c.loop-i in
    (zero_turn c.args.x _ _ _ _ _ loop.auto.i (omega arith) loop.auto.s loop.invariant.0 refl, omega arith)

pub returns : goal.returns
returns g c =
    let loop = c.loop-i in
    zero_end c.args.x _ _ _ _ loop.auto.i loop.invariant.1 (omega arith) loop.auto.s loop.invariant.0
