use Rattle.check_arrays.proofs.Slots.{distinct_on, distinct_stop, distinct_end}
use Rattle.check_arrays.proofs.distinct.Goals as goal

pub returns-then-among : goal.returns-then-among
returns-then-among c = distinct_stop _ _ _ c.loop-i.invariant c.loop-i-test.true _ c.among.ensures c.if-among.true

pub loop-i-preserved : goal.loop-i-preserved
loop-i-preserved c = distinct_on _ _ _ c.loop-i.invariant c.loop-i-test.true _ c.among.ensures c.if-among.false

pub returns : goal.returns
returns c = distinct_end _ _ _ c.loop-i.invariant c.loop-i-test.false
