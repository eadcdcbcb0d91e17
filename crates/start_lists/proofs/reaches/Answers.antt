use mathlib.Core.Path.{refl}
use Rattle.start_lists.proofs.Walk.{all_on, all_stop, all_end, inside, outside, word_there}
use Rattle.start_lists.proofs.Order.{Below, below_no, below_yes}
use Rattle.start_lists.proofs.reaches.Goals as goal

pub loop-i-init : goal.loop-i-init
loop-i-init c = refl

pub returns-then-first-variable : goal.returns-then-first-variable
returns-then-first-variable c =
    all_stop (Below _) 0 _ _ _ c.loop-i.invariant (inside _ _ c.loop-i-test.true) (below_no _ _ _ _ (word_there _ _) c.word_at.ensures _ c.variable.ensures c.if-first-variable.true)

pub loop-i-preserved : goal.loop-i-preserved
loop-i-preserved c =
    all_on (Below _) 0 _ _ _ c.loop-i.invariant (inside _ _ c.loop-i-test.true) (below_yes _ _ _ _ (word_there _ _) c.word_at.ensures _ c.variable.ensures c.if-first-variable.false)

pub returns : goal.returns
returns c = all_end (Below _) 0 _ _ _ c.loop-i.invariant (outside _ _ c.loop-i-test.false)
