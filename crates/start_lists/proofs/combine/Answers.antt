use mathlib.Core.Path.{refl}
use native.Mathlib.Omega.{arith}
use Rattle.start_lists.proofs.Walk.{inside, outside}
use Rattle.start_lists.proofs.Listing.{listed_none, listed_as, combined_next, combined_all}
use Rattle.start_lists.proofs.combine.Goals as goal

pub loop-i-init : goal.loop-i-init
loop-i-init c = (listed_none _ _ _ _ refl refl, omega arith)

pub loop-i-preserved : goal.loop-i-preserved
loop-i-preserved c =
    let join = c.join in
    let loop = c.loop-i in
    (listed_as _ _ _ _ _ _ _ (combined_next _ _ (inside _ _ c.loop-i-test.true)) (join.ensures.by_index _ loop.invariant.0), omega (arith, join.ensures.few, loop.invariant.1))

pub returns : goal.returns
returns c = listed_as _ _ _ _ _ _ _ (combined_all _ _ (outside _ _ c.loop-i-test.false)) c.loop-i.invariant.0
