use Rattle.std.proofs.Common.{◌≡◌, arith}
use Rattle.node_structs.proofs.Filling.{filled_start, filled_turn, copies}
use Rattle.node_structs.proofs.copy_nodes.Goals as goal

pub loop-i-init : goal.loop-i-init
loop-i-init c = filled_start _ _ _

pub loop-i-preserved : goal.loop-i-preserved
loop-i-preserved c = filled_turn _ _ _ _ _ _ c.loop-i.invariant c.stored.ensures

pub returns : goal.returns
returns c =
    let last : c.loop-i.i ≡ c.min-many.result = omega arith in
    rw (c.loop-i.invariant, last) (copies _ _ _ _ (omega arith))
