use native.Mathlib.Omega.{arith}
use Rattle.encode_undo.proofs.Saving.{restores_start, restores_turn, slot}
use Rattle.encode_undo.proofs.restore_buckets.Goals as goal

pub loop-k-init : goal.loop-k-init
loop-k-init c = restores_start _ _ _

pub loop-k-preserved : goal.loop-k-preserved
loop-k-preserved c =
    let pre = c.requires in
    restores_turn _ _ _ _ _ _ c.loop-k-test.true (omega arith) pre.1 (slot _ _ _ c.loop-k-test.true pre.2) c.copy.ensures c.loop-k.invariant
