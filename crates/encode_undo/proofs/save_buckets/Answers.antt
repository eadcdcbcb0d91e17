use native.Mathlib.Omega.{arith}
use Rattle.encode_undo.proofs.Saving.{saves_turn, slot}
use Rattle.encode_undo.proofs.save_buckets.Goals as goal

pub loop-i-preserved : goal.loop-i-preserved
loop-i-preserved c =
    let pre = c.requires in
    saves_turn _ _ _ _ _ _ (omega arith) pre.1 (slot _ _ _ c.loop-i-test.true pre.2) c.copy.ensures c.loop-i.invariant
