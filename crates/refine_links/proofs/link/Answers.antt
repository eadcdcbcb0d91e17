-- `link` computes maximum and height: where one does not fit a word nothing is written, else the words of the bucket, patched.
use Rattle.std.proofs.Common.{refl, arith}
use Rattle.refine_links.proofs.Linking.{bucket_put, link_over, link_done}
use Rattle.refine_links.proofs.link.Goals as goal

pub returns-in_err-maximum : goal.returns-in_err-maximum
returns-in_err-maximum c =
    rw c.from_residual.ensures (link_over _ _ _ _ _ _ _ _ _ _ _ _ c.left-left.ensures c.maximum.ensures c.counted-half.ensures c.maximum-2.ensures refl c.height.ensures c.height-2.ensures refl (omega (arith, c.in_err-maximum.ensures)))

pub returns-in_err-height : goal.returns-in_err-height
returns-in_err-height c =
    rw c.from_residual-in_err-height.ensures (link_over _ _ _ _ _ _ _ _ _ _ _ _ c.left-left.ensures c.maximum.ensures c.counted-half.ensures c.maximum-2.ensures refl c.height.ensures c.height-2.ensures refl (omega (arith, c.in_err-height.ensures, c.max.ensures)))

pub returns : goal.returns
returns c =
    link_done _ _ _ _ _ _ _ _ _ _ _ _ c.left-left.ensures c.maximum.ensures c.counted-half.ensures c.maximum-2.ensures c.in_ok-maximum.ensures.1 c.height.ensures c.height-2.ensures (omega (arith, c.in_ok-height.ensures, c.max.ensures)) _ c.put_bucket.auto.store (omega (arith, c.in_ok-maximum.ensures)) (omega (arith, c.in_ok-height.ensures)) (bucket_put _ _ _ _ _ _ _ _ c.patched.ensures c.put_bucket.ensures)
