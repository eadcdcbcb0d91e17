-- `spread` counts from what the right maximum leaves of v up to the smaller of v and the left maximum.
use native.Mathlib.Omega.{arith}
use Prim.Native.Nat.{◌<◌}
use Rattle.totalizer_clauses.proofs.PairWalk.{spread_is}
use Rattle.totalizer_clauses.proofs.spread.Goals as goal

pub returns : goal.returns
returns c =
    let maximum = c.maximum in
    let i : maximum.result < 4294967296 = omega (arith, maximum.type_inv) in
    spread_is _ _ _ _ _ _ _ _ _ _ _ i maximum.ensures c.counted-right.ensures c.maximum-left.ensures (omega arith) (omega arith)
