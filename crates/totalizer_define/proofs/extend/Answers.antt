-- `extend` counts the first pairs, those whose b exceeds the bound, asks for what they use and then writes their clauses.
use Rattle.std.proofs.Common.{refl}
use Rattle.records.proofs.Step.{stop}
use Rattle.totalizer_clauses.proofs.Growth.{write_grows}
use Rattle.totalizer_clauses.proofs.PairWalk.{span_fewer}
use Rattle.totalizer_define.proofs.Defining.{extend_done}
use Rattle.totalizer_define.proofs.extend.Goals as goal

pub ask_pairs-requires : goal.ask_pairs-requires
ask_pairs-requires c = span_fewer _ _ _ _ c.further-pairs.ensures c.spread-all.ensures.within

pub returns-in_err-asked : goal.returns-in_err-asked
returns-in_err-asked c =
    λ w e f. rw c.from_residual.ensures (extend_done _ _ _ _ _ _ w refl e _ _ _ _ _ c.left.ensures c.right.ensures c.spread-all.ensures c.further-pairs.ensures c.height-height.ensures _ _ c.in_err-asked.ensures
    (λ i j. stop _ _ (write_grows _ _ _ _ _) refl))

pub returns : goal.returns
returns c =
    λ w e f. extend_done _ _ _ _ _ _ w refl e _ _ _ _ _ c.left.ensures c.right.ensures c.spread-all.ensures c.further-pairs.ensures c.height-height.ensures _ _ c.in_ok-asked.ensures (c.write.ensures _ f)
