use mathlib.Core.Path.{refl, ◌∙◌}
use native.Mathlib.Omega.{arith}
use Rattle.records.proofs.Step.{rest_end}
use Rattle.totalizer_clauses.proofs.PairWalk.{asks_later, write_end}
use Rattle.totalizer_clauses.proofs.Clauses.{clauses_turn, clauses_full}
use Rattle.totalizer_clauses.proofs.write.Goals as goal

pub loop-a-preserved : goal.loop-a-preserved
loop-a-preserved c =
    let loop = c.loop-a in
    (λ w e j i. clauses_turn _ _ _ _ _ _ _ w _ _ _ (omega arith) (c.in_ok-marks.ensures w e (asks_later _ _ _ _ (omega arith) i)) (loop.invariant.0 w e j i), c.pair_clause.auto.c ∙ loop.invariant.1)

pub returns-in_err-marks : goal.returns-in_err-marks
returns-in_err-marks c =
    let loop = c.loop-a in
    λ w e j i. rw c.from_residual.ensures (clauses_full _ _ _ _ _ _ w _ _ _ refl
    (clauses_turn _ _ _ _ _ _ _ w _ _ _ (omega arith) (c.in_err-marks.ensures w e (asks_later _ _ _ _ (omega arith) i)) (loop.invariant.0 w e j i)))

pub returns : goal.returns
returns c =
    λ w e j i. rest_end _ _ _ _ (write_end _ _ _ w _ _ _ (omega arith)) (c.loop-a.invariant.0 w e j i)
