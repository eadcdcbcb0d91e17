-- `pair_clause` puts what both sides add before the output.
use Rattle.std.proofs.Common.{refl}
use Rattle.totalizer_clauses.proofs.Clauses.{clause_done}
use Rattle.totalizer_clauses.proofs.pair_clause.Goals as goal

pub returns : goal.returns
returns c =
    λ w e i. clause_done _ _ _ _ _ _ _ _ w _ _ _ _ _ refl c.side-p.ensures (c.through.ensures i) c.side-q.ensures e (c.put_clause.ensures _)
