-- `push_clause` writes both sides, the output and the closing 0, each where the one before ends.
use Rattle.records_clauses.proofs.Leaves.{clause_pushed}
use Rattle.records_clauses.proofs.push_clause.Goals as goal

pub returns : goal.returns
returns c =
    clause_pushed _ _ _ _ _ _ _ _ c.push_side-j.ensures c.push_side-k.ensures c.push-l.ensures c.push.ensures
