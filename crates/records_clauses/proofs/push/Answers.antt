-- `push` writes where there is a word and moves the mark past it.
use Rattle.records_clauses.proofs.Leaves.{push_in, push_out}
use Rattle.records_clauses.proofs.push.Goals as goal

pub returns-then-i-c : goal.returns-then-i-c
returns-then-i-c c = push_in _ _ _ _ c.if-i-c.true c.put_signed.ensures

pub returns-else-i-c : goal.returns-else-i-c
returns-else-i-c c = push_out _ _ _ c.if-i-c.false
