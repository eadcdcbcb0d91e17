-- `waiting` appends the words of a waiting entry.
use Rattle.records_append.proofs.Appending.{waiting_done}
use Rattle.records_append.proofs.waiting.Goals as goal

pub returns-in_err-made : goal.returns-in_err-made
returns-in_err-made c = λ b. rw c.from_residual.ensures (waiting_done _ _ _ _ _ (c.in_err-made.ensures b))

pub returns : goal.returns
returns c = λ b. waiting_done _ _ _ _ _ (c.in_ok-made.ensures b)
