-- `dummy` appends the words of a dummy.
use Rattle.records_append.proofs.Appending.{dummy_done}
use Rattle.records_append.proofs.dummy.Goals as goal

pub returns : goal.returns
returns c = λ b. dummy_done _ _ _ (c.append.ensures b)
