-- `halved` reads the halving of a join.
use Rattle.records.proofs.Read.{halved_tells}
use Rattle.records.proofs.Store.halved.Goals as goal

pub returns : goal.returns
returns c = λ rs h. halved_tells _ _ rs h _ _ c.held.ensures
