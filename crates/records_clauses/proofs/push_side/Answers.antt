-- `push_side` writes nothing for a side that is left out.
use Rattle.std.proofs.Common.{refl}
use Rattle.records_clauses.specs.Clauses.{push_side}
use Rattle.records_clauses.proofs.push_side.Goals as goal

pub returns-in-Some : goal.returns-in-Some
unfolding push_side
returns-in-Some c = rw c.in-Some.is c.push.ensures

pub returns-in-None : goal.returns-in-None
unfolding push_side
returns-in-None c = rw c.in-None.is refl
