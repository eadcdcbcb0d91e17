-- `start` writes where nothing is refused.
use Rattle.watchdog_start.proofs.Begun.{none, given, list_is, inputs, accepted, refused}
use Rattle.watchdog_start.proofs.start.Goals as goal

pub begin_list-requires : goal.begin_list-requires
begin_list-requires c = inputs _ _ _ _ _ c.in-Ok.ensures

pub returns-in-Ok : goal.returns-in-Ok
returns-in-Ok c =
    let begin-list = c.begin_list in
    let is = c.in-Ok.ensures in
    accepted _ _ _ _ _ _ _ _ (none _ _ _ _ _ is) (begin-list.ensures.begun _ _ (list_is _ _ _ _ _ is) (given _ _ _ _ _ is)) begin-list.ensures.clauses

pub returns-in-Err : goal.returns-in-Err
returns-in-Err c = refused _ _ _ _ _ _ _ c.in-Err.ensures c.state.ensures
