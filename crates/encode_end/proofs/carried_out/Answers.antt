-- `carried_out` sets aside, reaches, and ends.
use mathlib.Core.Path.{refl, ◌∙◌}
use native.Mathlib.Omega.{arith}
use Rattle.encode_case.proofs.Tests.{case_found}
use Rattle.encode_end.proofs.Finals.{begins_at, roomy, aside_kept, kept, undone_end, fresh_low, records_room, done_end}
use Rattle.encode_end.proofs.carried_out.Goals as goal

pub set_aside-requires : goal.set_aside-requires
set_aside-requires c =
    let args = c.args in
    let pre = c.requires in
    roomy _ pre.0 _ (begins_at _ pre.0 _ c.before_waiting-n.ensures) args.store.now args.work.now refl refl

pub reach-requires : goal.reach-requires
reach-requires c =
    let pre = c.requires in
    (pre.0.begins, begins_at _ pre.0 _ c.before_waiting-n.ensures, (case_found _ _ pre.1).due_is, c.set_aside.ensures.0)

pub state_after-state-requires : goal.state_after-state-requires
state_after-state-requires c =
    let new = c.reach.new in
    let pre = c.requires in
    (fresh_low _ pre.0 _ (begins_at _ pre.0 _ c.before_waiting-n.ensures) c.in-Some.z new.store new.clauses c.in-Some.ensures.0, omega (arith, pre.0.begins.well.laid.variables_few))

pub settled-requires : goal.settled-requires
settled-requires c =
    let new = c.reach.new in
    let pre = c.requires in
    records_room _ pre.0 _ (begins_at _ pre.0 _ c.before_waiting-n.ensures) c.in-Some.z new.store new.clauses c.in-Some.ensures.0 _ _ c.state_after-state.ensures

pub put_back-requires : goal.put_back-requires
put_back-requires c =
    let none = c.in-None.ensures in
    let pre = c.requires in
    roomy _ pre.0 _ (begins_at _ pre.0 _ c.before_waiting-n.ensures) c.reach.new.store c.reach.new.work none.0.same_store (none.1 ∙ c.set_aside.ensures.1)

pub settled-requires-in-None : goal.settled-requires-in-None
settled-requires-in-None c =
    let none = c.in-None.ensures in
    let pre = c.requires in
    let room = roomy _ pre.0 _ (begins_at _ pre.0 _ c.before_waiting-n.ensures) c.reach.new.store c.reach.new.work none.0.same_store (none.1 ∙ c.set_aside.ensures.1) in
    omega (arith, room.within, c.put_back.ensures.1)

pub returns-in-Some : goal.returns-in-Some
returns-in-Some c =
    let new = c.reach.new in
    let some = c.in-Some.ensures in
    let pre = c.requires in
    done_end _ pre.0 _ (begins_at _ pre.0 _ c.before_waiting-n.ensures) c.in-Some.z new.store new.clauses some.0 _ _ c.args.case new.work pre.1 c.state_after-state.ensures
    (some.1 ∙ c.set_aside.ensures.1) c.settled.ensures

pub returns-in-None : goal.returns-in-None
returns-in-None c =
    let put_back = c.put_back in
    let new = c.reach.new in
    let none = c.in-None.ensures in
    let set-aside = c.set_aside in
    let pre = c.requires in
    let at = begins_at _ pre.0 _ c.before_waiting-n.ensures in
    undone_end _ pre.0 _ at new.store new.clauses none.0 _ put_back.new.store new.work put_back.ensures.1
    (put_back.ensures.0 c.args.store.now (aside_kept _ pre.0 _ at _ _ set-aside.ensures.0 none.1 none.2) (kept _ pre.0 _ at new.store new.clauses none.0))
    (none.1 ∙ set-aside.ensures.1) c.settled-in-None.ensures
