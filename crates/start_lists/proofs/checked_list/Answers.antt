-- `checked_list` asks what is left behind the check of the list: 5, then 7.
use mathlib.Core.Path.{sym, ◌∙◌}
use native.Mathlib.Omega.{arith}
use Rattle.std.proofs.lemmas.Result.{err_from_is_err_and}
use Rattle.start_lists.proofs.Order.{list_accepted, list_used, list_lawful, list_few, by_list, by_fresh, by_room, by_none, no_room, room}
use Rattle.start_lists.proofs.checked_list.Goals as goal

pub returns-in_err-list : goal.returns-in_err-list
returns-in_err-list c =
    let p = err_from_is_err_and c.from_residual.result c.from_residual.ensures.1 in
    rw (p.1, p.2) (by_list _ _ _ _ _ c.in_err-list.ensures)

pub returns-then-fresh_unlawful : goal.returns-then-fresh_unlawful
returns-then-fresh_unlawful c =
    let is = (list_accepted _ _ _ c.in_ok-list.ensures).0 in
    by_fresh _ _ _ _ is (sym (c.fresh_unlawful.ensures (list_lawful _ _ is).0) ∙ c.if-fresh_unlawful.true)

pub overflow_mul-list : goal.overflow_mul-list
overflow_mul-list c = omega (arith, list_few _ _ _ c.in_ok-list.ensures)

pub returns-then-capacity-list : goal.returns-then-capacity-list
returns-then-capacity-list c =
    let ok = c.in_ok-list in
    let is = (list_accepted _ _ _ ok.ensures).0 in
    let lawful = list_lawful _ _ is in
    by_room _ _ _ _ is (sym (c.fresh_unlawful.ensures lawful.0) ∙ c.if-fresh_unlawful.false) (no_room _ _ _ _ c.capacity.ensures (list_used _ _ _ ok.ensures) lawful.1 c.if-capacity-list.true)

pub returns : goal.returns
returns c =
    let ok = c.in_ok-list in
    let lawful = list_lawful _ _ (list_accepted _ _ _ ok.ensures).0 in
    by_none _ _ _ _ _ ok.ensures (sym (c.fresh_unlawful.ensures lawful.0) ∙ c.if-fresh_unlawful.false) (room _ _ _ _ c.capacity.ensures (list_used _ _ _ ok.ensures) lawful.1 c.if-capacity-list.false)
