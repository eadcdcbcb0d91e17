-- `check_list` refuses lines one by one, then combines them and looks at the weights added.
use mathlib.Core.Path.{◌∙◌}
use mathlib.Core.Bool.{true, false}
use Rattle.std.proofs.lemmas.Result.{err_from_is_err_and}
use Rattle.start_lists.proofs.Order.{sent, lines_are, lines_refused, list_decided, heavy_list, accepted_list, lawful_all}
use Rattle.start_lists.proofs.Listing.{listed_list, listed_heavy}
use Rattle.start_lists.proofs.check_list.Goals as goal

pub returns-in_err-check_lines : goal.returns-in_err-check_lines
returns-in_err-check_lines c =
    let p = err_from_is_err_and c.from_residual.result c.from_residual.ensures.1 in
    rw (p.1, p.2) (lines_refused _ _ _ c.in_err-check_lines.ensures)

pub combine-list-requires : goal.combine-list-requires
combine-list-requires c = lines_are _ _ (sent _ _ c.in_ok-check_lines.ensures)

pub returns-then-heavy : goal.returns-then-heavy
returns-then-heavy c =
    let lines = sent _ _ c.in_ok-check_lines.ensures in
    let heavier = listed_heavy _ _ (lawful_all _ lines.unlawful) _ _ _ c.combine-list.ensures _ c.heavy.ensures in
    heavy_list _ _ (list_decided _ _ true lines (heavier ∙ c.if-heavy.true))

pub returns-else-heavy : goal.returns-else-heavy
returns-else-heavy c =
    let combine = c.combine-list in
    let lines = sent _ _ c.in_ok-check_lines.ensures in
    let lawful = lawful_all _ lines.unlawful in
    let heavier = listed_heavy _ _ lawful _ _ _ combine.ensures _ c.heavy.ensures in
    accepted_list _ _ _ (list_decided _ _ false lines (heavier ∙ c.if-heavy.false)) (listed_list _ _ lawful _ _ _ combine.ensures)
