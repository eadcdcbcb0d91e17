-- `next_precision` reads a store that is well formed.
use Rattle.std.proofs.lemmas.Result.{err_from_is_err_and}
use Rattle.watchdog_precision.proofs.Formed.{formed_stores}
use Rattle.watchdog_precision.proofs.Answers.{next_answer, next_refused}
use Rattle.watchdog_precision.proofs.next_precision.Goals as goal

pub returns-in_err-check_formed : goal.returns-in_err-check_formed
returns-in_err-check_formed c =
    let p = err_from_is_err_and c.from_residual.result c.from_residual.ensures.1 in
    rw (p.1, p.2) (next_refused _ _ _ _ c.in_err-check_formed.ensures)

pub returns : goal.returns
returns c =
    let formed = c.in_ok-check_formed.ensures in
    next_answer _ _ _ formed _ (c.next.ensures _ (formed_stores _ _ _ formed))
