-- `coarse_ub` reads a state that is well formed.
use Rattle.std.proofs.lemmas.Result.{err_from_is_err_and}
use Rattle.watchdog_precision.proofs.Formed.{formed_few, formed_tares}
use Rattle.watchdog_precision.proofs.Answers.{coarse_answer, coarse_refused}
use Rattle.watchdog_precision.proofs.coarse_ub.Goals as goal

pub returns-in_err-check_formed : goal.returns-in_err-check_formed
returns-in_err-check_formed c =
    let p = err_from_is_err_and c.from_residual.result c.from_residual.ensures.1 in
    rw (p.1, p.2) (coarse_refused _ _ _ _ c.in_err-check_formed.ensures _)

pub coarse-requires : goal.coarse-requires
coarse-requires c = formed_few _ _ _ c.in_ok-check_formed.ensures

pub returns : goal.returns
returns c =
    let formed = c.in_ok-check_formed.ensures in
    coarse_answer _ _ _ formed _ _ (formed_tares _ _ _ formed) c.coarse.ensures
