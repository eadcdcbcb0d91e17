-- `set` changes the state where nothing is refused.
use Rattle.rules.specs.Precision.{with_set}
use Rattle.precision_steps.proofs.Divisor.{set_made, set_kept}
use Rattle.precision_steps.proofs.set.Goals as goal

pub returns-in-Ok : goal.returns-in-Ok
unfolding with_set
returns-in-Ok c = set_made c.args.s _ _ _ _ c.check_divisor-answer.ensures c.in-Ok.is c.divisor_of.ensures

pub returns-in-Err : goal.returns-in-Err
returns-in-Err c = set_kept _ _ _ _ _ c.check_divisor-answer.ensures c.in-Err.is
