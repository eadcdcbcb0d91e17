-- `set_precision` passes the test on.
use Rattle.watchdog_precision.proofs.Answers.{set_answer}
use Rattle.watchdog_precision.proofs.set_precision.Goals as goal

pub returns : goal.returns
returns c = set_answer _ _ _ _ c.well_formed-formed.ensures _ _ c.set.ensures
