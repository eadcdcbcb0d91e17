-- `enforce_count` puts the refusal into the lent word.
use mathlib.Core.Path.{◌∙◌}
use Rattle.rules.specs.Refusals.{answer_number, answer_value}
use Rattle.watchdog_enforce.proofs.enforce_count.Goals as goal

pub returns-in-Ok : goal.returns-in-Ok
unfolding answer_number answer_value
returns-in-Ok c =
    let e = c.in-Ok.ensures in
    (e.0, e.1.0, e.1.1)

pub returns-in-Err : goal.returns-in-Err
unfolding answer_number answer_value
returns-in-Err c =
    let e = c.in-Err.ensures in
    (e.0, c.number.ensures ∙ e.1.0, e.1.1)
