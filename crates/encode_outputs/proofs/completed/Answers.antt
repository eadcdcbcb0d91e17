-- `completed` defines and then appends; where the room ended at the outputs, what waits is not appended.
use mathlib.Core.Path.{refl}
use Rattle.records.proofs.Step.{stop}
use Rattle.encode_outputs.proofs.Lasts.{finished, waiting_grows}
use Rattle.encode_outputs.proofs.completed.Goals as goal

pub returns-in_err-n-clause-carries : goal.returns-in_err-n-clause-carries
returns-in_err-n-clause-carries c =
    rw c.from_residual.ensures (λ e p h named. finished e _ _ _ p c.args.z _ _ _ c.in_err-n.ensures (stop _ _ (waiting_grows _) refl) h named)

pub returns-in_err-marks-clause-carries : goal.returns-in_err-marks-clause-carries
returns-in_err-marks-clause-carries c =
    rw c.from_residual-in_err-marks.ensures (λ e p h named. finished e _ _ _ p c.args.z _ _ _ c.in_ok-n.ensures (c.in_err-marks.ensures _) h named)

pub returns-clause-carries : goal.returns-clause-carries
returns-clause-carries c =
    λ e p h named. finished e _ _ _ p c.args.z _ _ _ c.in_ok-n.ensures (c.in_ok-marks.ensures _) h named
