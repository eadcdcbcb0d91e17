-- `put_inputs` puts the leaves, and then what waits; where the room ends at the leaves, nothing more.
use mathlib.Core.Path.{refl}
use Rattle.watchdog_start.proofs.Written.{inputs_full, inputs_done}
use Rattle.watchdog_start.proofs.put_inputs.Goals as goal

pub returns-in_err-leaves : goal.returns-in_err-leaves
returns-in_err-leaves c = λ lits e b. rw c.from_residual.ensures (inputs_full _ _ lits _ refl (c.in_err-leaves.ensures lits e b))

pub returns : goal.returns
returns c = λ lits e b. inputs_done _ _ _ lits _ (c.in_ok-leaves.ensures lits e b) (c.waits.ensures b)
