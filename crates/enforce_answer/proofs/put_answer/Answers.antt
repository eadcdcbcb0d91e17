-- `put_answer` counts, tests the room, and writes the literal before the tares.
use mathlib.Core.Path.{refl}
use Rattle.enforce_answer.proofs.Finish.{ended_short, ended_room}
use Rattle.enforce_answer.proofs.put_answer.Goals as goal

pub returns-then-scratch-n : goal.returns-then-scratch-n
returns-then-scratch-n c =
    ended_short _ _ _ _ (c.set_bits-n.ensures.by_index c.args.tares.now refl) c.if-scratch-n.true

pub returns : goal.returns
returns c =
    ended_room _ _ _ _ _ _ (c.set_bits-n.ensures.by_index c.args.tares.now refl) c.if-scratch-n.false c.put_signed.ensures c.put_tares.ensures
