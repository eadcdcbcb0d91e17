-- `put_tare` tests the lowest bit.
use Rattle.std.proofs.Common.{inl, inr}
use Rattle.enforce_answer.proofs.Back.{step_clear, step_none, step_set}
use Rattle.enforce_answer.proofs.put_tare.Goals as goal

pub returns-then-x-ne1 : goal.returns-then-x-ne1
returns-then-x-ne1 c = elim c.then-x-ne1.either [ inl h ↦ step_clear _ _ _ _ h | inr h ↦ step_none _ _ _ _ h.0 h.1 ]

pub returns : goal.returns
returns c = step_set _ _ _ _ _ c.if-x-ne1.false c.if-at-eq0.false c.put_signed.ensures
