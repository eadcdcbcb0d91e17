-- `nothing_asked` tests the range and the inputs.
use Rattle.encode_case.proofs.Tests.{asked_yes, asked_by}
use Rattle.encode_case.proofs.nothing_asked.Goals as goal

pub returns-then-range : goal.returns-then-range
returns-then-range c = asked_yes _ _ _ c.if-range.true

pub returns-else-range : goal.returns-else-range
returns-else-range c = asked_by _ _ _ c.if-range.false
