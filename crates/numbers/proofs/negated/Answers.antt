-- `negated` turns the bit that says negation; words 0 and 1 name no variable.
use Rattle.numbers.proofs.Literals.{negated_small, negated_some}
use Rattle.numbers.proofs.negated.Goals as goal

pub returns-then-w-lt2 : goal.returns-then-w-lt2
returns-then-w-lt2 c = negated_small _ c.if-w-lt2.true

pub returns-else-w-lt2 : goal.returns-else-w-lt2
returns-else-w-lt2 c = negated_some _ c.if-w-lt2.false
