-- `lawful_at` asks `lawful` of the number that stands there; 0, which stands past the end, is no literal.
use mathlib.Core.Path.{ap, ◌∙◌, sym}
use lib.ListN.{get_or-eq_default}
use lib.IntN.{pos}
use borrow.Author.Tests.{le-ltb}
use borrow.Author.Rules.{rules}
use Rattle.rules.specs.Numbers.{lawful}
use Rattle.numbers.specs.Signed.{signed_at}
use Rattle.numbers.proofs.lawful_at.Goals as goal

pub returns-then-i-lits : goal.returns-then-i-lits
unfolding signed_at
returns-then-i-lits c = c.lawful.ensures ∙ ap lawful (search rules)

pub returns-else-i-lits : goal.returns-else-i-lits
unfolding signed_at lawful
returns-else-i-lits c = le-ltb _ _ c.if-i-lits.false ∙ sym (ap lawful (get_or-eq_default c.args.lits.now (pos 0) c.if-i-lits.false))
