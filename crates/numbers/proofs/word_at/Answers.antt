-- `word_at` asks `literal_word` of the number that stands there; 0, which stands past the end, has none.
use mathlib.Core.Path.{ap, ◌∙◌, sym}
use lib.ListN.{get_or-eq_default}
use lib.IntN.{pos}
use borrow.Author.Rules.{rules}
use Rattle.numbers.specs.Signed.{word_or_none}
use Rattle.numbers.specs.Signed.{signed_at}
use Rattle.numbers.proofs.word_at.Goals as goal

pub returns-then-i-lits : goal.returns-then-i-lits
unfolding signed_at
returns-then-i-lits c = c.literal_word.ensures ∙ ap word_or_none (search rules)

pub returns-else-i-lits : goal.returns-else-i-lits
unfolding signed_at word_or_none
returns-else-i-lits c = sym (ap word_or_none (get_or-eq_default c.args.lits.now (pos 0) c.if-i-lits.false))
