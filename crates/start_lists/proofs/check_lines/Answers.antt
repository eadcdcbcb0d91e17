-- `check_lines` asks the tests of lines in order.
use mathlib.Core.Path.{sym, ◌∙◌}
use Rattle.start_lists.proofs.Order.{lines_1, lines_2, lines_4, lines_0}
use Rattle.start_lists.proofs.check_lines.Goals as goal

pub returns-then-lists_differ : goal.returns-then-lists_differ
returns-then-lists_differ c = lines_1 _ _ (sym c.lists_differ.ensures ∙ c.if-lists_differ.true)

pub returns-then-literal_unlawful : goal.returns-then-literal_unlawful
returns-then-literal_unlawful c =
    lines_2 _ _ (sym c.lists_differ.ensures ∙ c.if-lists_differ.false) (sym c.literal_unlawful.ensures ∙ c.if-literal_unlawful.true)

pub returns-then-weight_unlawful : goal.returns-then-weight_unlawful
returns-then-weight_unlawful c =
    lines_4 _ _ (sym c.lists_differ.ensures ∙ c.if-lists_differ.false) (sym c.literal_unlawful.ensures ∙ c.if-literal_unlawful.false) (sym c.weight_unlawful.ensures ∙ c.if-weight_unlawful.true)

pub returns-else-weight_unlawful : goal.returns-else-weight_unlawful
returns-else-weight_unlawful c =
    lines_0 _ _ (sym c.lists_differ.ensures ∙ c.if-lists_differ.false) (sym c.literal_unlawful.ensures ∙ c.if-literal_unlawful.false) (sym c.weight_unlawful.ensures ∙ c.if-weight_unlawful.false)
