-- `record_cost` picks what an entry costs.
use mathlib.Core.Path.{sym, ◌∙◌}
use Rattle.check_outputs.proofs.Entries.{cost_other, cost_count, cost_maximum, cost_weight}
use Rattle.check_outputs.proofs.record_cost.Goals as goal

pub returns-then-not-is_waiting : goal.returns-then-not-is_waiting
returns-then-not-is_waiting c = λ rs h. cost_other rs _ _ (sym (c.is_waiting.ensures rs h) ∙ c.if-not-is_waiting.true)

pub returns-in-Count : goal.returns-in-Count
returns-in-Count c = λ rs h. cost_count rs _ _ (sym (c.is_waiting.ensures rs h) ∙ c.if-not-is_waiting.false) c.in-Count.is

pub returns-in-Maximum : goal.returns-in-Maximum
returns-in-Maximum c =
    λ rs h. c.from.ensures ∙ cost_maximum rs _ _ (sym (c.is_waiting.ensures rs h) ∙ c.if-not-is_waiting.false) c.in-Maximum.is _ _ (c.entry_node.ensures rs h) (c.maximum.ensures rs h)

pub returns-in-Weight : goal.returns-in-Weight
returns-in-Weight c =
    λ rs h. c.from-in-Weight.ensures ∙ cost_weight rs _ _ (sym (c.is_waiting.ensures rs h) ∙ c.if-not-is_waiting.false) c.in-Weight.is _ (c.entry_weight.ensures rs h)
