-- `is_entry` asks for a waiting entry, then compares its node.
use mathlib.Core.Path.{sym, ◌∙◌}
use Rattle.check_inputs.proofs.Inputs.{entry_other, entry_here}
use Rattle.check_inputs.proofs.is_entry.Goals as goal

pub returns-then-is_waiting : goal.returns-then-is_waiting
returns-then-is_waiting c =
    λ rs h. entry_here _ _ (sym (c.is_waiting.ensures rs h) ∙ c.if-is_waiting.true) _ (c.entry_node.ensures rs h)

pub returns-else-is_waiting : goal.returns-else-is_waiting
returns-else-is_waiting c = λ rs h. c.if-is_waiting.false ∙ entry_other _ _ (sym (c.is_waiting.ensures rs h) ∙ c.if-is_waiting.false)
