-- `held` compares the kind, then reads the word.
use mathlib.Core.Path.{sym, ◌∙◌}
use Rattle.records.proofs.Leaves.{kind_is, held_none, held_some}
use Rattle.records.proofs.Store.held.Goals as goal

pub returns-then-field-kind : goal.returns-then-field-kind
returns-then-field-kind c = held_some _ _ _ _ _ _ c.field.ensures (c.if-field-kind.true ∙ kind_is c.args.kind) _ c.field-then-field-kind.ensures

pub returns-else-field-kind : goal.returns-else-field-kind
returns-else-field-kind c = held_none _ _ _ _ _ _ c.field.ensures (λ e. c.if-field-kind.false (e ∙ sym (kind_is c.args.kind)))
