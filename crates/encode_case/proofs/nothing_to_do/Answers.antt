-- `nothing_to_do` looks for the outputs of the range where nothing is due.
use mathlib.Core.Path.{sym, ◌∙◌}
use Rattle.encode_case.proofs.Tests.{due_busy, idle_by}
use Rattle.encode_case.proofs.nothing_to_do.Goals as goal

pub returns-then-due : goal.returns-then-due
returns-then-due c =
    let args = c.args in
    λ b h d. due_busy args.s args.store.now b args.range h (sym d ∙ c.if-due.true)

pub returns : goal.returns
returns c =
    let args = c.args in
    λ b h d. idle_by args.s args.store.now b args.range h (sym d ∙ c.if-due.false) _ _ _ c.maximum.ensures c.values-vs.ensures.0 c.all_defined.ensures
