-- `is_dummy` tests that a node is neither join nor leaf.
use mathlib.Core.Path.{sym, ap, ◌∙◌}
use mathlib.Core.Bool.{not}
use Rattle.records.proofs.Read.{dummy_join, dummy_other}
use Rattle.records.proofs.Store.is_dummy.Goals as goal

pub returns-then-not-is_join : goal.returns-then-not-is_join
returns-then-not-is_join c =
    λ rs h. ap not (c.is_leaf.ensures rs h) ∙ dummy_other _ (sym (c.is_join.ensures rs h) ∙ c.if-not-is_join.true)

pub returns-else-not-is_join : goal.returns-else-not-is_join
returns-else-not-is_join c =
    λ rs h. ap not c.if-not-is_join.false ∙ dummy_join _ (sym (c.is_join.ensures rs h) ∙ c.if-not-is_join.false)
