-- `ends_in` tests the node that the last bucket links.
use mathlib.Core.Path.{sym, ap, ◌∙◌}
use mathlib.Core.Bool.{Bool, not}
use Prim.Native.Nat.{ℕ}
use Rattle.rules.specs.Records.{node_at}
use Rattle.rules.specs.WellFormed.{is_dummy, ends_in}
use Rattle.check_arrays.proofs.Walk.{then_and, else_and}
use Rattle.check_buckets.proofs.Buckets.{ends_waiting, ends_idle}
use Rattle.check_buckets.proofs.ends_in.Goals as goal

pub returns-then-halved : goal.returns-then-halved
returns-then-halved c =
    λ rs h.
    let links = c.is_dummy-dummy.ensures rs h ∙ ap (λ (n : ℕ). is_dummy (node_at rs n).kind) (c.right.ensures rs h) in
    then_and _ _ (c.halved.ensures rs h) c.if-halved.true links ∙ (ends_waiting rs _ ∙ ap (λ (w : Bool). ends_in rs w (node_at rs c.args.b).kind) (sym c.if-wait.true))

pub returns-else-halved : goal.returns-else-halved
returns-else-halved c =
    λ rs h. else_and _ _ (c.halved.ensures rs h) c.if-halved.false ∙ (ends_waiting rs _ ∙ ap (λ (w : Bool). ends_in rs w (node_at rs c.args.b).kind) (sym c.if-wait.true))

pub returns-then-is_join : goal.returns-then-is_join
returns-then-is_join c =
    λ rs h.
    let links = c.is_dummy-dummy.ensures rs h ∙ ap (λ (n : ℕ). is_dummy (node_at rs n).kind) (c.right.ensures rs h) in
    then_and _ _ (c.is_join.ensures rs h) c.if-is_join.true (ap not links) ∙ (ends_idle rs _ ∙ ap (λ (w : Bool). ends_in rs w (node_at rs c.args.b).kind) (sym c.if-wait.false))

pub returns-else-is_join : goal.returns-else-is_join
returns-else-is_join c =
    λ rs h. else_and _ _ (c.is_join.ensures rs h) c.if-is_join.false ∙ (ends_idle rs _ ∙ ap (λ (w : Bool). ends_in rs w (node_at rs c.args.b).kind) (sym c.if-wait.false))
