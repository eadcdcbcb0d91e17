-- `halved_to` tests the halving, then the link.
use mathlib.Core.Path.{ap, ◌∙◌}
use Prim.Native.Nat.{ℕ}
use lib.Dec.{eqb}
use Rattle.check_arrays.proofs.Walk.{then_and, else_and}
use Rattle.check_buckets.proofs.Buckets.{halved_by}
use Rattle.check_buckets.proofs.halved_to.Goals as goal

pub returns-then-halved : goal.returns-then-halved
returns-then-halved c =
    λ rs h. then_and _ _ (c.halved.ensures rs h) c.if-halved.true (ap (λ (x : ℕ). eqb x c.args.c) (c.right.ensures rs h)) ∙ halved_by _ _

pub returns-else-halved : goal.returns-else-halved
returns-else-halved c = λ rs h. else_and _ _ (c.halved.ensures rs h) c.if-halved.false ∙ halved_by _ _
