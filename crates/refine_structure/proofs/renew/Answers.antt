-- `renew` links the buckets anew where their sizes fit, then extends.
use mathlib.Core.Path.{refl}
use Rattle.refine_structure.proofs.Renewing.{renew_over, renew_done}
use Rattle.refine_structure.proofs.renew.Goals as goal

pub returns-in_err-relink : goal.returns-in_err-relink
returns-in_err-relink c =
    rw c.from_residual.ensures (λ s₀ m₀ before d t r. renew_over _ _ _ _ _ _ _ _ _ _ _ _ r refl _ _ refl c.in_err-relink.ensures)

pub returns : goal.returns
returns c =
    λ s₀ m₀ before d t r. renew_done _ _ _ _ _ _ _ _ _ _ _ _ r refl _ _ _ refl c.in_ok-relink.ensures c.extend_buckets.ensures
