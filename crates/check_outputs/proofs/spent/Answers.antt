use mathlib.Core.Path.{subst, ◌∙◌}
use Prim.Native.Nat.{ℕ, ◌≤◌, ◌<◌}
use native.Mathlib.Omega.{arith}
use Rattle.check_outputs.proofs.Entries.{budget_on, budget_over, budget_end}
use Rattle.check_outputs.proofs.spent.Goals as goal

pub returns-in_err-left : goal.returns-in_err-left
returns-in_err-left c =
    let loop = c.loop-i in
    let less : loop.left < c.record_cost.result = omega (arith, c.in_err-left.ensures) in
    λ rs h. c.from_residual.ensures ∙ budget_over rs _ _ _ _ (loop.invariant rs h) (subst (λ (n : ℕ). loop.i < n) h.count_is c.loop-i-test.true) _ (c.record_cost.ensures rs h) less

pub loop-i-preserved : goal.loop-i-preserved
loop-i-preserved c =
    let loop = c.loop-i in
    λ rs h. budget_on rs _ _ _ _ (loop.invariant rs h) (subst (λ (n : ℕ). loop.i < n) h.count_is c.loop-i-test.true) _ (c.record_cost.ensures rs h) _ c.in_ok-left.ensures

pub returns : goal.returns
returns c =
    let loop = c.loop-i in
    λ rs h. budget_end rs _ _ _ _ (loop.invariant rs h) (subst (λ (n : ℕ). n ≤ loop.i) h.count_is c.loop-i-test.false)
