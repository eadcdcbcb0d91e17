use mathlib.Core.Path.{refl, sym, ap, ◌∙◌, subst}
use Prim.Native.Nat.{ℕ, ◌+◌, ◌≤◌, ◌<◌}
use lib.ListN.{length, drop}
use Rattle.rules.specs.Records.{outputs}
use Rattle.rules.specs.WellFormed.{outputs_rise, rise_from}
use Rattle.check_outputs.proofs.Outputs.{rise_past, rise_on, rise_stop, rise_end}
use Rattle.check_outputs.proofs.outputs_rise.Goals as goal
use Rattle.check_outputs.proofs.outputs_rise.Goals.{then-is_output+else-number-low, else-is_output}

pub loop-i-init : goal.loop-i-init
unfolding outputs_rise
loop-i-init c = λ rs h. refl

pub returns-then-number-low : goal.returns-then-number-low
returns-then-number-low c =
    let loop = c.loop-i in
    λ rs h. rise_stop rs _ _ _ (loop.invariant rs h) (subst (λ (n : ℕ). loop.i < n) h.count_is c.loop-i-test.true) (sym (c.is_output.ensures rs h) ∙ c.if-is_output.true) _ _ (c.output_number.ensures rs h) (c.from-number.ensures ∙ c.variable.ensures) c.if-number-low.true

pub loop-i-preserved : goal.loop-i-preserved
loop-i-preserved c =
    let loop = c.loop-i in
    λ rs h.
    let below : loop.i < length rs = subst (λ (n : ℕ). loop.i < n) h.count_is c.loop-i-test.true in
    elim c.if-is_output.branch [
      | then-is_output+else-number-low w ↦ ap (λ (n : ℕ). rise_from n (outputs (drop (loop.i + 1) rs))) w.low-is ∙ rise_on rs _ _ _ (loop.invariant rs h) below (sym (c.is_output.ensures rs h) ∙ w.if-is_output.true) _ _ (w.output_number.ensures rs h) (w.from-number.ensures ∙ w.variable.ensures) w.if-number-low.false
      | else-is_output w ↦ ap (λ (n : ℕ). rise_from n (outputs (drop (loop.i + 1) rs))) w.low-is ∙ rise_past rs _ _ _ (loop.invariant rs h) below (sym (c.is_output.ensures rs h) ∙ w.if-is_output.false)
    ]

pub returns : goal.returns
returns c =
    let loop = c.loop-i in
    λ rs h. rise_end rs _ _ _ (loop.invariant rs h) (subst (λ (n : ℕ). n ≤ loop.i) h.count_is c.loop-i-test.false)
