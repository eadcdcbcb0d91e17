-- `inputs_wait` counts the entries, then looks each input up among the last records.
use mathlib.Core.Path.{◌≡◌, sym, ap, ap₂, ◌∙◌}
use Prim.Native.Nat.{ℕ}
use lib.Dec.{eqb}
use lib.ListN.{length, drop}
use borrow.Author.Tests.{eqb-true}
use Rattle.rules.specs.Lists.{all, rising}
use Rattle.rules.specs.Records.{entries}
use Rattle.check_inputs.specs.Steps.{waits_in}
use Rattle.check_arrays.proofs.Walk.{then_and, else_and}
use Rattle.check_well_formed.proofs.Ways.{count_is, each_is}
use Rattle.check_well_formed.proofs.inputs_wait.Goals as goal

pub returns-then-costs : goal.returns-then-costs
returns-then-costs c =
    let inputs = c.args.inputs in
    λ rs h w.
    let counts : c.costs.result ≡ eqb (length (entries rs)) inputs = c.costs.ensures rs h ∙ ap₂ eqb (count_is rs) c.from.ensures in
    then_and _ _ counts c.if-costs.true
    (c.each_waits.ensures rs h ∙
    (ap (λ (n : ℕ). all (waits_in (drop n rs)) (rising inputs 0)) c.saturating_sub-from.ensures ∙
    each_is rs c.args.store.records inputs h.count_is w (eqb-true _ _ (sym counts ∙ c.if-costs.true))))

pub returns-else-costs : goal.returns-else-costs
returns-else-costs c =
    λ rs h w. else_and _ _ (c.costs.ensures rs h ∙ ap₂ eqb (count_is rs) c.from.ensures) c.if-costs.false
