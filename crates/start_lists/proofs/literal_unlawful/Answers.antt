use mathlib.Core.Path.{refl, sym, ◌∙◌}
use lib.IntN.{pos}
use Rattle.rules.specs.Numbers.{lawful}
use Rattle.rules.specs.Refusals.{literal_unlawful}
use Rattle.numbers.specs.Signed.{signed_at}
use Rattle.start_lists.proofs.Walk.{all_on, all_stop, all_end}
use Rattle.start_lists.proofs.literal_unlawful.Goals as goal

pub loop-i-init : goal.loop-i-init
loop-i-init c = refl

pub returns-then-not-lawful_at : goal.returns-then-not-lawful_at
unfolding literal_unlawful signed_at
returns-then-not-lawful_at c =
    let lawful-at = c.lawful_at in
    all_stop lawful (pos 0) _ _ _ c.loop-i.invariant c.loop-i-test.true (sym lawful-at.ensures ∙ c.if-not-lawful_at.true)

pub loop-i-preserved : goal.loop-i-preserved
unfolding signed_at
loop-i-preserved c =
    let lawful-at = c.lawful_at in
    all_on lawful (pos 0) _ _ _ c.loop-i.invariant c.loop-i-test.true (sym lawful-at.ensures ∙ c.if-not-lawful_at.false)

pub returns : goal.returns
unfolding literal_unlawful
returns c = all_end lawful (pos 0) _ _ _ c.loop-i.invariant c.loop-i-test.false
