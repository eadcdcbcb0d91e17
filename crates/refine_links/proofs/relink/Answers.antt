use mathlib.Core.Path.{refl, ◌∙◌}
use Rattle.std.proofs.lemmas.Iterator.Adapters.{YieldsList-from_rev_slice}
use Rattle.std.proofs.lemmas.Iterator.Consumers.{YieldsList-turn, YieldsList-end}
use Rattle.std.proofs.lemmas.List.{length_push}
use Rattle.refine_links.proofs.Linking.{going_end, going_turn, going_over}
use Rattle.refine_links.proofs.relink.Goals as goal

pub returns-in_err-link : goal.returns-in_err-link
returns-in_err-link c =
    let loop = c.loop-b in
    let here = YieldsList-turn (YieldsList-from_rev_slice c.args.buckets.now (cc)) loop.yielded _ loop.yielded_by _ _ c.in-Some.field-0 c.in-Some.is c.next.ensures.steps in
    rw c.from_residual.ensures (going_over _ _ _ _ _ _ _ _ _ here loop.invariant.0 _ refl c.in_err-link.ensures)

pub loop-b-preserved : goal.loop-b-preserved
loop-b-preserved c =
    let loop = c.loop-b in
    let here = YieldsList-turn (YieldsList-from_rev_slice c.args.buckets.now (cc)) loop.yielded _ loop.yielded_by _ _ c.in-Some.field-0 c.in-Some.is c.next.ensures.steps in
    (rw (length_push loop.yielded c.in-Some.field-0) (going_turn _ _ _ _ _ _ _ _ _ here loop.invariant.0 _ refl c.in_ok-link.ensures), c.link.auto.store ∙ loop.invariant.1)

pub returns : goal.returns
returns c =
    let loop = c.loop-b in
    let end = YieldsList-end (YieldsList-from_rev_slice c.args.buckets.now (cc)) loop.yielded _ loop.yielded_by _ _ c.in-None.is c.next.ensures.steps in
    going_end _ _ _ _ _ _ _ end.1 loop.invariant.0
