use mathlib.Core.Path.{refl, ◌∙◌}
use Rattle.std.proofs.lemmas.Iterator.{YieldsList-from_zip}
use Rattle.std.proofs.lemmas.Iterator.Adapters.{YieldsList-from_rev_slice}
use Rattle.std.proofs.lemmas.Iterator.Consumers.{YieldsList-turn, YieldsList-end}
use Rattle.std.proofs.lemmas.List.{length_push}
use Rattle.refine_outputs.proofs.Extending.{passing_turn, passing_end, passing_full}
use Rattle.refine_outputs.proofs.extend_buckets.Goals as goal

pub loop-node-preserved : goal.loop-node-preserved
loop-node-preserved c =
    let loop = c.loop-node in
    let here = YieldsList-turn (YieldsList-from_zip (YieldsList-from_rev_slice c.args.buckets.now (cc)) (YieldsList-from_rev_slice c.args.halves.now (cc))) loop.yielded _ loop.yielded_by _ c.next.new.self _ c.in-Some.is c.next.ensures.steps in
    (rw length_push (passing_turn _ _ _ _ _ _ _ _ here c.in_ok-marks.ensures loop.invariant.0), c.extend_bucket.auto.store ∙ loop.invariant.1, c.extend_bucket.auto.clauses ∙ loop.invariant.2)

pub returns-in_err-marks : goal.returns-in_err-marks
returns-in_err-marks c =
    let loop = c.loop-node in
    let here = YieldsList-turn (YieldsList-from_zip (YieldsList-from_rev_slice c.args.buckets.now (cc)) (YieldsList-from_rev_slice c.args.halves.now (cc))) loop.yielded _ loop.yielded_by _ c.next.new.self _ c.in-Some.is c.next.ensures.steps in
    rw c.from_residual.ensures (passing_full _ _ _ _ _ _ refl (passing_turn _ _ _ _ _ _ _ _ here c.in_err-marks.ensures loop.invariant.0))

pub returns : goal.returns
returns c =
    let loop = c.loop-node in
    let end = YieldsList-end (YieldsList-from_zip (YieldsList-from_rev_slice c.args.buckets.now (cc)) (YieldsList-from_rev_slice c.args.halves.now (cc))) loop.yielded _ loop.yielded_by _ c.next.new.self c.in-None.is c.next.ensures.steps in
    passing_end _ _ _ _ _ _ end.1 loop.invariant.0
