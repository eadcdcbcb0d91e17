-- `queued` clears the counts and queues in turn.
use mathlib.Core.Path.{◌∙◌}
use native.Mathlib.Omega.{arith}
use Rattle.build_queue.proofs.Members.{counts_beyond}
use Rattle.build_tower.proofs.queued.Goals as goal

pub returns : goal.returns
returns c =
    let enqueue = c.enqueue in
    let clear-counts = c.clear_counts in
    (enqueue.ensures.0, λ k h. counts_beyond _ _ k enqueue.ensures.3 ∙ clear-counts.ensures.0 k h, enqueue.ensures.2 ∙ clear-counts.ensures.1, omega (arith, enqueue.ensures.1))
