-- `enforce_ub` gives the written front of the scratch.
use mathlib.Core.Path.{refl}
use Rattle.watchdog_enforce.proofs.Ends.{front_is, front_length}
use Rattle.watchdog_enforce.proofs.enforce_ub.Goals as goal

pub slice_bounds-result-end : goal.slice_bounds-result-end
slice_bounds-result-end c =
    let enforce-count = c.enforce_count-n in
    front_length _ _ _ _ _ _ _ enforce-count.ensures.2 enforce-count.ensures.0

pub returns : goal.returns
returns c =
    let enforce-count = c.enforce_count-n in
    (front_is _ _ _ _ _ _ _ enforce-count.ensures.2 enforce-count.ensures.0, refl, enforce-count.ensures.1)
