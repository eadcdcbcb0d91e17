-- `over_records` lends the used slots.
use native.Mathlib.Omega.{arith}
use Rattle.rules.specs.Build.{tares_of, buckets_of}
use Rattle.std.proofs.lemmas.Grind.{common_steps}
use Rattle.check_well_formed.proofs.over_records.Goals as goal

pub returns : goal.returns
unfolding tares_of buckets_of
returns c = λ rs h. c.records_hold.ensures rs h (grind (arith, common_steps)) (grind (arith, common_steps))
