-- `numbered` makes the pass, then the tests of outputs and tares.
use mathlib.Core.Path.{refl}
use native.Mathlib.Omega.{arith}
use Rattle.check_records.specs.declared.Limits.{Limits}
use Rattle.check_well_formed.proofs.Ways.{numbered_way}
use Rattle.check_well_formed.proofs.numbered.Goals as goal

pub returns-then-distinct : goal.returns-then-distinct
returns-then-distinct c =
    let args = c.args in
    let lim : Limits = record { low = c.lowest.result; fresh = args.s.fresh; top = c.top.result; tares = args.tares; buckets = args.buckets } in
    λ rs h et eb. let way = numbered_way args.s rs lim (record { low_is = c.lowest.ensures rs h; fresh_is = refl; top_is = c.top.ensures }) args.tares.now args.buckets.now et eb in grind arith

pub returns-else-distinct : goal.returns-else-distinct
returns-else-distinct c =
    let args = c.args in
    let lim : Limits = record { low = c.lowest.result; fresh = args.s.fresh; top = c.top.result; tares = args.tares; buckets = args.buckets } in
    λ rs h et eb. let way = numbered_way args.s rs lim (record { low_is = c.lowest.ensures rs h; fresh_is = refl; top_is = c.top.ensures }) args.tares.now args.buckets.now et eb in grind arith
