-- `counted` halves behind a halving.
use Rattle.std.proofs.Common.{Bool, sym, ap}
use Rattle.rules.specs.Totalizer.{counts}
use Rattle.records_append.proofs.counted.Goals as goal

pub returns-then-half : goal.returns-then-half
unfolding counts
returns-then-half c = sym (ap (λ (h : Bool). counts h c.args.x) c.if-half.true)

pub returns-else-half : goal.returns-else-half
unfolding counts
returns-else-half c = sym (ap (λ (h : Bool). counts h c.args.x) c.if-half.false)
