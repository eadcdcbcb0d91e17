-- `sum` adds few weights, each lawful.
use mathlib.Core.Path.{◌≡◌, ◌∙◌}
use Prim.Native.Nat.{◌<◌, ◌^◌}
use Rattle.std.specs.List.{sum}
use Rattle.std.proofs.Common.{rules}
use Rattle.std.proofs.iter.runs.Made.{chains}
use Rattle.watchdog_start.proofs.Written.{total_sum, sum_few}
use Rattle.watchdog_start.proofs.sum.Goals as goal

pub sum-requires-clause-fits : goal.sum-requires-clause-fits
sum-requires-clause-fits c =
    let few : sum c.args.weights.now < 2 ^ 64 = sum_few c.args.weights.now c.requires.0 c.requires.1 in
    search (rules, chains)

pub returns : goal.returns
returns c =
    let added : c.sum.result ≡ sum c.args.weights.now = search (rules, chains) in
    added ∙ total_sum c.args.weights.now
