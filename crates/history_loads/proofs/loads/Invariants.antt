-- `loads` admits at most as many assignments as it has tried.
use Rattle.std.proofs.Common.{◌≤◌}
use Rattle.history_loads.proofs.loads.Given as goal

abbrev pub invariant-loop-n : goal.invariant-loop-n
invariant-loop-n g l = l.count ≤ l.n
