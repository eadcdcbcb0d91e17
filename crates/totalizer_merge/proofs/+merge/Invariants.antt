-- Both halves are merged before their join, each shorter than the whole.
use Rattle.std.proofs.Common.{length}
use Rattle.totalizer_merge.proofs.+merge.Given as goal

abbrev pub decreases-merge : goal.decreases-merge
decreases-merge l = length l.members.now
