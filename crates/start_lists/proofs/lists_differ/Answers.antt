-- `lists_differ` compares the lengths.
use Rattle.std.proofs.Common.{rules}
use Rattle.rules.specs.Refusals.{lists_differ}
use Rattle.start_lists.proofs.lists_differ.Goals as goal

pub returns-then-lits-weights : goal.returns-then-lits-weights
unfolding lists_differ
returns-then-lits-weights c = search rules

pub returns-else-lits-weights : goal.returns-else-lits-weights
unfolding lists_differ
returns-else-lits-weights c = search rules
