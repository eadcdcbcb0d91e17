-- `spent` takes each cost off what is left.
use mathlib.Core.Path.{◌≡◌}
use mathlib.Core.List.{List}
use lib.ListN.{drop}
use Rattle.rules.specs.Records.{Record}
use Rattle.records.specs.Carries.{Reads}
use Rattle.check_outputs.specs.Steps.{total_cost, spent}
use Rattle.check_outputs.proofs.spent.Given as goal

abbrev pub invariant-loop-i : goal.invariant-loop-i
invariant-loop-i l = (rs : List Record) → Reads l.store rs → spent l.left (total_cost rs l.cost (drop l.i rs)) ≡ spent l.budget (total_cost rs l.cost rs)
