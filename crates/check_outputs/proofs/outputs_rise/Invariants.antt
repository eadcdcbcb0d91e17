-- `outputs_rise` keeps the least number that the next output may have.
use mathlib.Core.Path.{◌≡◌}
use mathlib.Core.List.{List}
use lib.ListN.{drop}
use Rattle.rules.specs.Records.{Record, outputs}
use Rattle.rules.specs.WellFormed.{rise_from, outputs_rise}
use Rattle.records.specs.Carries.{Reads}
use Rattle.check_outputs.proofs.outputs_rise.Given as goal

abbrev pub invariant-loop-i : goal.invariant-loop-i
invariant-loop-i l = (rs : List Record) → Reads l.store rs → rise_from l.low (outputs (drop l.i rs)) ≡ outputs_rise rs
