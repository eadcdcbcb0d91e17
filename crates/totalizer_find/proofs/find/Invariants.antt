-- `find` walks from the first record on: what stands before i is not the output, so the number among the rest is the number among all.
use mathlib.Core.Path.{◌≡◌}
use mathlib.Core.List.{List}
use lib.ListN.{drop}
use Rattle.rules.specs.Records.{Record}
use Rattle.rules.specs.Totalizer.{number_of}
use Rattle.records.specs.Carries.{Reads}
use Rattle.totalizer_find.proofs.find.Given as goal

abbrev pub invariant-loop-i : goal.invariant-loop-i
invariant-loop-i l = (rs : List Record) → Reads l.store rs → number_of (drop l.i rs) l.node l.v ≡ number_of rs l.node l.v
