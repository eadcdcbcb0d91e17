-- `leaves` has written a leaf for each word before the index.
use mathlib.Core.Path.{◌≡◌}
use mathlib.Core.List.{List, map}
use lib.ListN.{length, take}
use lib.IntN.{ℤ}
use Rattle.rules.specs.Records.{literal_word}
use Rattle.records.specs.Carries.{st, at, Steps}
use Rattle.watchdog_start.specs.Writing.{with_more, leaf_records}
use Rattle.watchdog_start.proofs.leaves.Given as goal

abbrev pub invariant-loop-literal : goal.invariant-loop-literal
invariant-loop-literal l = ((lits : List ℤ) → l.literals ≡ map literal_word lits → (c : List ℤ) → Steps (st l.initial.s c (at l.initial.m)) (st l.s c (at l.m)) (with_more (take l.literal-index (leaf_records lits)))) × (length l.s ≡ length l.initial.s)
