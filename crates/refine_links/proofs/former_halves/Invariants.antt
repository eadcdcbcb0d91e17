-- `former_halves` has read the halves of the first i buckets.
use mathlib.Core.Path.{◌≡◌}
use mathlib.Core.List.{List, map}
use Prim.Native.Nat.{◌-◌}
use lib.ListN.{length, take, drop, replicate}
use Rattle.rules.specs.Records.{Record}
use Rattle.rules.specs.Refinement.{former_half}
use Rattle.records.specs.Carries.{Reads}
use Rattle.refine_links.proofs.former_halves.Given as goal

abbrev pub invariant-loop-i : goal.invariant-loop-i
invariant-loop-i l = ((rs : List Record) → Reads l.store rs → take l.i l.halves ≡ map (former_half rs) (take l.i l.buckets)) × (length l.halves ≡ 20) × (drop l.i l.halves ≡ replicate (20 - l.i) 0)
