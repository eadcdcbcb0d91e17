-- `relink` goes through the buckets from the last one: those that are left, linked from here, are all of them.
use mathlib.Core.Path.{◌≡◌}
use lib.ListN.{length}
use Rattle.refine_links.proofs.Linking.{Going}
use Rattle.refine_links.proofs.relink.Given as goal

abbrev pub invariant-loop-b : goal.invariant-loop-b
invariant-loop-b l = Going l.initial.store l.store l.records l.buckets l.below (length l.yielded) l.next × (length l.store ≡ length l.initial.store)
