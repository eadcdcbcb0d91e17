-- `write` goes through the pairs: the clauses that are left, written from here, are all of them.
use mathlib.Core.Path.{◌≡◌}
use Prim.Native.Nat.{ℕ, ◌+◌, ◌-◌, ◌<◌, ◌≤◌}
use lib.ListN.{length}
use lib.IntN.{pos}
use Rattle.rules.specs.Records.{literal_word}
use Rattle.rules.specs.Totalizer.{asks, pairs_from, write}
use Rattle.records.specs.Carries.{st, at}
use Rattle.records.proofs.Step.{Rest}
use Rattle.totalizer_clauses.proofs.write.Given as goal

abbrev pub invariant-loop-a : goal.invariant-loop-a
invariant-loop-a l =
    ((w : ℕ) → l.o ≡ literal_word (pos w) → l.fn.pairs.lo + l.fn.pairs.many ≤ l.v + 1 → asks l.sides.half (l.v - l.fn.pairs.lo) < 4294967296 →
    Rest (st l.s l.initial.c (at l.initial.marks)) (st l.s l.c (at l.marks)) (write l.sides.half l.sides.left l.sides.right w (pairs_from l.fn.pairs.many l.fn.pairs.lo l.v))
    (write l.sides.half l.sides.left l.sides.right w (pairs_from (l.fn.pairs.lo + l.fn.pairs.many - l.a) l.a l.v))) ×
    (length l.c ≡ length l.initial.c)
