-- `define_from` goes through the values: those that are left, defined from here, are all of them.
use mathlib.Core.Path.{◌≡◌}
use Prim.Native.Nat.{◌+◌, ◌-◌, ◌≤◌}
use lib.ListN.{length}
use Rattle.rules.specs.Lists.{in_turn, rising}
use Rattle.rules.specs.Totalizer.{define_output}
use Rattle.records.specs.Carries.{st, at}
use Rattle.records.proofs.Step.{Rest}
use Rattle.totalizer_define.proofs.define_from.Given as goal

abbrev pub invariant-loop-v : goal.invariant-loop-v
invariant-loop-v l =
    (l.first + l.many ≤ 4294967296 → Rest (st l.initial.s l.initial.c (at l.initial.marks)) (st l.s l.c (at l.marks)) (λ t. in_turn (λ t v. define_output t l.node v) t (rising l.many l.first))
    (λ t. in_turn (λ t v. define_output t l.node v) t (rising (l.first + l.many - l.v) l.v))) × (length l.s ≡ length l.initial.s) × (length l.c ≡ length l.initial.c)
