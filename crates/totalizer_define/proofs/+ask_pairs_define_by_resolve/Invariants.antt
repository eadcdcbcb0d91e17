-- An output asks its connections and a connection asks its node; each call asks for less height. `ask_pairs` goes through the pairs: what is left, asked for from here, is all.
use mathlib.Core.Path.{◌≡◌}
use Prim.Native.Nat.{◌<◌, ◌+◌, ◌-◌, ◌*◌}
use lib.ListN.{length}
use Rattle.rules.specs.Lists.{in_turn}
use Rattle.rules.specs.Totalizer.{asks, ask_pair, define, pairs_from}
use Rattle.records.specs.Carries.{st, at}
use Rattle.records.proofs.Step.{Rest}
use Rattle.totalizer_define.proofs.+ask_pairs_define_by_resolve.Given as goal

abbrev pub decreases-ask_pairs : goal.decreases-ask_pairs
decreases-ask_pairs l = 3 * l.height + 2

abbrev pub decreases-define_by : goal.decreases-define_by
decreases-define_by l = 3 * l.height

abbrev pub decreases-resolve : goal.decreases-resolve
decreases-resolve l = 3 * l.height + 1

abbrev pub invariant-ask_pairs-loop-a : goal.invariant-ask_pairs-loop-a
invariant-ask_pairs-loop-a l =
    (asks l.sides.half (l.v - l.fn.pairs.lo) < 4294967296 →
    Rest (st l.initial.s l.initial.c (at l.initial.marks)) (st l.s l.c (at l.marks)) (λ t. in_turn (ask_pair (define l.height) l.sides.half l.sides.left l.sides.right) t (pairs_from l.fn.pairs.many l.fn.pairs.lo l.v))
    (λ t. in_turn (ask_pair (define l.height) l.sides.half l.sides.left l.sides.right) t (pairs_from (l.fn.pairs.lo + l.fn.pairs.many - l.a) l.a l.v))) ×
    (length l.s ≡ length l.initial.s) × (length l.c ≡ length l.initial.c)
