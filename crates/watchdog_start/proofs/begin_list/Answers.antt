-- `begin_list` lends the used slots of the list.
use mathlib.Core.Path.{sym, ◌∙◌, subst}
use Prim.Native.Nat.{ℕ, ◌≤◌}
use lib.Seq.{length-take-le}
use Rattle.watchdog_start.proofs.Begun.{begun_list}
use Rattle.watchdog_start.proofs.begin_list.Goals as goal

pub slice_bounds-begin-end : goal.slice_bounds-begin-end
slice_bounds-begin-end c = sym (length-take-le _ c.args.list.literals c.requires.in_literals)

pub slice_bounds-begin-end-2 : goal.slice_bounds-begin-end-2
slice_bounds-begin-end-2 c = sym (length-take-le _ c.args.list.weights c.requires.in_weights)

pub begin-requires : goal.begin-requires
begin-requires c =
    let args = c.args in
    let pre = c.requires in
    let in_literals = length-take-le _ args.list.literals pre.in_literals in
    let in_weights = length-take-le _ args.list.weights pre.in_weights in
    (pre.weights_lawful, subst (λ (n : ℕ). n ≤ 256) (sym in_weights) pre.few, in_literals ∙ sym in_weights)

pub returns : goal.returns
returns c =
    let begin = c.begin in
    record { begun = λ lits weights e l. begun_list _ _ _ _ _ _ _ e l begin.ensures.begun; clauses = begin.ensures.clauses }
