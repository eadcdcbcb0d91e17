-- `reach` builds or refines where that is due, and else completes what stands.
use mathlib.Core.Path.{refl, sym, ◌∙◌}
use native.Mathlib.Omega.{arith}
use Rattle.rules.specs.Build.{build_of}
use Rattle.encode_case.proofs.Tests.{asked_range, reaches_least}
use Rattle.encode_reach.proofs.Stands.{few_wait, standing_tares, stands_reached}
use Rattle.encode_reach.proofs.reach.Goals as goal

pub rebuilt-requires : goal.rebuilt-requires
rebuilt-requires c =
    let args = c.args in
    let pre = c.requires in
    (pre.0, pre.1, reaches_least args.s args.store.now (sym pre.2 ∙ c.if-due.true), pre.3.long)

pub overflow_sub-saved : goal.overflow_sub-saved
overflow_sub-saved c =
    let args = c.args in
    let pre = c.requires in
    (few_wait args.s args.store.now args.clauses.now pre.0.well _ pre.1).0

pub completed-requires : goal.completed-requires
completed-requires c =
    let args = c.args in
    let pre = c.requires in
    (standing_tares _ _ _ c.standing.ensures pre.0.well.laid.tares_few, asked_range (build_of args.s args.store.now) _ _ pre.0.asked, record { node_low = omega arith; weight_low = omega arith; apart_few = omega arith; many_few = omega (arith, (few_wait args.s args.store.now args.clauses.now pre.0.well _ pre.1).1) })

pub returns-else-due : goal.returns-else-due
returns-else-due c =
    let completed = c.completed in
    let standing = c.standing in
    let args = c.args in
    let pre = c.requires in
    (stands_reached args.s args.store.now args.clauses.now pre.0.well _ args.work.now _ _ args.range standing.result _ pre.1 pre.0.reached (sym pre.2 ∙ c.if-due.false) pre.3 standing.ensures completed.ensures.marks completed.ensures.carries, refl, refl)
