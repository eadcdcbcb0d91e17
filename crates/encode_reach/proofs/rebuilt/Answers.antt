-- `rebuilt` builds or refines in the work words from 3072 on, and completes.
use mathlib.Core.Path.{refl}
use Prim.Native.Nat.{◌-◌}
use native.Mathlib.Omega.{arith}
use lib.ListN.{length, drop, length-drop}
use lib.Seq.{length-take-le}
use borrow.Rule.Slice.PartMut.{take_put, same_len_mid}
use Rattle.rules.specs.Build.{build_of}
use Rattle.records.specs.Carries.{st, at}
use Rattle.build_begin.specs.Named.{marks_at}
use Rattle.encode_case.proofs.Tests.{asked_range}
use Rattle.encode_reach.proofs.Renewed.{tail_put, rebuilt_reached, ended_reached}
use Rattle.encode_reach.proofs.rebuilt.Goals as goal

pub structured-requires : goal.structured-requires
structured-requires c =
    let args = c.args in
    let pre = c.requires in
    (pre.0.well, pre.1, pre.2, omega (arith, pre.3, length-take-le (length args.work.now - 3072) (drop 3072 args.work.now) (omega (arith, length-drop 3072 args.work.now)), length-drop 3072 args.work.now))

pub overflow_add-queue : goal.overflow_add-queue
overflow_add-queue c = omega (arith, c.in_ok-z.ensures.2.0)

pub overflow_add-queue-2 : goal.overflow_add-queue-2
overflow_add-queue-2 c = omega (arith, c.in_ok-z.ensures.2.0)

pub overflow_sub-queue : goal.overflow_sub-queue
overflow_sub-queue c = omega (arith, c.in_ok-z.ensures.2.0)

pub completed-requires : goal.completed-requires
completed-requires c =
    let bounds = c.in_ok-z.ensures.2 in
    let args = c.args in
    (bounds.1, asked_range (build_of args.s args.store.now) _ _ c.requires.0.asked, record { node_low = omega (arith, bounds.0); weight_low = omega (arith, bounds.0); apart_few = omega arith; many_few = omega arith })

pub returns-in_err-z : goal.returns-in_err-z
returns-in_err-z c =
    let us = c.structured.new.work in
    let work = c.args.work in
    let none = c.in_err-z.ensures in
    rw c.from_residual.ensures
    (ended_reached _ _ _ us _ refl none.0, same_len_mid 3072 (length work.now - 3072) work.now us none.1, take_put 3072 (length work.now - 3072) work.now us (omega (arith, c.requires.3)))

pub returns : goal.returns
returns c =
    let completed = c.completed in
    let us = c.structured.new.work in
    let args = c.args in
    let pre = c.requires in
    (rebuilt_reached (build_of args.s args.store.now) (st args.store.now args.clauses.now (at (marks_at args.s args.n))) _ _ _ _ _ c.in_ok-z.z _ args.range (tail_put args.work.now _ (omega (arith, pre.3))) completed.ensures.marks c.in_ok-z.ensures.0 completed.ensures.carries, same_len_mid 3072 (length args.work.now - 3072) args.work.now us c.in_ok-z.ensures.1, take_put 3072 (length args.work.now - 3072) args.work.now us (omega (arith, pre.3)))
