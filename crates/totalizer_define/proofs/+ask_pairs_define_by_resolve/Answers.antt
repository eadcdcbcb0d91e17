use mathlib.Core.Path.{◌∙◌, sym}
use native.Mathlib.Omega.{arith}
use Rattle.records.proofs.Step.{rest_end, stop}
use Rattle.totalizer_clauses.proofs.Growth.{finish_grows}
use Rattle.totalizer_define.proofs.Growth.{ask_grows, define_grows}
use mathlib.Core.Path.{refl}
use Rattle.totalizer_clauses.proofs.PairWalk.{asks_later, asks_whole}
use Rattle.totalizer_define.proofs.Pairs.{pairs_end}
use Rattle.totalizer_define.proofs.Defining.{ask_none, ask_some, asks_start, asks_turn, asks_full, def_zero, def_other, def_found, def_done}
use Rattle.totalizer_define.proofs.+ask_pairs_define_by_resolve.Goals as goal
use Rattle.totalizer_define.proofs.+ask_pairs_define_by_resolve.Goals.{define_by-then-not-is_join-via-then-not-is_join, define_by-then-not-is_join-via-else-not-is_join+then-is_some}

pub ask_pairs-loop-a-init : goal.ask_pairs-loop-a-init
ask_pairs-loop-a-init t c = (λ i. asks_start _ _ _ _ _ _ _ _ _ (omega arith), refl, refl)

pub ask_pairs-loop-a-preserved : goal.ask_pairs-loop-a-preserved
ask_pairs-loop-a-preserved t c =
    let first = c.resolve in
    let second = c.resolve-in-loop-a in
    let loop = c.loop-a in (
      λ i. asks_turn _ _ _ _ _ _ _ _ _ _ _ _ (omega arith) (c.in_ok-left.ensures (asks_whole _ (omega arith))) (c.in_ok-marks.ensures (asks_later _ _ _ _ (omega arith) i)) (loop.invariant.0 i),
      second.auto.s ∙ (first.auto.s ∙ loop.invariant.1),
      second.auto.c ∙ (first.auto.c ∙ loop.invariant.2),
    )

pub ask_pairs-returns-in_err-left : goal.ask_pairs-returns-in_err-left
ask_pairs-returns-in_err-left t c =
    λ i. rw c.from_residual.ensures (asks_full _ _ _ _ _ _ _ _ _ _ refl
    (asks_turn _ _ _ _ _ _ _ _ _ _ _ _ (omega arith) (c.in_err-left.ensures (asks_whole _ (omega arith))) (stop _ _ (λ u. ask_grows _ (define_grows _) u _ _) refl) (c.loop-a.invariant.0 i)))

pub ask_pairs-returns-in_err-marks : goal.ask_pairs-returns-in_err-marks
ask_pairs-returns-in_err-marks t c =
    λ i. rw c.from_residual-in_err-marks.ensures (asks_full _ _ _ _ _ _ _ _ _ _ refl
    (asks_turn _ _ _ _ _ _ _ _ _ _ _ _ (omega arith) (c.in_ok-left.ensures (asks_whole _ (omega arith))) (c.in_err-marks.ensures (asks_later _ _ _ _ (omega arith) i)) (c.loop-a.invariant.0 i)))

pub ask_pairs-returns : goal.ask_pairs-returns
ask_pairs-returns t c = λ i. rest_end _ _ _ _ (pairs_end _ _ _ _ _ _ _ (omega arith)) (c.loop-a.invariant.0 i)

pub define_by-returns-then-height-eq0 : goal.define_by-returns-then-height-eq0
define_by-returns-then-height-eq0 t c = def_zero _ _ _ _ c.if-height-eq0.true

pub define_by-returns-then-not-is_join : goal.define_by-returns-then-not-is_join
define_by-returns-then-not-is_join t c =
    elim c.then-not-is_join.branch [
      | define_by-then-not-is_join-via-then-not-is_join w ↦
          def_other _ _ _ _ _ _ c.if-height-eq0.false refl _ c.is_join.ensures w.if-not-is_join.true
      | define_by-then-not-is_join-via-else-not-is_join+then-is_some w ↦
          def_found _ _ _ _ _ _ c.if-height-eq0.false refl _ c.is_join.ensures _ w.find.ensures (sym w.is_some.ensures ∙ w.if-is_some.true)
    ]

pub define_by-returns-in_err-records : goal.define_by-returns-in_err-records
define_by-returns-in_err-records t c =
    rw c.from_residual.ensures (def_done _ _ _ _ _ _ c.if-height-eq0.false refl _ c.is_join.ensures _ c.find.ensures c.if-not-is_join.false (sym c.is_some.ensures ∙ c.if-is_some.false) _ _ _ _ _ c.halved.ensures c.left.ensures c.right.ensures c.spread-pairs.ensures _ _ c.in_err-records.ensures
    (λ i j. stop _ _ (finish_grows _ _ _ _ _ _) refl))

pub define_by-returns : goal.define_by-returns
define_by-returns t c =
    def_done _ _ _ _ _ _ c.if-height-eq0.false refl _ c.is_join.ensures _ c.find.ensures c.if-not-is_join.false (sym c.is_some.ensures ∙ c.if-is_some.false) _ _ _ _ _ c.halved.ensures c.left.ensures c.right.ensures c.spread-pairs.ensures _ _ c.in_ok-records.ensures c.finish.ensures

pub resolve-returns-then-y-eq0 : goal.resolve-returns-then-y-eq0
resolve-returns-then-y-eq0 t c = λ i. ask_none _ _ _ _ _ (c.through-y.ensures i) c.if-y-eq0.true

pub resolve-returns-else-y-eq0 : goal.resolve-returns-else-y-eq0
resolve-returns-else-y-eq0 t c = λ i. ask_some _ _ _ _ _ _ (c.through-y.ensures i) c.if-y-eq0.false c.define_by.ensures
