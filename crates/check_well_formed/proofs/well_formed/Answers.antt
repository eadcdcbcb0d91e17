-- `well_formed` tests the marks, the state, the kinds, and then the records that the words store.
use mathlib.Core.Path.{sym, ◌∙◌}
use mathlib.Core.Bool.{false≢true}
use Rattle.rules.specs.WellFormed.{marks_within}
use Rattle.laws.specs.Records.Words.{both}
use Rattle.check_arrays.proofs.Walk.{then_and, else_and}
use Rattle.check_well_formed.proofs.Ways.{stores_held, marks_room, marks_few, slots_few, well_formed_is}
use Rattle.check_well_formed.proofs.well_formed.Goals as goal
use Rattle.check_well_formed.proofs.well_formed.Goals.{then-marks_within, else-marks_within, then-state_right, else-state_right}

pub over_records-requires : goal.over_records-requires
unfolding marks_within
over_records-requires c =
    let args = c.args in
    elim c.if-state_right.branch [
      | then-state_right w ↦ elim c.if-marks_within.branch [
        | then-marks_within v ↦
            let few = slots_few args.s (sym v.state_right.ensures ∙ (sym v.value-is ∙ w.if-state_right.true)) in
            (marks_few args.store.now args.s.records (both _ _ (sym c.marks_within.ensures ∙ v.if-marks_within.true)).0, few.0, few.1)
        | else-marks_within v ↦ absurd (false≢true (sym v.if-marks_within.false ∙ (sym v.value-is ∙ w.if-state_right.true)))
      ]
      | else-state_right w ↦ absurd (false≢true (sym w.if-state_right.false ∙ (sym w.value-is ∙ c.if-kinds_known.true)))
    ]

pub returns-then-kinds_known : goal.returns-then-kinds_known
unfolding marks_within
returns-then-kinds_known c =
    let args = c.args in
    elim c.if-state_right.branch [
      | then-state_right w ↦ elim c.if-marks_within.branch [
        | then-marks_within v ↦
            let room = marks_room args.store.now args.s.records (both _ _ (sym c.marks_within.ensures ∙ v.if-marks_within.true)).0 in
            let kinds = sym w.value-is ∙ c.if-kinds_known.true in
            then_and _ _ c.marks_within.ensures v.if-marks_within.true
            (then_and _ _ v.state_right.ensures (sym v.value-is ∙ w.if-state_right.true)
            (then_and _ _ (w.kinds_known.ensures room) kinds (c.over_records.ensures _ (stores_held _ _ (sym (w.kinds_known.ensures room) ∙ kinds))))) ∙
            well_formed_is args.s args.store.now args.clauses.now
        | else-marks_within v ↦ absurd (false≢true (sym v.if-marks_within.false ∙ (sym v.value-is ∙ w.if-state_right.true)))
      ]
      | else-state_right w ↦ absurd (false≢true (sym w.if-state_right.false ∙ (sym w.value-is ∙ c.if-kinds_known.true)))
    ]

pub returns-else-kinds_known : goal.returns-else-kinds_known
unfolding marks_within
returns-else-kinds_known c =
    let args = c.args in
    elim c.if-state_right.branch [
      | then-state_right w ↦ elim c.if-marks_within.branch [
        | then-marks_within v ↦
            let room = marks_room args.store.now args.s.records (both _ _ (sym c.marks_within.ensures ∙ v.if-marks_within.true)).0 in
            w.value-is ∙ (then_and _ _ c.marks_within.ensures v.if-marks_within.true
            (then_and _ _ v.state_right.ensures (sym v.value-is ∙ w.if-state_right.true)
            (else_and _ _ (w.kinds_known.ensures room) (sym w.value-is ∙ c.if-kinds_known.false))) ∙
            well_formed_is args.s args.store.now args.clauses.now)
        | else-marks_within v ↦ absurd (false≢true (sym v.if-marks_within.false ∙ (sym v.value-is ∙ w.if-state_right.true)))
      ]
      | else-state_right w ↦ elim c.if-marks_within.branch [
        | then-marks_within v ↦
            w.value-is ∙ (v.value-is ∙ (then_and _ _ c.marks_within.ensures v.if-marks_within.true
            (else_and _ _ v.state_right.ensures (sym v.value-is ∙ w.if-state_right.false)) ∙
            well_formed_is args.s args.store.now args.clauses.now))
        | else-marks_within v ↦
            w.value-is ∙ (v.value-is ∙ (else_and _ _ c.marks_within.ensures v.if-marks_within.false ∙
            well_formed_is args.s args.store.now args.clauses.now))
      ]
    ]
