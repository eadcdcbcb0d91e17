-- `left_to_do` refuses in order, finds nothing to do, or finds the case.
use mathlib.Core.Path.{sym, ◌∙◌}
use Rattle.std.proofs.lemmas.Result.{err_from_is_err_and}
use Rattle.rules.specs.Build.{build_of}
use Rattle.encode_case.proofs.Tests.{asked_range}
use Rattle.watchdog_encode.proofs.Plain.{call, ends_12, ends_6, unasked, asks, due_is, ends_10, begins, idled, works}
use Rattle.watchdog_encode.proofs.left_to_do.Goals as goal

pub returns-then-not-well_formed : goal.returns-then-not-well_formed
returns-then-not-well_formed c =
    let args = c.args in
    let k = call args.s args.store.now args.clauses.now args.work.now args.range in
    ends_12 k (sym c.well_formed-2.ensures ∙ c.if-not-well_formed.true)

pub returns-then-work-lt-WORK_WORDS : goal.returns-then-work-lt-WORK_WORDS
returns-then-work-lt-WORK_WORDS c =
    let args = c.args in
    let k = call args.s args.store.now args.clauses.now args.work.now args.range in
    ends_6 k (sym c.well_formed-2.ensures ∙ c.if-not-well_formed.false) c.if-work-lt-WORK_WORDS.true

pub returns-then-nothing_asked : goal.returns-then-nothing_asked
returns-then-nothing_asked c =
    let args = c.args in
    let k = call args.s args.store.now args.clauses.now args.work.now args.range in
    unasked k (sym c.well_formed-2.ensures ∙ c.if-not-well_formed.false) c.if-work-lt-WORK_WORDS.false (sym (c.nothing_asked.ensures _) ∙ c.if-nothing_asked.true)

pub returns-in_err-case : goal.returns-in_err-case
returns-in_err-case c =
    let args = c.args in
    let k = call args.s args.store.now args.clauses.now args.work.now args.range in
    let e = err_from_is_err_and c.from_residual.result c.from_residual.ensures.1 in
    rw (e.1, e.2)
    (ends_10 k _ (asks k _ (sym c.well_formed-2.ensures ∙ c.if-not-well_formed.false) c.if-work-lt-WORK_WORDS.false (sym (c.nothing_asked.ensures _) ∙ c.if-nothing_asked.false) c.in_err-case.ensures))

pub nothing_to_do-requires : goal.nothing_to_do-requires
nothing_to_do-requires c =
    let args = c.args in
    let k = call args.s args.store.now args.clauses.now args.work.now args.range in
    let p = asks k _ (sym c.well_formed-2.ensures ∙ c.if-not-well_formed.false) c.if-work-lt-WORK_WORDS.false (sym (c.nothing_asked.ensures _) ∙ c.if-nothing_asked.false) c.in_ok-case.ensures in
    ((begins k _ p).well.laid.tares_few, asked_range (build_of args.s args.store.now) _ _ p.asked)

pub returns-then-nothing_to_do : goal.returns-then-nothing_to_do
returns-then-nothing_to_do c =
    let args = c.args in
    let k = call args.s args.store.now args.clauses.now args.work.now args.range in
    let p = asks k _ (sym c.well_formed-2.ensures ∙ c.if-not-well_formed.false) c.if-work-lt-WORK_WORDS.false (sym (c.nothing_asked.ensures _) ∙ c.if-nothing_asked.false) c.in_ok-case.ensures in
    idled k _ p (sym (c.nothing_to_do.ensures _ (begins k _ p) (due_is k _ p)) ∙ c.if-nothing_to_do.true)

pub returns-else-nothing_to_do : goal.returns-else-nothing_to_do
returns-else-nothing_to_do c =
    let args = c.args in
    let k = call args.s args.store.now args.clauses.now args.work.now args.range in
    let p = asks k _ (sym c.well_formed-2.ensures ∙ c.if-not-well_formed.false) c.if-work-lt-WORK_WORDS.false (sym (c.nothing_asked.ensures _) ∙ c.if-nothing_asked.false) c.in_ok-case.ensures in
    (works k _ p (sym (c.nothing_to_do.ensures _ (begins k _ p) (due_is k _ p)) ∙ c.if-nothing_to_do.false), p.case_is)
