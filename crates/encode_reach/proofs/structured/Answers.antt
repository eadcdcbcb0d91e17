-- `structured` builds or refines over the queue.
use mathlib.Core.Path.{◌∙◌}
use native.Mathlib.Omega.{arith}
use Rattle.encode_reach.proofs.Stands.{few_wait}
use Rattle.encode_reach.proofs.Ways.{ready, refinable, first_structured, refined_structured, marks_at_fresh, entered_by, refines_by, bounded}
use Rattle.encode_reach.proofs.structured.Goals as goal

pub queued-h-requires : goal.queued-h-requires
queued-h-requires c =
    let args = c.args in
    let pre = c.requires in
    ((few_wait args.s args.store.now args.clauses.now pre.0 _ pre.1).0, omega (arith, few_wait args.s args.store.now args.clauses.now pre.0 _ pre.1), pre.3)

pub build_structure-requires : goal.build_structure-requires
build_structure-requires c =
    let queued = c.queued-h in
    let args = c.args in
    let pre = c.requires in
    (ready args.s args.store.now args.clauses.now pre.0 _ pre.1 pre.2 _ _ (omega (arith, queued.ensures.2, pre.3)) queued.ensures.3 queued.ensures.0 queued.ensures.1, marks_at_fresh _ _ _ c.marks_at-m.ensures)

pub returns-then-s-eq0 : goal.returns-then-s-eq0
returns-then-s-eq0 c =
    let build_structure = c.build_structure in
    let args = c.args in
    let pre = c.requires in
    (first_structured args.s args.store.now _ _ _ _ c.if-s-eq0.true (build_structure.ensures.0 _ _ (entered_by args.s args.store.now args.clauses.now pre.0 _ pre.1 _ c.marks_at-m.ensures)), build_structure.ensures.1 ∙ c.queued-h.ensures.2, build_structure.ensures.2)

pub merge_structures-requires : goal.merge_structures-requires
merge_structures-requires c =
    let queued = c.queued-h in
    let args = c.args in
    let pre = c.requires in
    refinable args.s args.store.now args.clauses.now pre.0 _ pre.1 pre.2 _ _ (omega (arith, queued.ensures.2, pre.3)) queued.ensures.3 queued.ensures.0 queued.ensures.1 _ c.marks_at-m.ensures c.if-s-eq0.false

pub returns-else-s-eq0 : goal.returns-else-s-eq0
returns-else-s-eq0 c =
    let merge_structures = c.merge_structures in
    let args = c.args in
    (refined_structured args.s args.store.now _ _ _ _ c.if-s-eq0.false c.requires.2 (refines_by _ _ _ _ _ _ _ _ c.marks_at-m.ensures merge_structures.ensures.0), merge_structures.ensures.1 ∙ c.queued-h.ensures.2, bounded _ merge_structures.ensures.2)
