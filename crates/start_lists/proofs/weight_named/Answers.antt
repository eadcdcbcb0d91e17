use native.Mathlib.Omega.{arith}
use Rattle.start_lists.specs.Literals.{words}
use Rattle.start_lists.proofs.Walk.{inside}
use Rattle.start_lists.proofs.Listing.{named_here, named_end, named_few, line_there, line_other}
use Rattle.start_lists.proofs.weight_named.Goals as goal
use Rattle.start_lists.proofs.weight_named.Goals.{then-word_at-w, else-word_at-w}

pub overflow_add-t : goal.overflow_add-t
overflow_add-t c =
    let loop = c.loop-i in
    let args = c.args in
    let pre = c.requires in
    let in-lits = inside args.lits.now loop.i (omega (arith, pre.lengths, c.loop-i-test.true)) in
    omega (arith, loop.invariant, line_there args.lits.now args.weights.now loop.i args.w _ c.word_at.ensures c.if-word_at-w.true, named_here (words args.lits.now) args.weights.now loop.i args.w in-lits c.loop-i-test.true, named_few args.lits.now args.weights.now args.w pre)

pub loop-i-preserved : goal.loop-i-preserved
loop-i-preserved c =
    let loop = c.loop-i in
    let args = c.args in
    let in-lits = inside args.lits.now loop.i (omega (arith, c.requires.lengths, c.loop-i-test.true)) in
    let here = named_here (words args.lits.now) args.weights.now loop.i args.w in-lits c.loop-i-test.true in
    elim c.if-word_at-w.branch [
      | then-word_at-w w ↦ omega (arith, w.t-is, loop.invariant, here, line_there args.lits.now args.weights.now loop.i args.w _ c.word_at.ensures w.if-word_at-w.true)
      | else-word_at-w w ↦ omega (arith, w.t-is, loop.invariant, here, line_other args.lits.now args.weights.now loop.i args.w _ c.word_at.ensures w.if-word_at-w.false)
    ]

pub returns : goal.returns
returns c =
    let loop = c.loop-i in
    let args = c.args in
    omega (arith, loop.invariant, named_end (words args.lits.now) args.weights.now loop.i args.w c.loop-i-test.false)
