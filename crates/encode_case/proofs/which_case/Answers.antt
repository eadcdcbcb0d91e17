-- `which_case` compares the set divisor with the largest weight.
use Rattle.encode_case.proofs.Ways.{largest_by}
use Rattle.encode_case.proofs.Tests.{case_due, case_above, case_left}
use Rattle.encode_case.proofs.which_case.Goals as goal

pub returns-then-s-largest : goal.returns-then-s-largest
returns-then-s-largest c =
    let args = c.args in
    λ b w. case_due args.s args.store.now _ (largest_by args.s args.store.now b w _ c.largest.ensures) c.if-s-largest.true

pub returns-then-s-eq0 : goal.returns-then-s-eq0
returns-then-s-eq0 c =
    let args = c.args in
    λ b w. case_above args.s args.store.now _ (largest_by args.s args.store.now b w _ c.largest.ensures) c.if-s-largest.false c.if-s-eq0.true

pub returns-else-s-eq0 : goal.returns-else-s-eq0
returns-else-s-eq0 c =
    let args = c.args in
    λ b w. case_left args.s args.store.now _ (largest_by args.s args.store.now b w _ c.largest.ensures) c.if-s-largest.false c.if-s-eq0.false
