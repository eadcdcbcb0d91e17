-- `numbers` stops before a number above 1,000,000,000 would be taken.
use Rattle.std.proofs.Common.{refl, arith}
use Rattle.records_append.proofs.Appending.{fresh_end, fresh_done}
use Rattle.records_append.proofs.numbers.Goals as goal

pub returns-in_err-fresh-clause-by_index : goal.returns-in_err-fresh-clause-by_index
returns-in_err-fresh-clause-by_index c = λ s b. rw c.from_residual.ensures (fresh_end s b _ _ refl (omega (arith, c.in_err-fresh.ensures)))

pub returns-then-fresh-gt-MOST_FRESH-clause-by_index : goal.returns-then-fresh-gt-MOST_FRESH-clause-by_index
returns-then-fresh-gt-MOST_FRESH-clause-by_index c = λ s b. fresh_end s b _ _ refl (omega (arith, c.in_ok-fresh.ensures))

pub returns-clause-by_index : goal.returns-clause-by_index
returns-clause-by_index c = λ s b. rw c.in_ok-fresh.ensures.1 (fresh_done s b _ _ refl (omega (arith, c.in_ok-fresh.ensures)))
