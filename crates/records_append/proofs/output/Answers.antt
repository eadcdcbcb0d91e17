-- `output` appends the words of an output with the next number, and then takes that number.
use Rattle.std.proofs.Common.{refl}
use Rattle.records.specs.Carries.{ended}
use Rattle.records_append.proofs.Appending.{fresh_stop, output_end, output_done}
use Rattle.records_append.proofs.output.Goals as goal

pub returns-then-m-gt-MOST_VARIABLE : goal.returns-then-m-gt-MOST_VARIABLE
returns-then-m-gt-MOST_VARIABLE c = λ b. output_end _ b _ _ _ refl c.if-m-gt-MOST_VARIABLE.true

pub returns-in_err-made : goal.returns-in_err-made
returns-in_err-made c =
    λ b. rw c.from_residual.ensures (output_done _ b _ _ _ refl _ _ _ (c.in_err-made.ensures b) (fresh_stop _ b ended 1 refl))

pub returns : goal.returns
returns c = λ b. output_done _ b _ _ _ refl _ _ _ (c.in_ok-made.ensures b) (c.numbers.ensures.by_index _ b)
