-- `finish` writes the clauses with the next number before it takes that number.
use Rattle.std.proofs.Common.{refl}
use Rattle.records.proofs.Step.{stop}
use Rattle.records_append.proofs.Appending.{number_grows}
use Rattle.totalizer_clauses.proofs.Clauses.{word_of_number, finish_end, finish_done}
use Rattle.totalizer_clauses.proofs.finish.Goals as goal

pub returns-then-m-gt-MOST_VARIABLE : goal.returns-then-m-gt-MOST_VARIABLE
returns-then-m-gt-MOST_VARIABLE c = λ j i. finish_end _ _ _ _ _ _ _ _ _ refl c.if-m-gt-MOST_VARIABLE.true

pub returns-in_err-written : goal.returns-in_err-written
returns-in_err-written c =
    λ j i. rw c.from_residual.ensures (finish_done _ _ _ _ _ _ _ _ _ _ _ refl (c.in_err-written.ensures _ (word_of_number _) j i) (stop _ _ (number_grows _ _) refl))

pub returns : goal.returns
returns c =
    λ j i. finish_done _ _ _ _ _ _ _ _ _ _ _ refl (c.in_ok-written.ensures _ (word_of_number _) j i) (c.output.ensures _)
