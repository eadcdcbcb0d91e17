-- `variable` halves the word.
use Rattle.numbers.proofs.Literals.{word_variable}
use Rattle.numbers.proofs.variable.Goals as goal

pub returns : goal.returns
returns c = word_variable _
