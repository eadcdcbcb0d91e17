-- `word` reads where there is a word.
use borrow.Author.Rules.{rules}
use Rattle.records_words.specs.Words.{word_at}
use Rattle.records_words.proofs.word.Goals as goal

pub returns : goal.returns
unfolding word_at
returns c = search rules
