-- `put` writes where there is a word.
use mathlib.Core.Path.{sym}
use lib.Seq.{set_out}
use Rattle.records_words.specs.Words.{put_word}
use borrow.Author.Rules.{rules}
use Rattle.records_words.proofs.put.Goals as goal

pub returns-then-i-s : goal.returns-then-i-s
unfolding put_word
returns-then-i-s c = search rules

pub returns-else-i-s : goal.returns-else-i-s
unfolding put_word
returns-else-i-s c =
    let args = c.args in
    sym (set_out args.s.now args.i args.w c.if-i-s.false)
