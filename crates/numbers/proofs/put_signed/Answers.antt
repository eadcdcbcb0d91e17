-- `put_signed` writes what `signed` gives where the place exists, and nothing elsewhere.
use borrow.Author.Rules.{sfits_of}
use mir.Syntax.{w32}
use mathlib.Core.Path.{sym}
use lib.Seq.{set_out}
use mir.Facts.{to_z-of_z}
use Rattle.rules.specs.Records.{word_literal}
use Rattle.numbers.specs.Signed.{put_signed}
use Rattle.numbers.proofs.put_signed.Goals as goal

pub returns-then-i-c : goal.returns-then-i-c
unfolding put_signed
returns-then-i-c c = rw (to_z-of_z {w = w32} (sfits_of c.signed.type_inv), c.signed.ensures)

pub returns-else-i-c : goal.returns-else-i-c
unfolding put_signed
returns-else-i-c c =
    let args = c.args in
    sym (set_out args.c.now args.i (word_literal args.w) c.if-i-c.false)
