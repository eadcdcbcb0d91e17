use mathlib.Core.Path.{refl, ◌∙◌}
use Rattle.records_words.specs.Words.{put_word}
use Rattle.encode_undo.proofs.Copying.{copy_start, copy_turn}
use Rattle.encode_undo.proofs.copy.Goals as goal

pub loop-i-init : goal.loop-i-init
loop-i-init c = (copy_start _ _ _ _, refl)

pub loop-i-preserved : goal.loop-i-preserved
unfolding put_word
loop-i-preserved c =
    let put = c.put in
    let loop = c.loop-i in
    let pre = c.requires in
    (copy_turn _ _ _ _ _ _ _ _ _ pre.0 pre.1 c.loop-i-test.true loop.invariant.0 refl put.ensures, put.auto.s ∙ loop.invariant.1)
