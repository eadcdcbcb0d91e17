use mathlib.Core.Path.{refl}
use Rattle.records.proofs.Step.{rest_end, rest_full}
use Rattle.encode_outputs.specs.Taken.{entries_at}
use Rattle.encode_outputs.proofs.Turns.{waiting_start, waiting_end, waiting_turn}
use Rattle.encode_outputs.proofs.Lasts.{waiting_grows}
use Rattle.encode_outputs.proofs.append_waiting.Goals as goal

pub loop-k-init : goal.loop-k-init
unfolding entries_at
loop-k-init c = λ b. waiting_start _ _ _ _ _ _

pub loop-k-preserved : goal.loop-k-preserved
loop-k-preserved c =
    λ b. waiting_turn _ _ _ _ _ _ _ _ _ _ _ _ c.loop-k-test.true c.word.ensures c.word-in-loop-k.ensures (c.in_ok-n.ensures b) (c.loop-k.invariant b)

pub returns-in_err-n : goal.returns-in_err-n
returns-in_err-n c =
    λ b. rw c.from_residual.ensures (rest_full _ _ _ _ (waiting_grows _) refl (waiting_turn _ _ _ _ _ _ _ _ _ _ _ _ c.loop-k-test.true c.word.ensures c.word-in-loop-k.ensures (c.in_err-n.ensures b) (c.loop-k.invariant b)))

pub returns : goal.returns
returns c = λ b. rest_end _ _ _ _ (waiting_end _ _ _ _ _ _ c.loop-k-test.false) (c.loop-k.invariant b)
