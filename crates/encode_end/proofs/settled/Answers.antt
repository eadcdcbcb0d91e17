-- `settled` zeroes from the marks on and answers.
use Rattle.encode_end.specs.Settled.{settled}
use Rattle.encode_end.proofs.Finals.{end_is}
use Rattle.encode_end.proofs.settled.Goals as goal

pub returns : goal.returns
unfolding settled
returns c =
    end_is _ _ _ _ _ _ _ _ c.encoded.ensures c.zero_words.ensures c.zero_signed.ensures (c.fill.ensures.after (λ y e. e))
