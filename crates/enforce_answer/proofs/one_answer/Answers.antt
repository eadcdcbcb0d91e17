-- `one_answer` compares the weight that waits, divided by the set divisor, with the bound.
use Rattle.rules.specs.Enforce.{set_tares}
use Rattle.enforce_answer.proofs.Answers.{waits_is, first_is, one_empty, one_literal}
use Rattle.enforce_answer.proofs.one_answer.Goals as goal

pub returns-then-largest-set : goal.returns-then-largest-set
returns-then-largest-set c =
    λ b x h at k. one_empty b _ _ _ (waits_is b _ _ h _ (c.largest.ensures h.rs h.stores)) at _ c.if-largest-set.true

pub returns : goal.returns
unfolding set_tares
returns c =
    λ b x h at k. one_literal b _ _ _ (waits_is b _ _ h _ (c.largest.ensures h.rs h.stores)) at _ x _ _ _ _ _ _ c.if-largest-set.false k (first_is b _ _ h) (c.literal.ensures h.rs h.stores) c.negated-w.ensures c.put_answer.ensures
