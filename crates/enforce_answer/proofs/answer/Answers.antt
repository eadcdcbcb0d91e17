-- `answer` takes the tests of enforce in their order.
use native.Mathlib.Omega.{arith}
use Rattle.enforce_answer.proofs.Held.{ask_within, ask_none, ask_one, ask_more, set_positive}
use Rattle.enforce_answer.proofs.answer.Goals as goal

pub returns-then-all_within : goal.returns-then-all_within
returns-then-all_within c = ask_within _ _ c.requires _ _ _ c.all_within.ensures c.if-all_within.true

pub returns-in-0 : goal.returns-in-0
returns-in-0 c = ask_none _ _ c.requires _ _ _ c.all_within.ensures c.if-all_within.false c.in-0.is

pub one_answer-requires : goal.one_answer-requires
one_answer-requires c = set_positive _ _ c.requires

pub returns-in-1 : goal.returns-in-1
returns-in-1 c =
    ask_one _ _ c.requires _ _ _ c.all_within.ensures c.if-all_within.false _ _ c.in-1.is c.one_answer.ensures

pub returns-in_default : goal.returns-in_default
returns-in_default c =
    ask_more _ _ c.requires _ _ _ c.all_within.ensures c.if-all_within.false _ _ (λ z. omega arith) (λ z. omega arith) c.built_answer.ensures
