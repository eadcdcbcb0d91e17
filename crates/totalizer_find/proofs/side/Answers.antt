-- `side` negates the output's literal, and leaves out a side that is 0.
use Rattle.totalizer_find.proofs.Walk.{side_none, side_some}
use Rattle.totalizer_find.proofs.side.Goals as goal

pub returns-then-v-eq0 : goal.returns-then-v-eq0
returns-then-v-eq0 c = λ rs h. side_none rs _ _ c.if-v-eq0.true

pub returns-else-v-eq0 : goal.returns-else-v-eq0
returns-else-v-eq0 c = λ rs h. side_some rs _ _ _ _ c.if-v-eq0.false (c.literal.ensures rs h) c.negated.ensures
