-- `answer` answers over a build that is well formed.
use mathlib.Core.Path.{sym, ◌∙◌}
use Rattle.laws.specs.WellFormed.Whole.{well_formed_facts}
use Rattle.records_waiting.proofs.Whole.{readable}
use Rattle.watchdog_enforce.proofs.Ends.{refused, given}
use Rattle.watchdog_enforce.proofs.answer.Goals as goal

pub answer-requires : goal.answer-requires
answer-requires c = readable _ _ _ (well_formed_facts _ _ _ (sym c.well_formed-2.ensures ∙ c.if-well_formed.true))

pub returns-then-well_formed : goal.returns-then-well_formed
returns-then-well_formed c = given _ _ _ _ _ _ c.well_formed-2.ensures _ _ c.if-well_formed.true c.answer.ensures

pub returns-else-well_formed : goal.returns-else-well_formed
returns-else-well_formed c = refused _ _ _ _ _ _ c.well_formed-2.ensures c.if-well_formed.false
