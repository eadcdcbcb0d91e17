-- No record has a word that says no kind.
use Rattle.check_kinds.proofs.Known.{none_at}
use Rattle.check_kinds.proofs.known_at.Goals as goal

pub returns-in_default : goal.returns-in_default
returns-in_default c = none_at _ _ _ _ c.field.ensures c.in_default.ensures
