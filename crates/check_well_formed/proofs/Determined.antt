-- Any two results that the promise of `well_formed` allows are equal.
use mathlib.Core.Path.{sym, ◌∙◌}
use Rattle.numbers.proofs.Determined.{One_result}
use Rattle.check_well_formed.proofs.well_formed.Kinds as well-formed-kinds
use Rattle.check_well_formed.proofs.well_formed.Reads as well_formed

pub well_formed_determined : One_result 2 well-formed-kinds.ps well-formed-kinds.r well_formed.Post
well_formed_determined κs a x y e f p q = p ∙ sym q
