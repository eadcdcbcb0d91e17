-- Any two results that the promises of the reading calls allow are equal.
use mathlib.Core.Path.{sym, ◌∙◌}
use Rattle.numbers.proofs.Determined.{One_result}
use Rattle.watchdog_precision.proofs.set_precision.Kinds as set-precision-kinds
use Rattle.watchdog_precision.proofs.set_precision.Reads as set_precision
use Rattle.watchdog_precision.proofs.next_precision.Kinds as next-precision-kinds
use Rattle.watchdog_precision.proofs.next_precision.Reads as next_precision
use Rattle.watchdog_precision.proofs.is_max_precision.Kinds as is-max-precision-kinds
use Rattle.watchdog_precision.proofs.is_max_precision.Reads as is_max_precision
use Rattle.watchdog_precision.proofs.coarse_ub.Kinds as coarse-ub-kinds
use Rattle.watchdog_precision.proofs.coarse_ub.Reads as coarse_ub

pub set_precision_determined : One_result 2 set-precision-kinds.ps set-precision-kinds.r set_precision.Post
set_precision_determined κs a x y e f p q = p ∙ sym q

pub next_precision_determined : One_result 2 next-precision-kinds.ps next-precision-kinds.r next_precision.Post
next_precision_determined κs a x y e f p q = p ∙ sym q

pub is_max_precision_determined : One_result 2 is-max-precision-kinds.ps is-max-precision-kinds.r is_max_precision.Post
is_max_precision_determined κs a x y e f p q = p ∙ sym q

pub coarse_ub_determined : One_result 2 coarse-ub-kinds.ps coarse-ub-kinds.r coarse_ub.Post
coarse_ub_determined κs a x y e f p q = p ∙ sym q
