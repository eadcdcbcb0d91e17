-- Any two results that the promises of the public functions allow are equal.
use mathlib.Core.Path.{sym, ◌∙◌}
use Rattle.numbers.proofs.Determined.{One_result}
use Rattle.start_lists.proofs.check_list.Kinds as check-list-kinds
use Rattle.start_lists.proofs.check_list.Reads as check-list
use Rattle.start_lists.proofs.checked_list.Kinds as checked-list-kinds
use Rattle.start_lists.proofs.checked_list.Reads as checked-list

pub check_list_determined : One_result 2 check-list-kinds.ps check-list-kinds.r check-list.Post
check_list_determined κs a x y e f p q = p ∙ sym q

pub checked_list_determined : One_result 3 checked-list-kinds.ps checked-list-kinds.r checked-list.Post
checked_list_determined κs a x y e f p q = p ∙ sym q
