use Rattle.std.proofs.Common.{refl}
use Rattle.totalizer_merge.proofs.Merging.{merge_none, merge_one, merge_done, merge_left_ended, merge_right_ended}
use Rattle.totalizer_merge.proofs.+merge.Goals as goal

pub returns-in-empty : goal.returns-in-empty
returns-in-empty t c = λ b. merge_none _ _ c.in-empty.len_below

pub returns-in-len1 : goal.returns-in-len1
returns-in-len1 t c = λ b. merge_one _ _ c.in-len1.len_at_least c.in-len1.len_below

pub returns-in_err-a-in_default : goal.returns-in_err-a-in_default
returns-in_err-a-in_default t c =
    let parts = c.split_at.ensures in
    λ b. rw c.from_residual.ensures (merge_left_ended _ _ _ _ _ _ _ c.in_default.len_at_least parts.front parts.back (c.in_err-a-in_default.ensures b) refl)

pub returns-in_err-b-in_default : goal.returns-in_err-b-in_default
returns-in_err-b-in_default t c =
    let parts = c.split_at.ensures in
    λ b. rw c.from_residual-in_err-b-in_default.ensures (merge_right_ended _ _ _ _ _ _ _ _ _ c.in_default.len_at_least parts.front parts.back (c.in_ok-a-in_default.ensures b) (c.in_err-b-in_default.ensures b) refl)

pub returns-in_ok-b-in_default : goal.returns-in_ok-b-in_default
returns-in_ok-b-in_default t c =
    let parts = c.split_at.ensures in
    λ b. merge_done _ _ _ _ _ _ _ _ _ _ c.in_default.len_at_least parts.front parts.back (c.in_ok-a-in_default.ensures b) (c.in_ok-b-in_default.ensures b) (c.join.ensures b)
