-- `tower` takes numbers, runs the queue and makes the buckets.
use mathlib.Core.Path.{refl, ◌∙◌}
use native.Mathlib.Omega.{arith}
use Rattle.records.proofs.Step.{makes_any}
use Rattle.build_queue.proofs.Steps.{queued_count}
use Rattle.build_buckets.proofs.Words.{members_from_drop}
use Rattle.build_tower.proofs.Towers.{tower_full, tower_run_ended, tower_made, waits_where, line_kept}
use Rattle.build_tower.proofs.tower.Goals as goal

pub returns-in_err-numbered : goal.returns-in_err-numbered
returns-in_err-numbered c =
    let pre = c.requires in
    rw c.from_residual.ensures (λ b h. tower_full _ _ _ _ _ _ _ _ _ (c.in_err-numbered.ensures.by_index _ b) refl, refl, omega (arith, pre.2), omega arith)

pub returns-in_default : goal.returns-in_default
returns-in_default c =
    let pre = c.requires in
    let gather = c.in_default.ensures in
    (λ b h. tower_run_ended _ _ _ _ _ _ _ _ _ _ _ (c.in_ok-numbered.ensures.by_index _ b) (gather.makes b _ pre.3 h) refl, gather.kept.long, omega (arith, pre.2), omega arith)

pub buckets_over-requires : goal.buckets_over-requires
buckets_over-requires c =
    let queue = c.in-Ok.ensures.queue in
    let pre = c.requires in
    (pre.2, pre.3, queue.0.long, λ k h. queued_count _ _ k queue.0 (omega (arith, pre.3)), pre.4 c.in_ok-numbered.ensures.within)

pub returns-in_err-made : goal.returns-in_err-made
returns-in_err-made c =
    let made = c.in_err-made.ensures in
    let gather = c.in-Ok.ensures in
    let pre = c.requires in
    rw c.from_residual-in_err-made.ensures (
      λ b h. makes_any _ _ _ _ _ refl (tower_made _ _ _ _ _ _ _ _ _ _ _ _ _ _ _ (c.in_ok-numbered.ensures.by_index _ b) (gather.makes b _ pre.3 h) (waits_where _ _ _ refl) (members_from_drop _ _ _ pre.2) (line_kept _ _ _ made.2) (made.0 b)),
      made.1 ∙ gather.kept.long,
      made.3,
      omega arith,
    )

pub returns : goal.returns
returns c =
    let made = c.in_ok-made.ensures in
    let gather = c.in-Ok.ensures in
    let pre = c.requires in
    (λ b h. tower_made _ _ _ _ _ _ _ _ _ _ _ _ _ _ _ (c.in_ok-numbered.ensures.by_index _ b) (gather.makes b _ pre.3 h) (waits_where _ _ _ refl) (members_from_drop _ _ _ pre.2) (line_kept _ _ _ made.2) (made.0 b), made.1 ∙ gather.kept.long, made.3, gather.queue.0.head)
