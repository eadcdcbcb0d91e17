-- `build_structure` makes the tower of all powers that the weights reach.
use mathlib.Core.Path.{refl, ◌∙◌}
use native.Mathlib.Omega.{arith}
use Rattle.build_first.proofs.Building.{tares_count, queue_ready, powers_from, fresh_room, tower_ready, line_low, built, ended, made_slots}
use Rattle.build_first.proofs.build_structure.Goals as goal

pub weight-most-requires : goal.weight-most-requires
weight-most-requires c = (queue_ready _ _ _ c.requires.0).sorted

pub overflow_sub-k-2 : goal.overflow_sub-k-2
overflow_sub-k-2 c =
    let p = powers_from _ _ _ _ c.requires.0 _ _ _ (c.from.ensures ∙ c.weight-most.ensures) c.digits-l.ensures.value c.top_bit-p.ensures.value in
    omega (arith, p.some)

pub fresh_tares-tares-requires : goal.fresh_tares-tares-requires
fresh_tares-tares-requires c =
    let p = powers_from _ _ _ _ c.requires.0 _ _ _ (c.from.ensures ∙ c.weight-most.ensures) c.digits-l.ensures.value c.top_bit-p.ensures.value in
    (omega (arith, p.few), fresh_room _ _ _ _ _ _ p _ c.requires.1)

pub slice_bounds-tares-end : goal.slice_bounds-tares-end
slice_bounds-tares-end c =
    let p = powers_from _ _ _ _ c.requires.0 _ _ _ (c.from.ensures ∙ c.weight-most.ensures) c.digits-l.ensures.value c.top_bit-p.ensures.value in
    omega (arith, p.few)

pub slice_bounds-plan-end : goal.slice_bounds-plan-end
slice_bounds-plan-end c = tares_count _ _ _ c.fresh_tares-tares.ensures

pub tower-requires : goal.tower-requires
tower-requires c =
    let p = powers_from _ _ _ _ c.requires.0 _ _ _ (c.from.ensures ∙ c.weight-most.ensures) c.digits-l.ensures.value c.top_bit-p.ensures.value in
    tower_ready _ _ _ _ _ _ p _ _ c.fresh_tares-tares.ensures

pub append-buckets-requires : goal.append-buckets-requires
append-buckets-requires c =
    let p = powers_from _ _ _ _ c.requires.0 _ _ _ (c.from.ensures ∙ c.weight-most.ensures) c.digits-l.ensures.value c.top_bit-p.ensures.value in
    omega (arith, c.in_ok-t.ensures.2, p.few)

pub returns-in_err-t : goal.returns-in_err-t
returns-in_err-t c =
    let p = powers_from _ _ _ _ c.requires.0 _ _ _ (c.from.ensures ∙ c.weight-most.ensures) c.digits-l.ensures.value c.top_bit-p.ensures.value in
    let tower = c.in_err-t.ensures in
    rw c.from_residual.ensures (
      λ e b h. ended _ _ _ _ _ _ p _ _ e _ _ _ _ c.requires.1 tower.1 c.requires.0.long c.fresh_tares-tares.ensures refl (tower.0 b (line_low _ _ _ _ _ _ p)) h,
      tower.1,
      tt,
    )

pub returns : goal.returns
returns c =
    let p = powers_from _ _ _ _ c.requires.0 _ _ _ (c.from.ensures ∙ c.weight-most.ensures) c.digits-l.ensures.value c.top_bit-p.ensures.value in
    let tower = c.in_ok-t.ensures in (
      λ e b h. built _ _ _ _ _ _ p _ _ e _ _ _ _ _ c.requires.1 tower.2 (omega (arith, tower.1, c.requires.0.long)) c.fresh_tares-tares.ensures refl refl (made_slots _ _ _ (omega (arith, tower.2, p.few)) c.append-buckets.ensures) refl (tower.0 b (line_low _ _ _ _ _ _ p)) h,
      tower.1,
      (tower.3, omega (arith, p.few)),
    )
