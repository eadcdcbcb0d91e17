-- `merge_structures` makes the tower of the new powers and renews the old buckets over it.
use mathlib.Core.Path.{◌≡◌, refl, ◌∙◌, subst}
use mathlib.Core.List.{map}
use Prim.Native.Nat.{ℕ}
use native.Mathlib.Omega.{arith}
use borrow.Author.Rules.{rules}
use lib.ListN.{take, length-take}
use Rattle.rules.specs.Refinement.{former_half}
use Rattle.refine_structure.proofs.Segments.{made_slice, first_made}
use Rattle.refine_structure.proofs.Merging.{spans, within, counted, positive, queued, used_count, tares_small, tower_ended, renew_ended, merge_done}
use Rattle.refine_structure.proofs.merge_structures.Goals as goal

pub overflow_sub-many : goal.overflow_sub-many
overflow_sub-many c = (counted _ _ _ _ _ _ c.requires _ _ c.top_bit.ensures.value c.top_bit-2.ensures.value).0

pub new_tares-tares-requires : goal.new_tares-tares-requires
new_tares-tares-requires c =
    let count = counted _ _ _ _ _ _ c.requires _ _ c.top_bit.ensures.value c.top_bit-2.ensures.value in
    (omega (arith, length-take {A = ℕ}, count.2), count.3)

pub segment-requires : goal.segment-requires
segment-requires c =
    let pre = c.requires in
    (queued _ _ _ _ _ _ pre, positive _ _ _ _ _ _ pre, spans _ _ _ _ _ _ pre, search rules, tares_small _ _ _ _ _ _ pre _ (counted _ _ _ _ _ _ pre _ _ c.top_bit.ensures.value c.top_bit-2.ensures.value).1 _ c.new_tares-tares.ensures)

pub overflow_sub-made : goal.overflow_sub-made
overflow_sub-made c = omega (arith, c.in_ok-t.ensures.2, (within _ _ _ _ _ _ c.requires).1)

pub append-requires : goal.append-requires
append-requires c = omega (arith, length-take {A = ℕ}, c.in_ok-t.ensures.2, (within _ _ _ _ _ _ c.requires).1)

pub overflow_cast-result : goal.overflow_cast-result
overflow_cast-result c = omega (arith, c.in_ok-t.ensures.2, (within _ _ _ _ _ _ c.requires).1)

pub returns-in_err-t : goal.returns-in_err-t
returns-in_err-t c =
    let s = c.args.s in
    let pre = c.requires in
    let tower = c.in_err-t.ensures in
    let halves = c.former_halves-halves in
    let count = counted _ _ _ _ _ _ pre _ _ c.top_bit.ensures.value c.top_bit-2.ensures.value in
    rw c.from_residual.ensures (
      tower_ended _ _ _ _ _ _ pre _ count.1 _ c.new_tares-tares.ensures _
          (λ rs h. subst (λ (n : ℕ). take n halves.result ≡ map (former_half rs) (take s.buckets_used s.buckets)) (used_count _ _ _ _ _ _ pre) (halves.ensures.halves rs h))
          _ _ _ _ _ tower.0 tower.1 tower.2 _ refl _ refl refl,
      tower.1,
      tt,
    )

pub returns-in_err-marks : goal.returns-in_err-marks
returns-in_err-marks c =
    let s = c.args.s in
    let pre = c.requires in
    let tower = c.in_ok-t.ensures in
    let halves = c.former_halves-halves in
    let count = counted _ _ _ _ _ _ pre _ _ c.top_bit.ensures.value c.top_bit-2.ensures.value in
    let few = within _ _ _ _ _ _ pre in
    rw c.from_residual-in_err-marks.ensures (
      renew_ended _ _ _ _ _ _ pre _ count.1 _ c.new_tares-tares.ensures _
          (λ rs h. subst (λ (n : ℕ). take n halves.result ≡ map (former_half rs) (take s.buckets_used s.buckets)) (used_count _ _ _ _ _ _ pre) (halves.ensures.halves rs h))
          _ _ _ _ _ tower.0 tower.1 tower.2 _ (made_slice _ _ (omega (arith, tower.2, few.1))) _
          (first_made _ _ _ (c.copied.ensures ∙ c.first.ensures.value) c.unwrap_or-below.ensures) _ c.in_err-marks.ensures,
      tower.1,
      tt,
    )

pub returns : goal.returns
returns c =
    let s = c.args.s in
    let pre = c.requires in
    let tower = c.in_ok-t.ensures in
    let halves = c.former_halves-halves in
    let count = counted _ _ _ _ _ _ pre _ _ c.top_bit.ensures.value c.top_bit-2.ensures.value in
    let few = within _ _ _ _ _ _ pre in (
      merge_done _ _ _ _ _ _ pre _ count.1 _ c.new_tares-tares.ensures _
          (λ rs h. subst (λ (n : ℕ). take n halves.result ≡ map (former_half rs) (take s.buckets_used s.buckets)) (used_count _ _ _ _ _ _ pre) (halves.ensures.halves rs h))
          _ _ _ _ _ tower.0 tower.1 tower.2 _ (made_slice _ _ (omega (arith, tower.2, few.1))) _
          (first_made _ _ _ (c.copied.ensures ∙ c.first.ensures.value) c.unwrap_or-below.ensures) _ c.in_ok-marks.ensures _ _ c.append.ensures,
      tower.1,
      (tower.3, omega (arith, count.2), omega (arith, tower.2, few.1)),
    )

pub overflow_add-result-2 : goal.overflow_add-result-2
overflow_add-result-2 c = omega (arith, c.in_ok-t.ensures.2, (within _ _ _ _ _ _ c.requires).1)
