-- The powers of a refinement's tower, by the state.
use mathlib.Core.Path.{◌≡◌, subst}
use mathlib.Core.List.{List}
use Prim.Native.Nat.{ℕ, ◌+◌, ◌-◌, ◌^◌, ◌≤◌, ◌<◌}
use native.Mathlib.Omega.{arith}
use lib.ListN.{take}
use lib.IntN.{ℤ}
use Rattle.rules.specs.declared.State.{State}
use Rattle.rules.specs.Digits.{top_bit}
use Rattle.rules.specs.Build.{largest}
use Rattle.laws.specs.Lists.Facts.{All}
use Rattle.laws.specs.WellFormed.Keeps.{All_take}
use Rattle.records.specs.Carries.{Held, st, Makes}
use Rattle.build_line.specs.Work.{line, members_from, made_in}
use Rattle.build_tower.specs.Rule.{tower}
use Rattle.refine_structure.specs.Refined.{added, spare, Spans}

module _ (s : State) (p end : ℕ) (ep : p ≡ top_bit s.set) (ee : end ≡ top_bit s.built) (x : Spans s) where
  abbrev own : ℕ
  own = s.tares_used + 1 - s.buckets_used

  pub spans_within : (p ≤ end) × (s.buckets_used ≤ s.tares_used + 1) × (p ≤ end + own) × (end + own ≤ 20) × (end - p + own ≤ 19)
  spans_within = (
    omega (arith, x.finer),
    x.few,
    omega (arith, x.finer),
    omega (arith, x.low, x.some),
    omega (arith, x.low, x.some),
  )

  pub segment_small : (fresh : ℕ) (tares : List ℕ) → (fresh + added s ≤ 1000000001 → All (λ t. t < 2147483648) tares) →
      fresh + (end - p) ≤ 1000000001 → All (λ t. t < 2147483648) (take (end - p + own) tares)
  unfolding added
  segment_small fresh tares h room = All_take (λ t. t < 2147483648) (end - p + own) tares (h (omega (arith, ep, ee)))

  -- what a tower of these powers promises
  module _ (store store' work work' : List ℕ) (m m₁ : Held) (h : ℕ) (tares : List ℕ) (used head : ℕ) where
    abbrev Towers : ℕ → ℕ → Type 0
    Towers p end = (c : List ℤ) → largest (line work h) < 2 ^ (end + own) →
        Makes (st store c m) (st store' c m₁) (made_in work' used, line work' head)
        (tower (end - p) s.set p (take (end - p + own) tares) (members_from work 0 (end + own)) (line work h))

    pub segment_made : Towers p end → (c : List ℤ) → largest (line work h) < 2 ^ (top_bit s.built + spare s) →
        Makes (st store c m) (st store' c m₁) (made_in work' used, line work' head)
        (tower (added s) s.set (top_bit s.set) (take (added s + spare s) tares) (members_from work 0 (top_bit s.built + spare s)) (line work h))
    unfolding added spare
    segment_made t = subst (λ (j : ℕ). Towers (top_bit s.set) j) ee (subst (λ (i : ℕ). Towers i end) ep t)

  pub segment_few : (used : ℕ) → p + used ≤ end + own → used ≤ added s + spare s
  unfolding added spare
  segment_few used h = omega (arith, x.finer, ep, ee)
