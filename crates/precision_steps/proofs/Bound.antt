-- The coarse bound: one less than the last multiple of the weight that is at most one more than u.
use mathlib.Core.Path.{◌≡◌, refl, sym, ap, ap₂, ◌∙◌}
use mathlib.Core.Bool.{Bool, true, false, cond, ◌||◌}
use Prim.Native.Nat.{ℕ, suc, ◌+◌, ◌*◌, ◌-◌, ◌/◌, ◌%◌, ◌^◌, ◌≤◌, ◌<◌}
use native.Mathlib.Omega.{arith}
use native.Mathlib.Nat.{mod-lt, div-add-mod', suc-mul, div-eq_of_eq-mul_left, div-eq_of_lt-le}
use lib.Dec.{eqb, ltb}
use borrow.Author.Tests.{ne_eqb, le-ltb, lt-ltb}
use Rattle.rules.specs.Digits.{top_bit}
use Rattle.rules.specs.Coarse.{coarse_at}
use Rattle.laws.specs.Lists.Facts.{or_right}
use Rattle.numbers.proofs.Bits.{power_whole}

-- one law for each way
module _ (w u : ℕ) where
  pub coarse_none : w ≡ 0 → 0 ≡ coarse_at w u
  unfolding coarse_at
  coarse_none e =
      let none : suc u / w * w ≡ suc u / w * 0 = ap (λ (n : ℕ). suc u / w * n) e in
      let zero_left : 0 ≡ suc u / w * w - 1 = omega arith in
      zero_left ∙ sym (ap₂ (λ (a b : Bool). cond (a || b) u (suc u / w * w - 1)) (ne_eqb w 1 (λ q. omega arith)) (le-ltb u w (omega arith)))

  pub coarse_low : u < w → u ≡ coarse_at w u
  unfolding coarse_at
  coarse_low h = sym (ap (λ (b : Bool). cond b u (suc u / w * w - 1)) (or_right (eqb w 1) (ltb u w) (lt-ltb u w h)))

  pub coarse_whole : 1 ≤ w → u % w + 1 ≡ w → u ≡ coarse_at w u
  unfolding coarse_at
  coarse_whole h e = go (eqb w 1 || ltb u w)
    where
      next : suc u ≡ suc (u / w) * w
      next = omega (arith, div-add-mod' u w, suc-mul (u / w) w)

      last : suc u / w * w ≡ suc (u / w) * w
      last = ap (λ (n : ℕ). n * w) (div-eq_of_eq-mul_left h next)

      go : (b : Bool) → u ≡ cond b u (suc u / w * w - 1)
      go true = refl
      go false = omega (arith, next, last)

  pub coarse_part : 1 ≤ w → w ≤ u → (u % w + 1 ≡ w → ⊥) → u - u % w - 1 ≡ coarse_at w u
  unfolding coarse_at
  coarse_part h l n =
      let low : u % w < w = mod-lt u h in
      let more : suc (u / w) * w ≡ u / w * w + w = omega (arith, suc-mul (u / w) w) in
      let up : (u / w + 1) * w ≡ suc (u / w) * w = ap (λ (n : ℕ). n * w) (omega arith) in
      let all : u / w * w + u % w ≡ u = div-add-mod' u w in
      let same : suc u / w * w ≡ u / w * w = ap (λ (n : ℕ). n * w) (div-eq_of_lt-le {k = u / w} w {m = suc u} (omega arith) (omega arith)) in
      let is : u - u % w - 1 ≡ suc u / w * w - 1 = omega arith in
      is ∙ sym (ap₂ (λ (a b : Bool). cond (a || b) u (suc u / w * w - 1)) (ne_eqb w 1 (λ q. n (omega arith))) (le-ltb u w l))

-- the power of a number's top bit
pub top_power : (x y k p : ℕ) → k ≡ top_bit x → k < 64 → p ≡ 2 ^ k % 2 ^ 64 → x ≡ y → p ≡ 2 ^ top_bit y
top_power x y k p e h q f = power_whole k p h q ∙ (ap (λ (n : ℕ). 2 ^ n) e ∙ ap (λ (n : ℕ). 2 ^ top_bit n) f)
