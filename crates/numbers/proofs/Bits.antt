-- Bit lengths do not depend on the fuel, and powers of two fit.
use mathlib.Core.Bool.{Bool, true, false}
use borrow.Author.Tests.{eq-eqb, ne_eqb, eqb-true, eqb-false}
use mathlib.Core.Path.{◌≡◌, refl, sym, ap, ◌∙◌}
use Prim.Native.Nat.{ℕ, zero, suc, ◌+◌, ◌-◌, ◌/◌, ◌%◌, ◌<◌, ◌≤◌, ◌*◌, ◌^◌, max}
use native.Mathlib.Nat.{mod-eq_of_lt, mul-mod_right, pow-succ', one-mul}
use native.Mathlib.Omega.{arith}
use lib.Pow.{pow-lt, pow-add, pow_pos}
use lib.Dec.{eqb}
use Rattle.std.proofs.Common.{Option, Some, None}
use Rattle.std.specs.Option.{SomeIff, unwrap_or}
use Rattle.std.specs.Int.Count.{ones, ones_in}
use Rattle.std.specs.Int.{is_power_of_two}
use Rattle.rules.specs.Digits.{bit_length, digits, top_bit, power_of_two}

bits_none : (f : ℕ) → bit_length f 0 ≡ 0
unfolding bit_length
bits_none zero = refl
bits_none (suc f) = refl

-- the bit length by the powers that n lies between
bits_at : (f n k : ℕ) → n ≤ f → 2 ^ k ≤ n → n < 2 * 2 ^ k → bit_length f n ≡ suc k
unfolding bit_length
bits_at zero n k h a b = absurd (omega (arith, pow_pos k))
bits_at (suc f) zero k h a b = absurd (omega (arith, pow_pos k))
bits_at (suc f) (suc n) zero h a b =
    let none : suc n / 2 ≡ 0 = omega arith in
    ap suc (ap (bit_length f) none ∙ bits_none f)
bits_at (suc f) (suc n) (suc k) h a b = ap suc (bits_at f (suc n / 2) k (omega arith) (omega (arith, pow-succ' 2 k)) (omega (arith, pow-succ' 2 k)))

-- the power of the top bit, by the powers that n lies between; 1 stands for 0
pub top_bit_at : (n k : ℕ) → 2 ^ k ≤ max n 1 → max n 1 < 2 * 2 ^ k → k ≡ top_bit n
unfolding digits top_bit
top_bit_at zero k a b = omega (arith, bits_at 1 1 k (omega arith) a b)
top_bit_at (suc n) k a b = omega (arith, bits_at (suc n) (suc n) k (omega arith) (omega arith) (omega arith))

pub digits_up : (n : ℕ) → top_bit n + 1 ≡ digits n
unfolding digits top_bit
digits_up n = omega arith

pub power_over : (k : ℕ) → 63 < k → 0 ≡ 2 ^ k % 2 ^ 64
power_over k h =
    let e : k ≡ 64 + (k - 64) = omega arith in
    rw e (sym (ap (λ (n : ℕ). n % 2 ^ 64) (pow-add 2 64 (k - 64)) ∙ mul-mod_right (2 ^ 64) (2 ^ (k - 64))))

pub power_shifted : (k : ℕ) (p : Option ℕ) → SomeIff p (k < 64) ((1 * 2 ^ k) % 2 ^ 64) → unwrap_or p 0 ≡ 2 ^ k % 2 ^ 64
power_shifted k None h = power_over k (omega (arith, h))
power_shifted k (Some p) h = h.1 ∙ ap (λ (n : ℕ). n % 2 ^ 64) (one-mul (2 ^ k))

-- a power below the 64th fits
pub power_whole : (k p : ℕ) → k < 64 → p ≡ 2 ^ k % 2 ^ 64 → p ≡ 2 ^ k
power_whole k p h q = q ∙ mod-eq_of_lt (pow-lt {i = k} {j = 64} h)

-- and is not 0
pub power_some : (k p : ℕ) → k < 64 → p ≡ 2 ^ k % 2 ^ 64 → 1 ≤ p
power_some k p h q = omega (arith, power_whole k p h q, pow_pos k)

-- how many bits of n are set
ones_none : (d : ℕ) → ones_in d 0 ≡ 0
unfolding ones_in
ones_none zero = refl
ones_none (suc d) = omega (arith, ones_none d)

ones_some : (d n : ℕ) → n ≤ d → 0 < n → 0 < ones_in d n
unfolding ones_in
ones_some zero n h i = absurd (omega arith)
ones_some (suc d) n h i = go (n / 2) refl (ones_some d (n / 2) (omega arith))
  where
    go : (m : ℕ) → n / 2 ≡ m → (0 < n / 2 → 0 < ones_in d (n / 2)) → 0 < n % 2 + ones_in d (n / 2)
    go zero e more = omega arith
    go (suc m) e more = let some : 0 < ones_in d (n / 2) = more (omega arith) in omega arith

bits_some : (f n : ℕ) → n ≤ f → 0 < n → 0 < bit_length f n
unfolding bit_length
bits_some zero n h i = absurd (omega arith)
bits_some (suc f) zero h i = absurd (omega arith)
bits_some (suc f) (suc n) h i = omega arith

-- one bit is set exactly where the power of the top bit is n
one_bit : (d n : ℕ) → n ≤ d → (ones_in d n ≡ 1 → 2 ^ (bit_length d n - 1) ≡ n) × (2 ^ (bit_length d n - 1) ≡ n → ones_in d n ≡ 1)
unfolding ones_in bit_length
one_bit zero n h = (λ q. absurd (omega arith), λ q. absurd (omega arith))
one_bit (suc d) zero h = (λ q. absurd (omega (arith, ones_none d)), λ q. absurd (omega arith))
one_bit (suc d) (suc n) h = go (suc n / 2) refl (one_bit d (suc n / 2) (omega arith))
  where
    go : (m : ℕ) → suc n / 2 ≡ m → (ones_in d (suc n / 2) ≡ 1 → 2 ^ (bit_length d (suc n / 2) - 1) ≡ suc n / 2) × (2 ^ (bit_length d (suc n / 2) - 1) ≡ suc n / 2 → ones_in d (suc n / 2) ≡ 1) →
        (suc n % 2 + ones_in d (suc n / 2) ≡ 1 → 2 ^ (suc (bit_length d (suc n / 2)) - 1) ≡ suc n) × (2 ^ (suc (bit_length d (suc n / 2)) - 1) ≡ suc n → suc n % 2 + ones_in d (suc n / 2) ≡ 1)
    go zero e ih =
        let none : ones_in d (suc n / 2) ≡ 0 = ap (ones_in d) e ∙ ones_none d in
        let first : 2 ^ (suc (bit_length d (suc n / 2)) - 1) ≡ 1 = ap (λ (m : ℕ). 2 ^ (suc (bit_length d m) - 1)) e ∙ ap (λ (k : ℕ). 2 ^ (suc k - 1)) (bits_none d) in
        (λ q. omega arith, λ q. omega arith)
    go (suc m) e ih =
        let some : 0 < ones_in d (suc n / 2) = ones_some d (suc n / 2) (omega arith) (omega arith) in
        let long : 0 < bit_length d (suc n / 2) = bits_some d (suc n / 2) (omega arith) (omega arith) in
        let down : suc (bit_length d (suc n / 2)) - 1 ≡ suc (bit_length d (suc n / 2) - 1) = omega arith in
        let twice : 2 ^ (suc (bit_length d (suc n / 2)) - 1) ≡ 2 * 2 ^ (bit_length d (suc n / 2) - 1) = ap (λ (k : ℕ). 2 ^ k) down ∙ (pow-succ' 2 (bit_length d (suc n / 2) - 1) ∙ omega arith) in (
          λ q. let one : ones_in d (suc n / 2) ≡ 1 = omega arith in let half : 2 ^ (bit_length d (suc n / 2) - 1) ≡ suc n / 2 = ih.0 one in omega arith,
          λ q. let half : 2 ^ (bit_length d (suc n / 2) - 1) ≡ suc n / 2 = omega arith in let one : ones_in d (suc n / 2) ≡ 1 = ih.1 half in omega arith,
        )

-- two tests that say the same
same_tests : (a b c d : ℕ) → (a ≡ b → c ≡ d) → (c ≡ d → a ≡ b) → eqb a b ≡ eqb c d
same_tests a b c d f g = go (eqb a b) refl
  where
    go : (p : Bool) → eqb a b ≡ p → p ≡ eqb c d
    go true e = sym (eq-eqb c d (f (eqb-true a b e)))
    go false e = sym (ne_eqb c d (λ q. eqb-false a b e (g q)))

pub power_test : (n : ℕ) → is_power_of_two n ≡ power_of_two n
unfolding power_of_two digits top_bit ones
power_test zero = refl
power_test (suc n) =
    let long : 0 < bit_length (suc n) (suc n) = bits_some (suc n) (suc n) (omega arith) (omega arith) in
    let most : max 1 (bit_length (suc n) (suc n)) - 1 ≡ bit_length (suc n) (suc n) - 1 = omega arith in
    let same = one_bit (suc n) (suc n) (omega arith) in
    rw most (same_tests (ones_in (suc n) (suc n)) 1 (2 ^ (bit_length (suc n) (suc n) - 1)) (suc n) same.0 same.1)
