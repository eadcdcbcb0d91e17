-- Digits against powers of two.
use Rattle.std.specs.Prelude.{◌≡◌, refl, Bool, true, false, ℕ, zero, suc, ◌*◌, ◌-◌, ◌/◌, ◌^◌, ◌≤◌, ◌<◌, max, leb, ltb}
use Rattle.std.proofs.Common.{sym, ◌∙◌, ap, arith, pow_pos, pow_mono, leb-true, leb-false, ltb-true, ltb-false, eqb-true, eq-eqb}
use Rattle.std.proofs.Math.Nat.{pow-succ'}
use Rattle.rules.specs.Digits.{bit_length, digits, top_bit, power_of_two}

-- any fuel that n does not exceed gives the same bit length
pub bit_length_fuel : (f g n : ℕ) → n ≤ f → n ≤ g → bit_length f n ≡ bit_length g n
unfolding bit_length
bit_length_fuel zero zero n h k = refl
bit_length_fuel zero (suc g) zero h k = refl
bit_length_fuel zero (suc g) (suc n) h k = absurd (omega arith)
bit_length_fuel (suc f) zero zero h k = refl
bit_length_fuel (suc f) zero (suc n) h k = absurd (omega arith)
bit_length_fuel (suc f) (suc g) zero h k = refl
bit_length_fuel (suc f) (suc g) (suc n) h k = ap suc (bit_length_fuel f g (suc n / 2) (omega arith) (omega arith))

length_high : (f n : ℕ) → n ≤ f → n < 2 ^ bit_length f n
unfolding bit_length
length_high zero n h = omega arith
length_high (suc f) zero h = omega arith
length_high (suc f) (suc n) h = omega (arith, length_high f (suc n / 2) (omega arith), pow-succ' 2 (bit_length f (suc n / 2)))

length_low : (f n : ℕ) → 1 ≤ n → n ≤ f → 2 ^ bit_length f n ≤ 2 * n
unfolding bit_length
length_low zero n p h = absurd (omega arith)
length_low (suc f) zero p h = absurd (omega arith)
length_low (suc f) (suc n) p h = go (suc n / 2) refl (length_low f (suc n / 2))
  where
    none : (f : ℕ) → bit_length f 0 ≡ 0
    none zero = refl
    none (suc f) = refl

    go : (k : ℕ) → suc n / 2 ≡ k → (1 ≤ k → k ≤ f → 2 ^ bit_length f k ≤ 2 * k) → 2 ^ suc (bit_length f k) ≤ 2 * suc n
    go zero e ih = rw (none f) (omega arith)
    go (suc k) e ih = omega (arith, pow-succ' 2 (bit_length f (suc k)), ih (omega arith) (omega arith))

-- a number has at least one digit
pub digits_positive : (n : ℕ) → 1 ≤ digits n
unfolding digits
digits_positive n = omega arith

-- and is below the power of its digits
pub below_digits : (n : ℕ) → n < 2 ^ digits n
unfolding digits
below_digits n =
    let le : bit_length n n ≤ max 1 (bit_length n n) = omega arith in
    omega (arith, length_high n n (omega arith), pow_mono le)

-- the top bit is within
pub top_bit_within : (n : ℕ) → 1 ≤ n → 2 ^ top_bit n ≤ n
unfolding top_bit digits
top_bit_within n p = go (bit_length n n) (length_high n n (omega arith)) (length_low n n p (omega arith))
  where
    go : (b : ℕ) → n < 2 ^ b → 2 ^ b ≤ 2 * n → 2 ^ (max 1 b - 1) ≤ n
    go zero i j = absurd (omega arith)
    go (suc k) i j =
        let e : max 1 (suc k) - 1 ≡ k = omega arith in
        rw e (omega (arith, pow-succ' 2 k))

pub digits_top : (n : ℕ) → digits n ≡ suc (top_bit n)
unfolding top_bit
digits_top n = omega (arith, digits_positive n)

-- what is left without the top bit is below it
pub top_bit_off : (n : ℕ) → n - 2 ^ top_bit n < 2 ^ top_bit n
top_bit_off n =
    let e : 2 ^ digits n ≡ 2 ^ suc (top_bit n) = ap (λ k. 2 ^ k) (digits_top n) in
    omega (arith, below_digits n, e, pow-succ' 2 (top_bit n), pow_pos (top_bit n))

-- a power within a number is at most its top bit
pub top_bit_least : (k n : ℕ) → 2 ^ k ≤ n → k ≤ top_bit n
top_bit_least k n h = go (leb k (top_bit n)) refl
  where
    go : (b : Bool) → leb k (top_bit n) ≡ b → k ≤ top_bit n
    go true e = leb-true k (top_bit n) e
    go false e =
        let le : digits n ≤ k = omega (arith, leb-false k (top_bit n) e, digits_top n) in
        absurd (omega (arith, pow_mono le, below_digits n))

-- a number below a power has its top bit below
pub top_bit_below : (k n : ℕ) → 1 ≤ n → n < 2 ^ k → top_bit n < k
top_bit_below k n p h = go (ltb (top_bit n) k) refl
  where
    go : (b : Bool) → ltb (top_bit n) k ≡ b → top_bit n < k
    go true e = ltb-true (top_bit n) k e
    go false e = absurd (omega (arith, pow_mono (ltb-false (top_bit n) k e), top_bit_within n p))

-- top bits rise with the numbers
pub top_bit_mono : (m n : ℕ) → 1 ≤ m → m ≤ n → top_bit m ≤ top_bit n
top_bit_mono m n p h = top_bit_least (top_bit m) n (omega (arith, top_bit_within m p))

pub top_bit_power : (k : ℕ) → top_bit (2 ^ k) ≡ k
top_bit_power k =
    let low : k ≤ top_bit (2 ^ k) = top_bit_least k (2 ^ k) (omega arith) in
    let grows : 2 ^ k < 2 ^ suc k = omega (arith, pow-succ' 2 k, pow_pos k) in
    let high : top_bit (2 ^ k) < suc k = top_bit_below (suc k) (2 ^ k) (omega (arith, pow_pos k)) grows in
    omega arith

-- a power of two is that of its top bit
pub power_is : (n : ℕ) → power_of_two n ≡ true → n ≡ 2 ^ top_bit n
unfolding power_of_two
power_is n e = sym (eqb-true (2 ^ top_bit n) n e)

pub power_lawful : (n k : ℕ) → n ≡ 2 ^ k → power_of_two n ≡ true
unfolding power_of_two
power_lawful n k e =
    let top : top_bit n ≡ k = ap top_bit e ∙ top_bit_power k in
    eq-eqb (2 ^ top_bit n) n (ap (λ i. 2 ^ i) top ∙ sym e)
