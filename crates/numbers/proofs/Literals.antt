-- Literals, their words and their signed numbers: what each test of a signed number says of its size.
use mathlib.Core.Path.{◌≡◌, refl, sym, ap, ◌∙◌}
use mathlib.Core.Bool.{Bool, true, false, cond, ◌&&◌, false≢true}
use Prim.Native.Nat.{ℕ, zero, suc, ◌+◌, ◌*◌, ◌/◌, ◌%◌, ◌<◌, ◌≤◌, ◌^◌}
use native.Mathlib.Nat.{add-zero}
use native.Mathlib.Omega.{arith}
use lib.Dec.{eqb, ltb, leb, lit<}
use lib.Bits.{bit_and, bit_xor, and_mask, xor_add_and}
use lib.IntN.{ℤ, pos, negsuc, neg_ℤ, nat_abs, ◌-ℤ◌, +ℤ_idl}
use lib.Signed.{mag, lt_z}
use mir.Syntax.{w32}
use mir.Val.{SFits, to_z, of_z, bool_byte}
use mir.Facts.{to_z_pos, to_z-of_z}
use borrow.Author.Tests.{ltb-true, ltb-false, eq-eqb, ne_eqb, eqb-true, eqb-false, le-leb, lt-leb, leb-true, le-ltb}
use Rattle.std.proofs.Common.{nat_cmp, is_le, Less, Equal, Greater}
use Rattle.rules.specs.Numbers.{lawful}
use Rattle.rules.specs.Records.{literal_word, word_literal}
use Rattle.numbers.specs.Signed.{word_or_none}

-- an order as std compares, and as a test
pub le_is : (a b : ℕ) → is_le (nat_cmp a b) ≡ leb a b
le_is a b = go (ltb a b) (eqb a b) refl refl
  where
    go : (p q : Bool) → ltb a b ≡ p → eqb a b ≡ q → is_le (cond p Less (cond q Equal Greater)) ≡ leb a b
    go true q e f = sym (le-leb a b (omega (arith, ltb-true a b e)))
    go false true e f = sym (le-leb a b (omega (arith, eqb-true a b f)))
    go false false e f = sym (lt-leb a b (omega (arith, ltb-false a b e, eqb-false a b f)))

-- a literal's size, by its test
pub lawful_size : (x : ℤ) → true ≡ lawful x → nat_abs x ≤ 1000000000
unfolding lawful
lawful_size x e = leb-true (nat_abs x) 1000000000 (second (leb 1 (nat_abs x)) (leb (nat_abs x) 1000000000) e)
  where
    second : (p q : Bool) → true ≡ (p && q) → q ≡ true
    second true q h = sym h
    second false q h = absurd (false≢true (sym h))

pub byte_small : (b : Bool) → bool_byte b ≤ 1
byte_small true = omega arith
byte_small false = omega arith

-- its word is twice its size, and one more where it is negative
pub word_some : (x : ℤ) → true ≡ lawful x → 2 * nat_abs x + bool_byte (lt_z x (pos 0)) ≡ word_or_none x
unfolding word_or_none literal_word
word_some x e = go x ∙ ap (λ (b : Bool). cond b (literal_word x) 0) e
  where
    go : (x : ℤ) → 2 * nat_abs x + bool_byte (lt_z x (pos 0)) ≡ literal_word x
    go (pos n) = rw (le-ltb n 0 (omega arith)) (add-zero (2 * n))
    go (negsuc n) = refl

pub word_none : (x : ℤ) → false ≡ lawful x → 0 ≡ word_or_none x
unfolding word_or_none
word_none x e = ap (λ (b : Bool). cond b (literal_word x) 0) e

-- an even word is a variable's, an odd one a negation's
pub word_even : (w : ℕ) → w % 2 ≡ 0 → word_literal w ≡ pos (w / 2)
unfolding word_literal
word_even w h = ap (λ (b : Bool). cond b (pos (w / 2)) (neg_ℤ (pos (w / 2)))) (eq-eqb (w % 2) 0 h)

pub word_odd : (w : ℕ) → (w % 2 ≡ 0 → ⊥) → word_literal w ≡ neg_ℤ (pos (w / 2))
unfolding word_literal
word_odd w h = ap (λ (b : Bool). cond b (pos (w / 2)) (neg_ℤ (pos (w / 2)))) (ne_eqb (w % 2) 0 h)

negation_size : (n : ℕ) → nat_abs (neg_ℤ (pos n)) ≡ n
negation_size zero = refl
negation_size (suc n) = refl

pub word_variable : (w : ℕ) → w / 2 ≡ nat_abs (word_literal w)
word_variable w = go (eqb (w % 2) 0) refl
  where
    go : (b : Bool) → eqb (w % 2) 0 ≡ b → w / 2 ≡ nat_abs (word_literal w)
    go true e = sym (ap nat_abs (word_even w (eqb-true (w % 2) 0 e)))
    go false e = sym (ap nat_abs (word_odd w (eqb-false (w % 2) 0 e)) ∙ negation_size (w / 2))

twice_negated : (n : ℕ) → neg_ℤ (neg_ℤ (pos n)) ≡ pos n
twice_negated zero = refl
twice_negated (suc n) = refl

pub negated_small : (w : ℕ) → w < 2 → 0 ≡ literal_word (neg_ℤ (word_literal w))
unfolding literal_word word_literal
negated_small zero h = refl
negated_small (suc zero) h = refl
negated_small (suc (suc w)) h = absurd (omega arith)

word_of_variable : (n : ℕ) → literal_word (pos n) ≡ 2 * n
unfolding literal_word
word_of_variable n = refl

word_of_negation : (n : ℕ) → 0 < n → literal_word (neg_ℤ (pos n)) ≡ 2 * n + 1
unfolding literal_word
word_of_negation zero h = absurd (omega arith)
word_of_negation (suc n) h = refl

-- the last bit turned
xor_one : (w : ℕ) → bit_xor w 1 + 2 * (w % 2) ≡ w + 1
xor_one w = let last : bit_and w 1 ≡ w % 2 = and_mask w 1 in omega (arith, xor_add_and w 1)

pub negated_some : (w : ℕ) → 2 ≤ w → bit_xor w 1 ≡ literal_word (neg_ℤ (word_literal w))
unfolding literal_word
negated_some w h = go (eqb (w % 2) 0) refl
  where
    go : (b : Bool) → eqb (w % 2) 0 ≡ b → bit_xor w 1 ≡ literal_word (neg_ℤ (word_literal w))
    go true e =
        let even : w % 2 ≡ 0 = eqb-true (w % 2) 0 e in
        let up : 2 * (w / 2) + 1 ≡ bit_xor w 1 = omega (arith, xor_one w) in
        sym (ap (λ (x : ℤ). literal_word (neg_ℤ x)) (word_even w even) ∙ (word_of_negation (w / 2) (omega arith) ∙ up))
    go false e =
        let odd : w % 2 ≡ 0 → ⊥ = eqb-false (w % 2) 0 e in
        let down : 2 * (w / 2) ≡ bit_xor w 1 = omega (arith, xor_one w) in
        sym (ap (λ (x : ℤ). literal_word (neg_ℤ x)) (word_odd w odd) ∙ (ap literal_word (twice_negated (w / 2)) ∙ down))

-- the negation of a 31-bit number
neg_mag : (n : ℕ) → n < 2 ^ 31 → mag (neg_ℤ (pos n)) < 2 ^ 31
neg_mag zero h = lit< tt
neg_mag (suc n) h = omega arith

pub neg_fits : (n : ℕ) → n < 2 ^ 31 → SFits w32 (pos 0 -ℤ to_z w32 n)
neg_fits n h = rw (to_z_pos w32 h, +ℤ_idl (neg_ℤ (pos n))) (record { sfits = neg_mag n h })

pub neg_is : (n : ℕ) → n < 2 ^ 31 → to_z w32 (of_z w32 (pos 0 -ℤ to_z w32 n)) ≡ neg_ℤ (pos n)
neg_is n h = to_z-of_z (neg_fits n h) ∙ rw (to_z_pos w32 h, +ℤ_idl (neg_ℤ (pos n)))

-- the literal of a word names it, but for 1, which is no literal's
pub word_literal_word : (w : ℕ) → (w ≡ 1 → ⊥) → literal_word (word_literal w) ≡ w
word_literal_word w h = go (eqb (w % 2) 0) refl
  where
    go : (b : Bool) → eqb (w % 2) 0 ≡ b → literal_word (word_literal w) ≡ w
    go true e =
        let even : w % 2 ≡ 0 = eqb-true (w % 2) 0 e in
        let up : 2 * (w / 2) ≡ w = omega arith in
        ap literal_word (word_even w even) ∙ (word_of_variable (w / 2) ∙ up)
    go false e =
        let odd : w % 2 ≡ 0 → ⊥ = eqb-false (w % 2) 0 e in
        let up : 2 * (w / 2) + 1 ≡ w = omega arith in
        ap literal_word (word_odd w odd) ∙ (word_of_negation (w / 2) (omega arith) ∙ up)
