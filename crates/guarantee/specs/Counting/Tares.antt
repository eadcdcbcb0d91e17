-- The tares of the set bits of a number: where they hold they weigh at least that much, and they can be set to weigh just that.
use Rattle.std.specs.Prelude.{◌≡◌, refl, ◌≢◌, Bool, true, false, cond, List, [], ◌∷◌, ◌++◌, ℕ, suc, ◌+◌, ◌*◌, ◌/◌, ◌%◌, ◌^◌, ◌≤◌, ◌<◌, eqb, length, pos}
use Rattle.std.proofs.Common.{sym, ap, ap₂, ◌∙◌, append-nil, arith, mul_assoc, one-mul, eqb-true, eq-eqb, ne_eqb}
use Rattle.std.proofs.Math.Nat.{pow-succ'}
use Rattle.std.proofs.lemmas.Bool.{eqb-false}
use Rattle.rules.specs.Enforce.{set_tares}
use Rattle.laws.specs.Lists.Facts.{All, All_zip, All_append, All_first, All_second}
use Rattle.guarantee.specs.Meaning.Truth.{Assign, holds, pos_holds, Held}
use Rattle.guarantee.specs.Meaning.Values.{bit}
use Rattle.guarantee.specs.Counting.Chains.{tare_sum}

-- where the tares of the set bits of x hold, the tares weigh at least x
pub tares_least : (ρ : Assign) (ts : List ℕ) (x : ℕ) → x < 2 ^ length ts → Held ρ (set_tares ts x) → x ≤ tare_sum (holds ρ) ts
unfolding set_tares
tares_least ρ [] x h a = omega arith
tares_least ρ (t ∷ ts) x h a =
    go (eqb (x % 2) 1) refl (tares_least ρ ts (x / 2) (omega (arith, pow-succ' 2 (length ts))) (All_first (λ y. holds ρ y ≡ true) (set_tares ts (x / 2)) _ a))
    (All_second (λ y. holds ρ y ≡ true) (set_tares ts (x / 2)) _ a)
  where
    go : (b : Bool) → eqb (x % 2) 1 ≡ b → x / 2 ≤ tare_sum (holds ρ) ts → Held ρ (cond b (pos t ∷ []) []) → x ≤ bit (holds ρ (pos t)) + 2 * tare_sum (holds ρ) ts
    go true e ih k = let one : bit (holds ρ (pos t)) ≡ 1 = ap bit k.0 in omega arith
    go false e ih k = let even : x % 2 ≢ 1 = eqb-false (x % 2) 1 e in omega arith

-- each tare holds exactly where its bit of x is set
abbrev pub Bits : Assign → List ℕ → ℕ → Type 0
Bits ρ [] x = Unit {0}
Bits ρ (t ∷ ts) x = (holds ρ (pos t) ≡ eqb (x % 2) 1) × Bits ρ ts (x / 2)

pub tares_exact : (ρ : Assign) (ts : List ℕ) (x : ℕ) → x < 2 ^ length ts → Bits ρ ts x → (tare_sum (holds ρ) ts ≡ x) × Held ρ (set_tares ts x)
unfolding set_tares
tares_exact ρ [] x h b = (omega arith, tt)
tares_exact ρ (t ∷ ts) x h b = go (eqb (x % 2) 1) refl (tares_exact ρ ts (x / 2) (omega (arith, pow-succ' 2 (length ts))) b.1)
  where
    go : (c : Bool) → eqb (x % 2) 1 ≡ c → (tare_sum (holds ρ) ts ≡ x / 2) × Held ρ (set_tares ts (x / 2)) →
        (bit (holds ρ (pos t)) + 2 * tare_sum (holds ρ) ts ≡ x) × Held ρ (set_tares ts (x / 2) ++ cond c (pos t ∷ []) [])
    go true e ih =
        let set : holds ρ (pos t) ≡ true = b.0 ∙ e in
        let one : bit (holds ρ (pos t)) ≡ 1 = ap bit set in
        let odd : x % 2 ≡ 1 = eqb-true (x % 2) 1 e in
        (omega arith, All_append (λ y. holds ρ y ≡ true) (set_tares ts (x / 2)) (pos t ∷ []) ih.1 (set, tt))
    go false e ih =
        let none : bit (holds ρ (pos t)) ≡ 0 = ap bit (b.0 ∙ e) in
        let even : x % 2 ≢ 1 = eqb-false (x % 2) 1 e in
        (omega arith, All_append (λ y. holds ρ y ≡ true) (set_tares ts (x / 2)) [] ih.1 tt)

-- the assignment with each tare set to its bit of x
unfoldable pub tared : List ℕ → ℕ → Assign → Assign
tared [] x α y = α y
tared (t ∷ ts) x α y = cond (eqb y t) (eqb (x % 2) 1) (tared ts (x / 2) α y)

-- a variable that is no tare keeps its truth
pub tared_apart : (ts : List ℕ) (x : ℕ) (α : Assign) (y : ℕ) → All (λ t. y ≢ t) ts → tared ts x α y ≡ α y
unfolding tared
tared_apart [] x α y a = refl
tared_apart (t ∷ ts) x α y a = rw (ne_eqb y t a.0) (tared_apart ts (x / 2) α y a.1)

-- no tare twice
abbrev pub Once : List ℕ → Type 0
Once [] = Unit {0}
Once (t ∷ ts) = All (λ u. u ≢ t) ts × Once ts

bits_agree : (ρ σ : Assign) (ts : List ℕ) (x : ℕ) → All (λ t. holds ρ (pos t) ≡ holds σ (pos t)) ts → Bits σ ts x → Bits ρ ts x
bits_agree ρ σ [] x a b = tt
bits_agree ρ σ (t ∷ ts) x a b = (a.0 ∙ b.0, bits_agree ρ σ ts (x / 2) a.1 b.1)

pub tared_bits : (ts : List ℕ) (x : ℕ) (α : Assign) → Once ts → All (λ t. 1 ≤ t) ts → Bits (tared ts x α) ts x
unfolding tared
tared_bits [] x α o p = tt
tared_bits (t ∷ ts) x α o p = (
  pos_holds (tared (t ∷ ts) x α) t p.0 ∙ rw (eq-eqb t t refl),
  bits_agree (tared (t ∷ ts) x α) (tared ts (x / 2) α) ts (x / 2)
      (later ts o.0 p.1)
      (tared_bits ts (x / 2) α o.1 p.1),
)
  where
    later : (us : List ℕ) → All (λ u. u ≢ t) us → All (λ u. 1 ≤ u) us → All (λ u. holds (tared (t ∷ ts) x α) (pos u) ≡ holds (tared ts (x / 2) α) (pos u)) us
    later [] a q = tt
    later (u ∷ us) a q = (
      pos_holds (tared (t ∷ ts) x α) u q.0 ∙ (rw (ne_eqb u t a.0) refl ∙ sym (pos_holds (tared ts (x / 2) α) u q.0)),
      later us a.1 q.1,
    )

-- another truth that agrees on the tares
pub bits_same : (ρ σ : Assign) (ts : List ℕ) (x : ℕ) → All (λ t. ρ t ≡ σ t) ts → All (λ t. 1 ≤ t) ts → Bits σ ts x → Bits ρ ts x
bits_same ρ σ ts x a p b = bits_agree ρ σ ts x (All_zip (λ t e q. pos_holds ρ t q ∙ (e ∙ sym (pos_holds σ t q))) ts a p) b

-- tares below that were added since count nothing: the answer's tares are those of the number shifted up
pub set_tares_above : (front ts : List ℕ) (x : ℕ) → set_tares (front ++ ts) (2 ^ length front * x) ≡ set_tares ts x
unfolding set_tares
set_tares_above [] ts x = ap (set_tares ts) (one-mul x)
set_tares_above (t ∷ front) ts x =
    let y : ℕ = 2 ^ length front * x in
    let twice : 2 ^ suc (length front) * x ≡ 2 * y = rw pow-succ' (mul_assoc 2 (2 ^ length front) x) in
    let even : 2 * y % 2 ≢ 1 = omega arith in
    let half : 2 * y / 2 ≡ y = omega arith in
    ap (set_tares (t ∷ (front ++ ts))) twice ∙
    (ap₂ (λ (z : ℕ) (c : Bool). set_tares (front ++ ts) z ++ cond c (pos t ∷ []) []) half (ne_eqb (2 * y % 2) 1 even) ∙
    (append-nil (set_tares (front ++ ts) y) ∙ set_tares_above front ts x))
