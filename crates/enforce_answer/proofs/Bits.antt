-- How many tares the set bits have.
use mathlib.Core.Path.{◌≡◌, refl, ap, ◌∙◌}
use mathlib.Core.Bool.{Bool, true, false, cond}
use mathlib.Core.List.{List, [], ◌∷◌}
use Prim.Native.Nat.{ℕ, suc, ◌+◌, ◌/◌, ◌%◌}
use native.Mathlib.Omega.{arith}
use lib.Dec.{eqb}
use lib.ListN.{length, length-append}
use lib.IntN.{pos}
use borrow.Author.Tests.{eqb-true, eqb-false}
use Rattle.rules.specs.Enforce.{set_tares}
use Rattle.enforce_answer.specs.Tares.{bits}

-- as many tares as set bits
tares_bits : (ts : List ℕ) (x : ℕ) → length (set_tares ts x) ≡ bits (length ts) x
unfolding set_tares bits
tares_bits [] x = refl
tares_bits (t ∷ ts) x =
    length-append (set_tares ts (x / 2)) (cond (eqb (x % 2) 1) (pos t ∷ []) []) ∙
    go (eqb (x % 2) 1) refl (length (set_tares ts (x / 2))) (bits (length ts) (x / 2)) (tares_bits ts (x / 2))
  where
    go : (b : Bool) → eqb (x % 2) 1 ≡ b → (m n : ℕ) → m ≡ n → m + length (cond b (pos t ∷ []) []) ≡ x % 2 + n
    go true e m n q = let o : x % 2 ≡ 1 = eqb-true (x % 2) 1 e in omega arith
    go false e m n q = let o : x % 2 ≡ 1 → ⊥ = eqb-false (x % 2) 1 e in omega arith

-- the bits counted and those left
pub bits_on : (n k j x all : ℕ) → k ≡ suc j → n + bits k x ≡ all → n + x % 2 + bits j (x / 2) ≡ all
unfolding bits
bits_on n k j x all h e = omega (arith, ap (λ (m : ℕ). bits m x) h)

pub bits_end : (n k x y used : ℕ) → k ≡ 0 → n + bits k x ≡ bits used y → (ts : List ℕ) → length ts ≡ used → n ≡ length (set_tares ts y)
unfolding bits
bits_end n k x y used z e ts l =
    let none : bits k x ≡ 0 = ap (λ (m : ℕ). bits m x) z in
    let all : length (set_tares ts y) ≡ bits used y = tares_bits ts y ∙ ap (λ (m : ℕ). bits m y) l in
    omega arith
