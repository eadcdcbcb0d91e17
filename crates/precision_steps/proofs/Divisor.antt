-- A divisor set: its three refusals in their order.
use mathlib.Core.Path.{◌≡◌, refl, sym, ap, ap₂, ◌∙◌}
use mathlib.Core.Bool.{Bool, true, false}
use mathlib.Core.List.{[], ◌∷◌}
use Prim.Native.Nat.{ℕ, zero, suc, max}
use native.Mathlib.Omega.{arith}
use Rattle.rules.specs.declared.State.{State}
use Rattle.rules.specs.Numbers.{divisor_of}
use Rattle.std.specs.Prelude.{Result, Ok, Err, ⊤}
use Rattle.rules.specs.declared.Refusal.{Refusal}
use Rattle.rules.specs.declared.Refusal.TheVariants.{NotWellFormed, DivisorUnlawful, DivisorCoarser}
use Rattle.rules.specs.Refusals.{first_true, answer_of, refusal_of, refusals}
use Rattle.rules.specs.Precision.{set_end, with_set}

-- 0 is taken as 1
pub divisor_most : (d : ℕ) → max d 1 ≡ divisor_of d
unfolding divisor_of
divisor_most zero = refl
divisor_most (suc d) = omega arith

-- the tests in turn
module _ (x y z : Bool) where
  pub set_12 : x ≡ true → Err NotWellFormed ≡ answer_of (first_true ((12, x) ∷ (8, y) ∷ (9, z) ∷ []))
  unfolding first_true answer_of refusal_of refusals
  set_12 e = sym (ap (λ (a : Bool). answer_of (first_true ((12, a) ∷ (8, y) ∷ (9, z) ∷ []))) e)

  pub set_8 : x ≡ false → y ≡ true → Err DivisorUnlawful ≡ answer_of (first_true ((12, x) ∷ (8, y) ∷ (9, z) ∷ []))
  unfolding first_true answer_of refusal_of refusals
  set_8 e f = sym (ap₂ (λ (a b : Bool). answer_of (first_true ((12, a) ∷ (8, b) ∷ (9, z) ∷ []))) e f)

  past : (c : Bool) → x ≡ false → y ≡ false → z ≡ c → answer_of (first_true ((12, false) ∷ (8, false) ∷ (9, c) ∷ [])) ≡ answer_of (first_true ((12, x) ∷ (8, y) ∷ (9, z) ∷ []))
  past c e f g =
      sym (ap₂ (λ (a b : Bool). answer_of (first_true ((12, a) ∷ (8, b) ∷ (9, z) ∷ []))) e f ∙
      ap (λ (c : Bool). answer_of (first_true ((12, false) ∷ (8, false) ∷ (9, c) ∷ []))) g)

  pub set_9 : x ≡ false → y ≡ false → z ≡ true → Err DivisorCoarser ≡ answer_of (first_true ((12, x) ∷ (8, y) ∷ (9, z) ∷ []))
  unfolding first_true answer_of refusal_of refusals
  set_9 e f g = past true e f g

  pub set_0 : x ≡ false → y ≡ false → z ≡ false → Ok tt ≡ answer_of (first_true ((12, x) ∷ (8, y) ∷ (9, z) ∷ []))
  unfolding first_true answer_of
  set_0 e f g = past false e f g

-- the state beside the answer
pub set_made : (s : State) (d n k : ℕ) (a : Result ⊤ Refusal) → a ≡ answer_of n → a ≡ Ok tt → k ≡ divisor_of d → record { answer = a; state = with_set s k } ≡ set_end n s d
unfolding answer_of set_end
set_made s d zero k a e o f = rw (e, f) refl
set_made s d (suc n) k a e o f = absurd (cc)

pub set_kept : (s : State) (d n : ℕ) (r : Refusal) (a : Result ⊤ Refusal) → a ≡ answer_of n → a ≡ Err r → record { answer = a; state = s } ≡ set_end n s d
unfolding answer_of set_end
set_kept s d zero r a e o = absurd (cc)
set_kept s d (suc n) r a e o = rw e refl
