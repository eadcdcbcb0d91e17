-- The value of a node, over nodes that are by the totalizer rule.
use Rattle.std.specs.Prelude.{◌≡◌, Bool, true, false, ℤ}
use Rattle.std.proofs.Math.Path.{refl, sym, ap, ap₂}
use Rattle.std.proofs.Common.{◌∙◌}
use Prim.Native.Nat.{ℕ, zero, suc, ◌+◌, ◌≤◌, ◌<◌, max}
use native.Mathlib.Omega.{arith}
use Rattle.rules.specs.Records.{Kind, leaf, join, dummy, Node}
use Rattle.rules.specs.Totalizer.{counts}
use Rattle.laws.specs.Numbers.Halving.{counts_mono}
use Rattle.laws.specs.WellFormed.Plain.{Sound}
use Rattle.guarantee.specs.Meaning.Truth.{Truths}

-- a truth value as a number
abbrev pub bit : Bool → ℕ
bit true = 1
bit false = 0

-- the value of a kind, where f gives the values of its links
unfoldable pub value_of : (ℕ → ℕ) → Truths → Kind → ℕ
value_of f t (leaf x) = bit (t x)
value_of f t (join half l r) = f l + counts half (f r)
value_of f t dummy = 0

-- the value of a node, by fuel
unfoldable pub value_by : (ℕ → Node) → Truths → ℕ → ℕ → ℕ
unfolding value_of
value_by at t zero n = 0
value_by at t (suc k) n = value_of (value_by at t k) t (at n).kind

-- a leaf counts 1 where its literal is true, a join its left plus its right, a halved side half rounded down; the height is fuel enough
unfoldable pub value : (ℕ → Node) → Truths → ℕ → ℕ
unfolding value_by
value at t n = value_by at t (suc (at n).height) n

bit_le : (b : Bool) → bit b ≤ 1
bit_le true = omega arith
bit_le false = omega arith

module _ (at : ℕ → Node) (place : ℕ → Bool) (sound : Sound at place) where
  fuel_kind : (t : Truths) (k k' : ℕ) → ((m : ℕ) → (at m).height < k → (at m).height < k' → value_by at t k m ≡ value_by at t k' m) →
      (n : ℕ) (kd : Kind) → (at n).kind ≡ kd → (at n).height ≤ k → (at n).height ≤ k' →
      value_of (value_by at t k) t kd ≡ value_of (value_by at t k') t kd
  unfolding value_of
  fuel_kind t k k' ih n (leaf x) e p q = refl
  fuel_kind t k k' ih n (join half l r) e p q =
      let h : (at n).height ≡ suc (max (at l).height (at r).height) = (sound n).height_is half l r e in
      ap₂ (λ x y. x + counts half y) (ih l (omega arith) (omega arith)) (ih r (omega arith) (omega arith))
  fuel_kind t k k' ih n dummy e p q = refl

  -- any fuel above the height gives the same
  pub fuel : (t : Truths) (k k' n : ℕ) → (at n).height < k → (at n).height < k' → value_by at t k n ≡ value_by at t k' n
  unfolding value_by
  fuel t zero k' n p q = absurd (omega arith)
  fuel t (suc k) zero n p q = absurd (omega arith)
  fuel t (suc k) (suc k') n p q = fuel_kind t k k' (fuel t k k') n (at n).kind refl (omega arith) (omega arith)

  -- the equations of a value
  pub value_leaf : (t : Truths) (n : ℕ) (x : ℤ) → (at n).kind ≡ leaf x → value at t n ≡ bit (t x)
  unfolding value value_of
  value_leaf t n x e = ap (value_of (value_by at t (at n).height) t) e

  pub value_dummy : (t : Truths) (n : ℕ) → (at n).kind ≡ dummy → value at t n ≡ 0
  unfolding value value_of
  value_dummy t n e = ap (value_of (value_by at t (at n).height) t) e

  pub value_join : (t : Truths) (n : ℕ) (half : Bool) (l r : ℕ) → (at n).kind ≡ join half l r → value at t n ≡ value at t l + counts half (value at t r)
  unfolding value value_of
  value_join t n half l r e =
      let k : ℕ = (at n).height in
      let h : (at n).height ≡ suc (max (at l).height (at r).height) = (sound n).height_is half l r e in
      ap (value_of (value_by at t k) t) e ∙
      ap₂ (λ x y. x + counts half y)
      (fuel t k (suc (at l).height) l (omega arith) (omega arith))
      (fuel t k (suc (at r).height) r (omega arith) (omega arith))

  most_kind : (t : Truths) (k : ℕ) → ((m : ℕ) → value_by at t k m ≤ (at m).maximum) →
      (n : ℕ) (kd : Kind) → (at n).kind ≡ kd → value_of (value_by at t k) t kd ≤ (at n).maximum
  unfolding value_of
  most_kind t k ih n (leaf x) e = omega (arith, bit_le (t x), ((sound n).leaf_is x e).1)
  most_kind t k ih n (join half l r) e =
      omega (arith, ih l, counts_mono half (value_by at t k r) (at r).maximum (ih r), (sound n).maximum_is half l r e)
  most_kind t k ih n dummy e = omega arith

  most_by : (t : Truths) (k n : ℕ) → value_by at t k n ≤ (at n).maximum
  unfolding value_by
  most_by t zero n = omega arith
  most_by t (suc k) n = most_kind t k (most_by t k) n (at n).kind refl

  -- a value is at most the maximum
  pub value_most : (t : Truths) (n : ℕ) → value at t n ≤ (at n).maximum
  unfolding value
  value_most t n = most_by t (suc (at n).height) n

  all_kind : (k : ℕ) → ((m : ℕ) → (at m).height < k → value_by at (λ x. true) k m ≡ (at m).maximum) →
      (n : ℕ) (kd : Kind) → (at n).kind ≡ kd → (at n).height ≤ k → value_of (value_by at (λ x. true) k) (λ x. true) kd ≡ (at n).maximum
  unfolding value_of
  all_kind k ih n (leaf x) e p = sym ((sound n).leaf_is x e).1
  all_kind k ih n (join half l r) e p =
      let h : (at n).height ≡ suc (max (at l).height (at r).height) = (sound n).height_is half l r e in
      ap₂ (λ x y. x + counts half y) (ih l (omega arith)) (ih r (omega arith)) ∙ sym ((sound n).maximum_is half l r e)
  all_kind k ih n dummy e p = sym ((sound n).dummy_is e).0

  all_by : (k n : ℕ) → (at n).height < k → value_by at (λ x. true) k n ≡ (at n).maximum
  unfolding value_by
  all_by zero n p = absurd (omega arith)
  all_by (suc k) n p = all_kind k (all_by k) n (at n).kind refl (omega arith)

  -- it is the maximum where every literal is true
  pub value_all : (n : ℕ) → value at (λ x. true) n ≡ (at n).maximum
  unfolding value
  value_all n = all_by (suc (at n).height) n (omega arith)

-- values depend on the leaves' literals alone
agree_kind : (at : ℕ → Node) (t t' : Truths) → ((n : ℕ) (x : ℤ) → (at n).kind ≡ leaf x → t x ≡ t' x) →
    (k : ℕ) → ((m : ℕ) → value_by at t k m ≡ value_by at t' k m) →
    (n : ℕ) (kd : Kind) → (at n).kind ≡ kd → value_of (value_by at t k) t kd ≡ value_of (value_by at t' k) t' kd
unfolding value_of
agree_kind at t t' same k ih n (leaf x) e = ap bit (same n x e)
agree_kind at t t' same k ih n (join half l r) e = ap₂ (λ x y. x + counts half y) (ih l) (ih r)
agree_kind at t t' same k ih n dummy e = refl

agree_by : (at : ℕ → Node) (t t' : Truths) → ((n : ℕ) (x : ℤ) → (at n).kind ≡ leaf x → t x ≡ t' x) → (k n : ℕ) → value_by at t k n ≡ value_by at t' k n
unfolding value_by
agree_by at t t' same zero n = refl
agree_by at t t' same (suc k) n = agree_kind at t t' same k (agree_by at t t' same k) n (at n).kind refl

pub value_agree : (at : ℕ → Node) (t t' : Truths) → ((n : ℕ) (x : ℤ) → (at n).kind ≡ leaf x → t x ≡ t' x) → (n : ℕ) → value at t n ≡ value at t' n
unfolding value
value_agree at t t' same n = agree_by at t t' same (suc (at n).height) n
