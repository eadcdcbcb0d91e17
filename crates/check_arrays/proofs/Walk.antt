-- The tests of lists as tests of places, walks along a list, and conditions in turn.
use mathlib.Core.Path.{◌≡◌, refl, sym, ap, ap₂, ◌∙◌}
use mathlib.Core.Bool.{Bool, true, false, ◌&&◌, ◌||◌, false≢true}
use mathlib.Core.List.{List, [], ◌∷◌}
use Prim.Native.Nat.{ℕ, zero, suc, ◌+◌, ◌≤◌, ◌<◌}
use native.Mathlib.Omega.{arith}
use lib.ListN.{length, get_or, drop, drop_of_length-le}
use lib.Seq.{drop-cons}
use Rattle.rules.specs.Lists.{all, rising}

-- two tests that hold together are equal
pub same_truth : (a b : Bool) → (a ≡ true → b ≡ true) → (b ≡ true → a ≡ true) → a ≡ b
same_truth true b f g = sym (f refl)
same_truth false true f g = absurd (false≢true (g refl))
same_truth false false f g = refl

pub and_false : (a b : Bool) → b ≡ false → (a && b) ≡ false
and_false true b e = e
and_false false b e = refl

-- places one later
pub all_later : (p : ℕ → Bool) (n k : ℕ) → all p (rising n (suc k)) ≡ all (λ i. p (suc i)) (rising n k)
unfolding all rising
all_later p zero k = refl
all_later p (suc n) k = ap (λ (b : Bool). p (suc k) && b) (all_later p n (suc k))

-- a test of a list is one of its places
pub all_places : {A : Type 0} (p : A → Bool) (d : A) (xs : List A) → all (λ i. p (get_or xs i d)) (rising (length xs) 0) ≡ all p xs
unfolding all rising
all_places p d [] = refl
all_places p d (x ∷ xs) =
    ap (λ (b : Bool). p x && b) (all_later (λ i. p (get_or (x ∷ xs) i d)) (length xs) 0 ∙ all_places p d xs)

-- tests that agree at every place
pub all_same : (p q : ℕ → Bool) (n k : ℕ) → ((i : ℕ) → k ≤ i → i < k + n → p i ≡ q i) → all p (rising n k) ≡ all q (rising n k)
unfolding all rising
all_same p q zero k h = refl
all_same p q (suc n) k h =
    ap₂ (λ (a b : Bool). a && b) (h k (omega arith) (omega arith)) (all_same p q n (suc k) (λ i a b. h i (omega arith) (omega arith)))

-- two tests of a list
pub all_both : {A : Type 0} (p q : A → Bool) (xs : List A) → all (λ x. p x && q x) xs ≡ (all p xs && all q xs)
unfolding all
all_both p q [] = refl
all_both p q (x ∷ xs) = ap (λ (b : Bool). (p x && q x) && b) (all_both p q xs) ∙ go (p x) (q x) (all p xs) (all q xs)
  where
    go : (a b c d : Bool) → ((a && b) && (c && d)) ≡ ((a && c) && (b && d))
    go true true c d = refl
    go true false true d = refl
    go true false false d = refl
    go false b c d = refl

-- a walk along a list whose test asks each element and what stands after it
module _ {A : Type 0} (F : List A → Bool) (t : A → List A → Bool) (step : (y : A) (ys : List A) → F (y ∷ ys) ≡ (t y ys && F ys)) (none : F [] ≡ true)
    (d : A) (xs : List A) (i : ℕ) (x : Bool) (e : F (drop i xs) ≡ x) where
  from : i < length xs → F (drop i xs) ≡ (t (get_or xs i d) (drop (i + 1) xs) && F (drop (i + 1) xs))
  from h =
      let up : suc i ≡ i + 1 = omega arith in
      ap F (drop-cons xs i d h) ∙ (step (get_or xs i d) (drop (suc i) xs) ∙ ap (λ (j : ℕ). t (get_or xs i d) (drop j xs) && F (drop j xs)) up)

  pub along_on : i < length xs → t (get_or xs i d) (drop (i + 1) xs) ≡ true → F (drop (i + 1) xs) ≡ x
  along_on h p = sym (from h ∙ ap (λ (b : Bool). b && F (drop (i + 1) xs)) p) ∙ e

  pub along_stop : i < length xs → t (get_or xs i d) (drop (i + 1) xs) ≡ false → false ≡ x
  along_stop h p = sym (from h ∙ ap (λ (b : Bool). b && F (drop (i + 1) xs)) p) ∙ e

  pub along_end : length xs ≤ i → true ≡ x
  along_end h = sym (ap F (drop_of_length-le xs h) ∙ none) ∙ e

-- `a && b`, as a branch decides it: a is the test p, and b, where it is asked, the test q
pub then_and : (p q : Bool) {a x : Bool} → a ≡ p → a ≡ true → x ≡ q → x ≡ (p && q)
then_and p q e t f = f ∙ ap (λ (b : Bool). b && q) (sym t ∙ e)

pub else_and : (p q : Bool) {a : Bool} → a ≡ p → a ≡ false → a ≡ (p && q)
else_and p q e f = f ∙ ap (λ (b : Bool). b && q) (sym f ∙ e)

-- `a || b`, likewise
pub then_or : (p q : Bool) {a : Bool} → a ≡ p → a ≡ true → a ≡ (p || q)
then_or p q e t = t ∙ ap (λ (b : Bool). b || q) (sym t ∙ e)

pub else_or : (p q : Bool) {a x : Bool} → a ≡ p → a ≡ false → x ≡ q → x ≡ (p || q)
else_or p q e f g = g ∙ ap (λ (b : Bool). b || q) (sym f ∙ e)
