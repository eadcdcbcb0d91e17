-- What std says of a chain of iterators, in the words of the rules.
use mathlib.Core.Path.{◌≡◌, refl, sym, ap, ap₂, ◌∙◌}
use mathlib.Core.Bool.{Bool, true, false, ◌&&◌, ◌||◌}
use mathlib.Core.List.{List, [], ◌∷◌}
use Prim.Native.Nat.{ℕ, zero, suc, ◌+◌, ◌-◌}
use native.Mathlib.Omega.{arith}
use lib.Dec.{eqb}
use lib.ListN.{length, get_or, drop, drop_of_length-le}
use lib.Seq.{drop-cons}
use borrow.Author.Tests.{eqb-true, eqb-false, eq-eqb, ne_eqb}
use Rattle.std.specs.List.{list_all, list_any, range_with_len}
use Rattle.rules.specs.Lists.{all, any, among, rising}

-- tests that agree, over a list
pub all_is : {A : Type 0} (p q : A → Bool) → ((x : A) → p x ≡ q x) → (xs : List A) → list_all p xs ≡ all q xs
unfolding all
all_is p q h [] = refl
all_is p q h (x ∷ xs) = ap₂ (λ (a b : Bool). a && b) (h x) (all_is p q h xs)

pub any_is : {A : Type 0} (p q : A → Bool) → ((x : A) → p x ≡ q x) → (xs : List A) → list_any p xs ≡ any q xs
unfolding any
any_is p q h [] = refl
any_is p q h (x ∷ xs) = ap₂ (λ (a b : Bool). a || b) (h x) (any_is p q h xs)

-- the numbers of a range
pub range_is : (n k : ℕ) → range_with_len k n ≡ rising n k
unfolding rising
range_is zero k = refl
range_is (suc n) k =
    let up : k + 1 ≡ suc k = omega arith in
    ap (λ (j : ℕ). k ∷ range_with_len j n) up ∙ ap (λ (xs : List ℕ). k ∷ xs) (range_is n (suc k))

pub eqb_turned : (a b : ℕ) → eqb a b ≡ eqb b a
eqb_turned a b = go (eqb b a) refl
  where
    go : (t : Bool) → eqb b a ≡ t → eqb a b ≡ t
    go true e = eq-eqb a b (sym (eqb-true b a e))
    go false e = ne_eqb a b (λ q. eqb-false b a e (sym q))

-- a number that a slice contains
pub contains_is : (xs : List ℕ) (n : ℕ) → list_any (λ y. eqb y n) xs ≡ among xs n
unfolding among
contains_is xs n = any_is (λ y. eqb y n) (eqb n) (λ y. eqb_turned y n) xs

-- a test of the numbers of a range
pub range_all : (p : ℕ → Bool) (n k : ℕ) → list_all p (range_with_len k n) ≡ all p (rising n k)
range_all p n k = all_is p p (λ i. refl) (range_with_len k n) ∙ ap (all p) (range_is n k)

-- what asks each element and what stands after it, by places
module _ {A : Type 0} (F : List A → Bool) (t : A → List A → Bool) (step : (y : A) (ys : List A) → F (y ∷ ys) ≡ (t y ys && F ys)) (none : F [] ≡ true) (d : A) (xs : List A) where
  along : (n k : ℕ) → length xs - k ≡ n → list_all (λ i. t (get_or xs i d) (drop (i + 1) xs)) (range_with_len k n) ≡ F (drop k xs)
  along zero k e = sym (ap F (drop_of_length-le xs (omega arith)) ∙ none)
  along (suc n) k e =
      let up : k + 1 ≡ suc k = omega arith in
      ap (λ (j : ℕ). t (get_or xs k d) (drop (k + 1) xs) && list_all (λ i. t (get_or xs i d) (drop (i + 1) xs)) (range_with_len j n)) up ∙
      (ap (λ (b : Bool). t (get_or xs k d) (drop (k + 1) xs) && b) (along n (suc k) (omega arith)) ∙
      (ap (λ (j : ℕ). t (get_or xs k d) (drop j xs) && F (drop (suc k) xs)) up ∙
      sym (ap F (drop-cons xs k d (omega arith)) ∙ step (get_or xs k d) (drop (suc k) xs))))

  pub range_along : (n : ℕ) → n ≡ length xs → list_all (λ i. t (get_or xs i d) (drop (i + 1) xs)) (range_with_len 0 n) ≡ F xs
  range_along n e = along n 0 (omega arith)

-- a search of the elements from k on, by their places
module _ {A : Type 0} (p : A → Bool) (d : A) (xs : List A) where
  places_any : (n k : ℕ) → length xs - k ≡ n → list_any (λ i. p (get_or xs i d)) (range_with_len k n) ≡ any p (drop k xs)
  unfolding any
  places_any zero k e = sym (ap (any p) (drop_of_length-le xs (omega arith)))
  places_any (suc n) k e =
      let up : k + 1 ≡ suc k = omega arith in
      ap (λ (j : ℕ). p (get_or xs k d) || list_any (λ i. p (get_or xs i d)) (range_with_len j n)) up ∙
      (ap (λ (b : Bool). p (get_or xs k d) || b) (places_any n (suc k) (omega arith)) ∙ sym (ap (any p) (drop-cons xs k d (omega arith))))

  pub range_any : (n k : ℕ) → n ≡ length xs → list_any (λ i. p (get_or xs i d)) (range_with_len k (n - k)) ≡ any p (drop k xs)
  range_any n k e = places_any (n - k) k (omega arith)
