-- Facts of lists: of every element, of sums, of how often a number stands in one.
use Rattle.std.specs.Prelude.{◌≡◌, ◌≢◌, Bool, cond, ◌&&◌, ◌||◌, eqb, length, get_or, set, drop}
use Rattle.std.proofs.Math.Path.{refl, ap₂}
use Rattle.std.proofs.Common.{sym, ap, eqb-true, eq-eqb, ne_eqb}
use Rattle.std.proofs.Math.Bool.{true, false, not}
use Rattle.std.proofs.lemmas.Bool.{false≢true, eqb-false}
use mathlib.Core.List.{List, [], ◌∷◌, ◌++◌, map}
use Prim.Native.Nat.{ℕ, zero, suc, ◌+◌, ◌≤◌, ◌<◌}
use native.Mathlib.Omega.{arith}
use Rattle.rules.specs.Lists.{all, keep, total, rising}
use Rattle.laws.specs.Records.Words.{both}

-- tests that both hold
pub and_true : {a b : Bool} → a ≡ true → b ≡ true → (a && b) ≡ true
and_true {a = true} p q = q
and_true {a = false} p q = absurd (false≢true p)

-- one of two tests holds
pub or_left : (a b : Bool) → a ≡ true → (a || b) ≡ true
or_left true b e = refl
or_left false b e = absurd (false≢true e)

pub or_right : (a b : Bool) → b ≡ true → (a || b) ≡ true
or_right true b e = refl
or_right false b e = e

-- neither of two tests holds
pub neither : (a b : Bool) → (a || b) ≡ false → (a ≡ false) × (b ≡ false)
neither false b e = (refl, e)
neither true b e = absurd (false≢true (sym e))

pub not_not : (a : Bool) → not a ≡ false → a ≡ true
not_not true e = refl
not_not false e = absurd (false≢true (sym e))

pub not_yes : (a : Bool) → not a ≡ true → a ≡ false
not_yes false e = refl
not_yes true e = absurd (false≢true e)

module _ {A : Type 0} where
  -- a fact of every element
  abbrev pub All : (A → Type 0) → List A → Type 0
  All P [] = Unit {0}
  All P (x ∷ xs) = P x × All P xs

  pub All_map : {P Q : A → Type 0} → ((x : A) → P x → Q x) → (xs : List A) → All P xs → All Q xs
  All_map f [] h = tt
  All_map f (x ∷ xs) h = (f x h.0, All_map f xs h.1)

  pub All_zip : {P Q R : A → Type 0} → ((x : A) → P x → Q x → R x) → (xs : List A) → All P xs → All Q xs → All R xs
  All_zip f [] h k = tt
  All_zip f (x ∷ xs) h k = (f x h.0 k.0, All_zip f xs h.1 k.1)

  pub All_make : (P : A → Type 0) → ((x : A) → P x) → (xs : List A) → All P xs
  All_make P f [] = tt
  All_make P f (x ∷ xs) = (f x, All_make P f xs)

  pub All_append : (P : A → Type 0) (xs ys : List A) → All P xs → All P ys → All P (xs ++ ys)
  All_append P [] ys h k = k
  All_append P (x ∷ xs) ys h k = (h.0, All_append P xs ys h.1 k)

  pub All_first : (P : A → Type 0) (xs ys : List A) → All P (xs ++ ys) → All P xs
  All_first P [] ys h = tt
  All_first P (x ∷ xs) ys h = (h.0, All_first P xs ys h.1)

  pub All_second : (P : A → Type 0) (xs ys : List A) → All P (xs ++ ys) → All P ys
  All_second P [] ys h = h
  All_second P (x ∷ xs) ys h = All_second P xs ys h.1

  pub All_get_or : (P : A → Type 0) (xs : List A) (i : ℕ) (d : A) → All P xs → P d → P (get_or xs i d)
  All_get_or P [] i d h k = k
  All_get_or P (x ∷ xs) zero d h k = h.0
  All_get_or P (x ∷ xs) (suc i) d h k = All_get_or P xs i d h.1 k

  pub All_set : (P : A → Type 0) (xs : List A) (i : ℕ) (a : A) → All P xs → P a → All P (set xs i a)
  All_set P [] i a h k = tt
  All_set P (x ∷ xs) zero a h k = (k, h.1)
  All_set P (x ∷ xs) (suc i) a h k = (h.0, All_set P xs i a h.1 k)

  pub All_drop : (P : A → Type 0) (i : ℕ) (xs : List A) → All P xs → All P (drop i xs)
  All_drop P zero xs h = h
  All_drop P (suc i) [] h = tt
  All_drop P (suc i) (x ∷ xs) h = All_drop P i xs h.1

  pub All_keep : (P : A → Type 0) (p : A → Bool) (xs : List A) → All P xs → All P (keep p xs)
  unfolding keep
  All_keep P p [] h = tt
  All_keep P p (x ∷ xs) h = go (p x) (All_keep P p xs h.1)
    where
      go : (b : Bool) → All P (keep p xs) → All P (cond b (x ∷ keep p xs) (keep p xs))
      go true r = (h.0, r)
      go false r = r

  -- a test of every element, and the fact that it decides
  pub all_facts : {P : A → Type 0} (p : A → Bool) → ((x : A) → p x ≡ true → P x) → (xs : List A) → all p xs ≡ true → All P xs
  unfolding all
  all_facts p f [] e = tt
  all_facts p f (x ∷ xs) e =
      let (here, rest) = both (p x) (all p xs) e in
      (f x here, all_facts p f xs rest)

  pub facts_all : {P : A → Type 0} (p : A → Bool) → ((x : A) → P x → p x ≡ true) → (xs : List A) → All P xs → all p xs ≡ true
  unfolding all
  facts_all p f [] h = refl
  facts_all p f (x ∷ xs) h = and_true (f x h.0) (facts_all p f xs h.1)

  -- a sum over a list
  pub total_append : (f : A → ℕ) (xs ys : List A) → total (map f (xs ++ ys)) ≡ total (map f xs) + total (map f ys)
  unfolding total
  total_append f [] ys = omega arith
  total_append f (x ∷ xs) ys = omega (arith, total_append f xs ys)

  pub total_cong : (f g : A → ℕ) (xs : List A) → All (λ x. f x ≡ g x) xs → total (map f xs) ≡ total (map g xs)
  unfolding total
  total_cong f g [] h = refl
  total_cong f g (x ∷ xs) h = ap₂ ◌+◌ h.0 (total_cong f g xs h.1)

  pub total_le : (f g : A → ℕ) (xs : List A) → All (λ x. f x ≤ g x) xs → total (map f xs) ≤ total (map g xs)
  unfolding total
  total_le f g [] h = omega arith
  total_le f g (x ∷ xs) h = omega (arith, h.0, total_le f g xs h.1)

  -- the elements that pass a test and the others add to all
  pub total_keep : (f : A → ℕ) (p : A → Bool) (xs : List A) →
      total (map f xs) ≡ total (map f (keep p xs)) + total (map f (keep (λ x. not (p x)) xs))
  unfolding total keep
  total_keep f p [] = refl
  total_keep f p (x ∷ xs) = go (p x) (total_keep f p xs)
    where
      go : (b : Bool) → total (map f xs) ≡ total (map f (keep p xs)) + total (map f (keep (λ x. not (p x)) xs)) →
          f x + total (map f xs) ≡ total (map f (cond b (x ∷ keep p xs) (keep p xs))) + total
          (map f (cond (not b) (x ∷ keep (λ x. not (p x)) xs) (keep (λ x. not (p x)) xs)))
      go true ih = omega arith
      go false ih = omega arith

  -- a length is a sum of ones
  pub length_total : (xs : List A) → length xs ≡ total (map (λ (x : A). 1) xs)
  unfolding total
  length_total [] = refl
  length_total (x ∷ xs) = omega (arith, length_total xs)

pub map_append : {A B : Type 0} (f : A → B) (xs ys : List A) → map f (xs ++ ys) ≡ map f xs ++ map f ys
map_append f [] ys = refl
map_append {B = B} f (x ∷ xs) ys = ap (λ (t : List B). f x ∷ t) (map_append f xs ys)

-- facts of the images
pub All_image : {A B : Type 0} (P : B → Type 0) (f : A → B) (xs : List A) → All (λ x. P (f x)) xs → All P (map f xs)
All_image P f [] h = tt
All_image P f (x ∷ xs) h = (h.0, All_image P f xs h.1)

pub All_source : {A B : Type 0} (P : B → Type 0) (f : A → B) (xs : List A) → All P (map f xs) → All (λ x. P (f x)) xs
All_source P f [] h = tt
All_source P f (x ∷ xs) h = (h.0, All_source P f xs h.1)

-- facts of rising numbers
pub All_rising : (P : ℕ → Type 0) (n k : ℕ) → ((i : ℕ) → k ≤ i → i < k + n → P i) → All P (rising n k)
unfolding rising
All_rising P zero k h = tt
All_rising P (suc n) k h = (h k (omega arith) (omega arith), All_rising P n (suc k) (λ i a b. h i (omega arith) (omega arith)))

pub rising_at : (P : ℕ → Type 0) (n k : ℕ) → All P (rising n k) → (i : ℕ) → k ≤ i → i < k + n → P i
unfolding rising
rising_at P zero k h i a b = absurd (omega arith)
rising_at P (suc n) k h i a b = go (eqb i k) refl (λ ne. rising_at P n (suc k) h.1 i (omega arith) (omega arith))
  where
    go : (t : Bool) → eqb i k ≡ t → (i ≢ k → P i) → P i
    go true e ih = rw (eqb-true i k e) h.0
    go false e ih = ih (eqb-false i k e)

-- how often n stands in a list
unfoldable pub occurs : ℕ → List ℕ → ℕ
occurs n [] = 0
occurs n (x ∷ xs) = cond (eqb n x) (suc (occurs n xs)) (occurs n xs)

pub occurs_append : (n : ℕ) (xs ys : List ℕ) → occurs n (xs ++ ys) ≡ occurs n xs + occurs n ys
unfolding occurs
occurs_append n [] ys = omega arith
occurs_append n (x ∷ xs) ys = go (eqb n x) (occurs_append n xs ys)
  where
    go : (b : Bool) → occurs n (xs ++ ys) ≡ occurs n xs + occurs n ys →
        cond b (suc (occurs n (xs ++ ys))) (occurs n (xs ++ ys)) ≡ cond b (suc (occurs n xs)) (occurs n xs) + occurs n ys
    go true ih = omega arith
    go false ih = ih

pub occurs_here : (n x : ℕ) (xs : List ℕ) → n ≡ x → occurs n (x ∷ xs) ≡ suc (occurs n xs)
unfolding occurs
occurs_here n x xs e = rw (eq-eqb n x e) refl

pub occurs_other : (n x : ℕ) (xs : List ℕ) → n ≢ x → occurs n (x ∷ xs) ≡ occurs n xs
unfolding occurs
occurs_other n x xs e = rw (ne_eqb n x e) refl

-- a longer list has it no less often
pub occurs_more : (n x : ℕ) (xs : List ℕ) → occurs n xs ≤ occurs n (x ∷ xs)
unfolding occurs
occurs_more n x xs = go (eqb n x)
  where
    go : (b : Bool) → occurs n xs ≤ cond b (suc (occurs n xs)) (occurs n xs)
    go true = omega arith
    go false = omega arith

-- a number that stands in no list of this kind
pub occurs_none : (P : ℕ → Type 0) (n : ℕ) (xs : List ℕ) → All P xs → (P n → ⊥) → occurs n xs ≡ 0
unfolding occurs
occurs_none P n [] h k = refl
occurs_none P n (x ∷ xs) h k = go (eqb n x) refl (occurs_none P n xs h.1 k)
  where
    go : (b : Bool) → eqb n x ≡ b → occurs n xs ≡ 0 → cond b (suc (occurs n xs)) (occurs n xs) ≡ 0
    go true e ih = absurd (k (rw (eqb-true n x e) h.0))
    go false e ih = ih

-- the facts of a list hold of what stands in it
pub All_occurs : (P : ℕ → Type 0) (n : ℕ) (xs : List ℕ) → All P xs → 1 ≤ occurs n xs → P n
unfolding occurs
All_occurs P n [] h k = absurd (omega arith)
All_occurs P n (x ∷ xs) h k = go (eqb n x) refl k (All_occurs P n xs h.1)
  where
    go : (b : Bool) → eqb n x ≡ b → 1 ≤ cond b (suc (occurs n xs)) (occurs n xs) → (1 ≤ occurs n xs → P n) → P n
    go true e k ih = rw (eqb-true n x e) h.0
    go false e k ih = ih k

-- every element stands in the list
pub All_self : (xs : List ℕ) → All (λ n. 1 ≤ occurs n xs) xs
unfolding occurs
All_self [] = tt
All_self (x ∷ xs) =
    let more : (n : ℕ) → 1 ≤ occurs n xs → 1 ≤ occurs n (x ∷ xs) = λ n h. omega (arith, occurs_more n x xs) in
    (rw (eq-eqb x x refl) (omega arith), All_map more xs (All_self xs))

-- a rising list
pub rising_below : (n : ℕ) (k m : ℕ) → m < k → occurs m (rising n k) ≡ 0
rising_below n k m h = occurs_none (λ i. k ≤ i) m (rising n k) (All_rising (λ i. k ≤ i) n k (λ i a b. a)) (λ (a : k ≤ m). omega arith)

pub rising_once : (n k m : ℕ) → occurs m (rising n k) ≤ 1
unfolding rising occurs
rising_once zero k m = omega arith
rising_once (suc n) k m = go (eqb m k) refl (rising_once n (suc k) m)
  where
    go : (b : Bool) → eqb m k ≡ b → occurs m (rising n (suc k)) ≤ 1 →
        cond b (suc (occurs m (rising n (suc k)))) (occurs m (rising n (suc k))) ≤ 1
    go true e ih =
        let is : m ≡ k = eqb-true m k e in
        omega (arith, rising_below n (suc k) m (omega arith))
    go false e ih = ih

pub rising_length : (n k : ℕ) → length (rising n k) ≡ n
unfolding rising
rising_length zero k = refl
rising_length (suc n) k = omega (arith, rising_length n (suc k))

pub rising_has : (n k i : ℕ) → k ≤ i → i < k + n → 1 ≤ occurs i (rising n k)
rising_has n k i a b = rising_at (λ j. 1 ≤ occurs j (rising n k)) n k (All_self (rising n k)) i a b
