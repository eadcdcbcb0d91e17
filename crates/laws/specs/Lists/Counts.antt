-- How often a number stands in a list, against the tests of document 01.
use Rattle.std.specs.Prelude.{◌≡◌, refl, Bool, true, false, not, cond, ◌||◌, List, [], ◌∷◌, ℕ, suc, ◌≤◌, eqb}
use Rattle.std.proofs.Common.{ap, arith, eqb-true, eq-eqb}
use Rattle.std.proofs.lemmas.Bool.{false≢true}
use Rattle.rules.specs.Lists.{any, among, distinct}
use Rattle.laws.specs.Records.Words.{both}
use Rattle.laws.specs.Lists.Facts.{and_true, neither, not_yes, occurs, occurs_more}

-- a number stands in the list exactly if it occurs
pub among_occurs : (xs : List ℕ) (n : ℕ) → among xs n ≡ true → 1 ≤ occurs n xs
unfolding among any occurs
among_occurs [] n e = absurd (false≢true e)
among_occurs (x ∷ xs) n e = go (eqb n x) refl e (among_occurs xs n)
  where
    go : (b : Bool) → eqb n x ≡ b → (b || any (eqb n) xs) ≡ true → (any (eqb n) xs ≡ true → 1 ≤ occurs n xs) →
        1 ≤ cond b (suc (occurs n xs)) (occurs n xs)
    go true q h ih = omega arith
    go false q h ih = ih h

pub occurs_among : (xs : List ℕ) (n : ℕ) → 1 ≤ occurs n xs → among xs n ≡ true
unfolding among any occurs
occurs_among [] n h = absurd (omega arith)
occurs_among (x ∷ xs) n h = go (eqb n x) refl h (occurs_among xs n)
  where
    go : (b : Bool) → eqb n x ≡ b → 1 ≤ cond b (suc (occurs n xs)) (occurs n xs) → (1 ≤ occurs n xs → any (eqb n) xs ≡ true) →
        (b || any (eqb n) xs) ≡ true
    go true q h ih = refl
    go false q h ih = ih h

pub not_among_occurs : (xs : List ℕ) (n : ℕ) → among xs n ≡ false → occurs n xs ≡ 0
unfolding among any occurs
not_among_occurs [] n e = refl
not_among_occurs (x ∷ xs) n e =
    let (here, rest) = neither (eqb n x) (any (eqb n) xs) e in
    rw here (not_among_occurs xs n rest)

pub occurs_not_among : (xs : List ℕ) (n : ℕ) → occurs n xs ≡ 0 → among xs n ≡ false
unfolding among any occurs
occurs_not_among [] n e = refl
occurs_not_among (x ∷ xs) n e = go (eqb n x) refl e (occurs_not_among xs n)
  where
    go : (b : Bool) → eqb n x ≡ b → cond b (suc (occurs n xs)) (occurs n xs) ≡ 0 → (occurs n xs ≡ 0 → any (eqb n) xs ≡ false) →
        (b || any (eqb n) xs) ≡ false
    go true q h ih = absurd (omega arith)
    go false q h ih = ih h

-- no number stands twice exactly if each occurs at most once
pub distinct_occurs : (xs : List ℕ) → distinct xs ≡ true → (n : ℕ) → occurs n xs ≤ 1
unfolding distinct occurs
distinct_occurs [] e n = omega arith
distinct_occurs (x ∷ xs) e n =
    let (here, rest) = both (not (among xs x)) (distinct xs) e in
    go (eqb n x) refl (not_among_occurs xs x (not_yes (among xs x) here)) (distinct_occurs xs rest n)
  where
    go : (b : Bool) → eqb n x ≡ b → occurs x xs ≡ 0 → occurs n xs ≤ 1 → cond b (suc (occurs n xs)) (occurs n xs) ≤ 1
    go true q none ih =
        let e : occurs n xs ≡ 0 = rw (eqb-true n x q) none in
        omega arith
    go false q none ih = ih

pub occurs_distinct : (xs : List ℕ) → ((n : ℕ) → occurs n xs ≤ 1) → distinct xs ≡ true
unfolding distinct occurs
occurs_distinct [] h = refl
occurs_distinct (x ∷ xs) h =
    let here : cond (eqb x x) (suc (occurs x xs)) (occurs x xs) ≤ 1 = h x in
    let one : eqb x x ≡ true = eq-eqb x x refl in
    let now : suc (occurs x xs) ≤ 1 = rw one at here in
    let less : (n : ℕ) → occurs n xs ≤ 1 = λ n. omega (arith, h n, occurs_more n x xs) in
    and_true (ap not (occurs_not_among xs x (omega arith))) (occurs_distinct xs less)
