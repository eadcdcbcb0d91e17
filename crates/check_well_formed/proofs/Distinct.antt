-- Rising numbers are distinct, and distinct numbers in two parts.
use mathlib.Core.Path.{◌≡◌, refl, ap, ◌∙◌}
use mathlib.Core.Bool.{Bool, true, false, not, ◌&&◌, ◌||◌}
use mathlib.Core.List.{List, [], ◌∷◌, ◌++◌, map}
use Prim.Native.Nat.{ℕ, suc, ◌≤◌, ◌<◌}
use native.Mathlib.Omega.{arith}
use lib.Dec.{eqb, leb}
use borrow.Author.Tests.{ne_eqb, leb-true}
use Rattle.rules.specs.Lists.{all, any, among, distinct}
use Rattle.rules.specs.Records.{Output}
use Rattle.rules.specs.WellFormed.{rise_from}
use Rattle.laws.specs.Records.Words.{both}
use Rattle.laws.specs.Lists.Facts.{and_true}

pub all_append : {A : Type 0} (p : A → Bool) (xs ys : List A) → all p (xs ++ ys) ≡ (all p xs && all p ys)
unfolding all
all_append p [] ys = refl
all_append p (x ∷ xs) ys = ap (λ (b : Bool). p x && b) (all_append p xs ys) ∙ go (p x) (all p xs) (all p ys)
  where
    go : (a b c : Bool) → (a && (b && c)) ≡ ((a && b) && c)
    go true b c = refl
    go false b c = refl

pub all_map : {A B : Type 0} (p : B → Bool) (f : A → B) (xs : List A) → all p (map f xs) ≡ all (λ x. p (f x)) xs
unfolding all
all_map p f [] = refl
all_map p f (x ∷ xs) = ap (λ (b : Bool). p (f x) && b) (all_map p f xs)

among_append : (xs ys : List ℕ) (n : ℕ) → among (xs ++ ys) n ≡ (among xs n || among ys n)
unfolding among any
among_append [] ys n = refl
among_append (x ∷ xs) ys n = ap (λ (b : Bool). eqb n x || b) (among_append xs ys n) ∙ go (eqb n x) (any (eqb n) xs) (any (eqb n) ys)
  where
    go : (a b c : Bool) → (a || (b || c)) ≡ ((a || b) || c)
    go true b c = refl
    go false b c = refl

-- two lists together are distinct exactly if each is and no number of the first stands in the second
pub distinct_append : (xs ys : List ℕ) → distinct (xs ++ ys) ≡ (distinct xs && (distinct ys && all (λ x. not (among ys x)) xs))
unfolding distinct all
distinct_append [] ys = go (distinct ys)
  where
    go : (a : Bool) → a ≡ (a && true)
    go true = refl
    go false = refl
distinct_append (x ∷ xs) ys =
    ap (λ (b : Bool). not b && distinct (xs ++ ys)) (among_append xs ys x) ∙
    (ap (λ (b : Bool). not (among xs x || among ys x) && b) (distinct_append xs ys) ∙
    go (among xs x) (among ys x) (distinct xs) (distinct ys) (all (λ x. not (among ys x)) xs))
  where
    go : (a b c d e : Bool) → (not (a || b) && (c && (d && e))) ≡ ((not a && c) && (d && (not b && e)))
    go true b c d e = refl
    go false true true true e = refl
    go false true true false e = refl
    go false true false d e = refl
    go false false c d e = refl

-- a number below all is none of them
rise_none : (low : ℕ) (os : List Output) → rise_from low os ≡ true → (n : ℕ) → n < low → among (map (λ (o : Output). o.number) os) n ≡ false
unfolding rise_from among any
rise_none low [] e n h = refl
rise_none low (o ∷ os) e n h =
    let (here, rest) = both (leb low o.number) (rise_from (suc o.number) os) e in
    let least : low ≤ o.number = leb-true low o.number here in
    ap (λ (b : Bool). b || any (eqb n) (map (λ (o : Output). o.number) os)) (ne_eqb n o.number (λ q. omega arith)) ∙
    rise_none (suc o.number) os rest n (omega arith)

pub rise_distinct : (low : ℕ) (os : List Output) → rise_from low os ≡ true → distinct (map (λ (o : Output). o.number) os) ≡ true
unfolding rise_from distinct
rise_distinct low [] e = refl
rise_distinct low (o ∷ os) e =
    let (here, rest) = both (leb low o.number) (rise_from (suc o.number) os) e in
    and_true (ap not (rise_none (suc o.number) os rest o.number (omega arith))) (rise_distinct (suc o.number) os rest)
