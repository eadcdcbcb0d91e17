-- As many numbers as there are below n, each of those among them: no other stands in the list.
use Rattle.std.specs.Prelude.{◌≡◌, refl, ◌≢◌, Bool, true, false, List, [], ◌∷◌, map, ℕ, ◌+◌, ◌≤◌, ◌<◌, eqb, length}
use Rattle.std.proofs.Common.{sym, arith, eqb-true}
use Rattle.std.proofs.lemmas.Bool.{eqb-false}
use Rattle.rules.specs.Lists.{total, rising}
use Rattle.laws.specs.Lists.Facts.{All, All_map, All_make, All_rising, All_occurs, total_le, length_total, occurs, occurs_here, occurs_other, rising_once, rising_length}
use Rattle.laws.specs.Queue.Runs.{zero_total}

-- how often the numbers of one list stand in another, and the other way round
count_one : (L : List ℕ) (x : ℕ) (xs : List ℕ) → total (map (λ i. occurs i (x ∷ xs)) L) ≡ occurs x L + total (map (λ i. occurs i xs) L)
unfolding total occurs
count_one [] x xs = refl
count_one (i ∷ L) x xs = go (eqb i x) refl (count_one L x xs)
  where
    go : (b : Bool) → eqb i x ≡ b → total (map (λ i. occurs i (x ∷ xs)) L) ≡ occurs x L + total (map (λ i. occurs i xs) L) →
        occurs i (x ∷ xs) + total (map (λ i. occurs i (x ∷ xs)) L) ≡ occurs x (i ∷ L) + (occurs i xs + total (map (λ i. occurs i xs) L))
    go true e ih =
        let is : i ≡ x = eqb-true i x e in
        omega (arith, ih, occurs_here i x xs is, occurs_here x i L (sym is))
    go false e ih =
        let ne : i ≢ x = eqb-false i x e in
        omega (arith, ih, occurs_other i x xs ne, occurs_other x i L (λ q. ne (sym q)))

count_both : (L xs : List ℕ) → total (map (λ i. occurs i xs) L) ≡ total (map (λ x. occurs x L) xs)
unfolding total occurs
count_both L [] = zero_total (λ i. occurs i []) L (All_make (λ i. occurs i [] ≡ 0) (λ i. refl) L)
count_both L (x ∷ xs) = omega (arith, count_one L x xs, count_both L xs)

spare_none : (g : ℕ → ℕ) (xs : List ℕ) → ((x : ℕ) → g x ≤ 1) → length xs ≤ total (map g xs) → All (λ x. 1 ≤ g x) xs
unfolding total
spare_none g [] h k = tt
spare_none g (x ∷ xs) h k =
    let most : total (map g xs) ≤ total (map (λ (y : ℕ). 1) xs) = total_le g (λ y. 1) xs (All_make (λ y. g y ≤ 1) h xs) in
    let count : length xs ≡ total (map (λ (y : ℕ). 1) xs) = length_total xs in
    (omega (arith, h x), spare_none g xs h (omega (arith, h x)))

pub all_below : (n : ℕ) (xs : List ℕ) → length xs ≡ n → ((i : ℕ) → i < n → 1 ≤ occurs i xs) → All (λ x. x < n) xs
all_below n xs count each =
    let L : List ℕ = rising n 0 in
    let some : total (map (λ (i : ℕ). 1) L) ≤ total (map (λ i. occurs i xs) L) =
    total_le (λ i. 1) (λ i. occurs i xs) L (All_rising (λ i. 1 ≤ occurs i xs) n 0 (λ i a b. each i (omega arith))) in
    let enough : length xs ≤ total (map (λ x. occurs x L) xs) = omega (arith, count_both L xs, length_total L, rising_length n 0) in
    All_map (λ x h. All_occurs (λ i. i < n) x L (All_rising (λ i. i < n) n 0 (λ i a b. omega arith)) h) xs
    (spare_none (λ x. occurs x L) xs (λ x. rising_once n 0 x) enough)

-- a list that has every number below n has n elements at least
pub at_least_all : (n : ℕ) (xs : List ℕ) → ((i : ℕ) → i < n → 1 ≤ occurs i xs) → n ≤ length xs
at_least_all n xs each =
    let L : List ℕ = rising n 0 in
    let some : total (map (λ (i : ℕ). 1) L) ≤ total (map (λ i. occurs i xs) L) =
    total_le (λ i. 1) (λ i. occurs i xs) L (All_rising (λ i. 1 ≤ occurs i xs) n 0 (λ i a b. each i (omega arith))) in
    let most : total (map (λ x. occurs x L) xs) ≤ total (map (λ (x : ℕ). 1) xs) =
    total_le (λ x. occurs x L) (λ x. 1) xs (All_make (λ x. occurs x L ≤ 1) (λ x. rising_once n 0 x) xs) in
    omega (arith, count_both L xs, length_total L, length_total xs, rising_length n 0)
