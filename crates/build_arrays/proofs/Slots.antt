-- A padded list with its free slots filled from the front.
use mathlib.Core.Path.{◌≡◌, refl, sym, ap, ap₂, ◌∙◌}
use mathlib.Core.List.{List, [], ◌∷◌, ◌++◌, append-nil, append_assoc}
use Prim.Native.Nat.{ℕ, zero, suc, ◌+◌, ◌-◌, ◌≤◌, ◌<◌}
use native.Mathlib.Omega.{arith}
use lib.ListN.{length, take, drop, set, replicate, length-append}
use lib.Seq.{take_at, drop_at, length-take-le}
use borrow.Rule.Slice.PartMut.{put_mid, post_of}
use Rattle.std.proofs.lemmas.List.{take-replicate, drop-replicate}
use Rattle.rules.specs.Lists.{rising, padded}
use Rattle.laws.specs.Lists.Facts.{rising_length}

put_first : (k : ℕ) (xs : List ℕ) (w : ℕ) → set (xs ++ replicate (suc k) 0) (length xs) w ≡ (xs ++ (w ∷ [])) ++ replicate k 0
put_first k [] w = refl
put_first k (x ∷ xs) w = ap (λ ys. x ∷ ys) (put_first k xs w)

padded_put : (n : ℕ) (xs : List ℕ) (w : ℕ) → length xs < n → set (padded 0 n xs) (length xs) w ≡ padded 0 n (xs ++ (w ∷ []))
unfolding padded
padded_put n xs w h =
    let a : n - length xs ≡ suc (n - suc (length xs)) = omega arith in
    let b : n - suc (length xs) ≡ n - length (xs ++ (w ∷ [])) = omega (arith, length-append xs (w ∷ [])) in
    ap (λ (j : ℕ). set (xs ++ replicate j 0) (length xs) w) a ∙ (put_first (n - suc (length xs)) xs w ∙ ap (λ (j : ℕ). (xs ++ (w ∷ [])) ++ replicate j 0) b)

-- the number at slot i put behind so many others
put_at : (n i : ℕ) (xs ys : List ℕ) (w : ℕ) → length ys ≡ i → i < n → xs ≡ padded 0 n ys → set xs i w ≡ padded 0 n (ys ++ (w ∷ []))
put_at n i xs ys w e h p = rw (sym e) (ap (λ zs. set zs (length ys) w) p ∙ padded_put n ys w (omega arith))

sums : (n k : ℕ) → (k + 0 ≡ k) × (k + suc n ≡ suc k + n) × (n + 1 ≡ suc n) × (suc (suc n) ≡ suc n + 1)
sums n k = (omega arith, omega arith, omega arith, omega arith)

rising_more : (n k : ℕ) → rising n k ++ ((k + n) ∷ []) ≡ rising (n + 1) k
unfolding rising
rising_more zero k = ap (λ (j : ℕ). j ∷ []) (sums 0 k).0
rising_more (suc n) k =
    ap (λ ys. k ∷ ys) (ap (λ (j : ℕ). rising n (suc k) ++ (j ∷ [])) (sums n k).1 ∙ (rising_more n (suc k) ∙ ap (λ (j : ℕ). rising j (suc k)) (sums n k).2)) ∙
    ap (λ (j : ℕ). rising j k) (sums n k).3

-- the first `many` slots, none of them filled
pub fresh_start : (many first : ℕ) → many ≤ 19 → take many (replicate 19 0) ≡ padded 0 many (rising 0 first)
unfolding padded rising
fresh_start many first h =
    let all : many ≡ many - 0 = omega arith in
    take-replicate {X = ℕ} many 19 0 h ∙ ap (λ (j : ℕ). replicate j 0) all

pub slots_length : (many : ℕ) → many ≤ 19 → length (take many (replicate {A = ℕ} 19 0)) ≡ many
slots_length many h = length-take-le {A = ℕ} many (replicate 19 0) h

pub fresh_turn : (many first i : ℕ) (xs : List ℕ) → i < many → xs ≡ padded 0 many (rising i first) → set xs i (first + i) ≡ padded 0 many (rising (i + 1) first)
fresh_turn many first i xs h p =
    put_at many i xs (rising i first) (first + i) (rising_length i first) h p ∙ ap (padded 0 many) (rising_more i first)

-- all of them filled, before the others
pub fresh_end : (many first i : ℕ) (xs : List ℕ) → many ≤ 19 → i ≡ many → xs ≡ padded 0 many (rising i first) → xs ++ drop many (replicate 19 0) ≡ padded 0 19 (rising many first)
unfolding padded
fresh_end many first i xs h e p =
    let l = rising_length many first in
    let none : many - length (rising many first) ≡ 0 = omega (arith, l) in
    let rest : 19 - many ≡ 19 - length (rising many first) = omega (arith, l) in
    ap₂ (λ (ys zs : List ℕ). ys ++ zs)
    (p ∙ (ap (λ (j : ℕ). padded 0 many (rising j first)) e ∙ (ap (λ (j : ℕ). rising many first ++ replicate j 0) none ∙ append-nil (rising many first))))
    (drop-replicate {X = ℕ} many 19 0 ∙ ap (λ (j : ℕ). replicate j 0) rest)

-- more numbers behind those of a padded list
pub appended : (n many : ℕ) (xs ys zs out : List ℕ) → length xs ≡ many → many + length ys ≤ n → out ≡ padded 0 n xs → zs ≡ ys →
    put_mid many (many + length ys - many) out zs ≡ padded 0 n (xs ++ ys)
unfolding padded
appended n many xs ys zs out l h p e = ap (put_mid many (many + length ys - many) out) e ∙ ap₂ (λ (a b : List ℕ). a ++ (ys ++ b)) front back ∙ sym (append_assoc xs ys (replicate (n - length (xs ++ ys)) 0))
  where
    zeros : List ℕ
    zeros = replicate (n - length xs) 0

    front : take many out ≡ xs
    front = ap (take many) p ∙ take_at xs zeros many l

    back : post_of many (many + length ys - many) out ≡ replicate (n - length (xs ++ ys)) 0
    back =
        let k : many + length ys - many ≡ length ys = omega arith in
        let rest : n - length xs - length ys ≡ n - length (xs ++ ys) = omega (arith, length-append xs ys) in
        ap₂ (λ (j : ℕ) (z : List ℕ). drop j (drop many z)) k p ∙
        (ap (drop (length ys)) (drop_at xs zeros many l) ∙
        (drop-replicate (length ys) (n - length xs) 0 ∙ ap (λ (j : ℕ). replicate j 0) rest))
