-- The buckets of a list: the fact of each, and the order from the last to the first.
use mathlib.Core.Path.{◌≡◌, refl, ap, ◌∙◌}
use mathlib.Core.List.{List, [], ◌∷◌, ◌++◌, reverse, reverse-cons}
use Prim.Native.Nat.{ℕ, zero, suc, ◌+◌, ◌<◌}
use native.Mathlib.Omega.{arith}
use lib.ListN.{length, get_or}
use Rattle.laws.specs.Lists.Facts.{All, occurs, occurs_append}

-- the fact of the one at a place
pub All_at : (P : ℕ → Type 0) (xs : List ℕ) (i d : ℕ) → i < length xs → All P xs → P (get_or xs i d)
All_at P [] i d h a = absurd (omega arith)
All_at P (x ∷ xs) zero d h a = a.0
All_at P (x ∷ xs) (suc i) d h a = All_at P xs i d (omega arith) a.1

-- the order from the last to the first has the same buckets
pub occurs_reverse : (n : ℕ) (xs : List ℕ) → occurs n (reverse xs) ≡ occurs n xs
unfolding occurs
occurs_reverse n [] = refl
occurs_reverse n (x ∷ xs) =
    let all : occurs n (reverse (x ∷ xs)) ≡ occurs n (reverse xs) + occurs n (x ∷ []) =
    ap (occurs n) (reverse-cons x xs) ∙ occurs_append n (reverse xs) (x ∷ []) in
    let one : occurs n ((x ∷ []) ++ xs) ≡ occurs n (x ∷ []) + occurs n xs = occurs_append n (x ∷ []) xs in
    omega (arith, all, one, occurs_reverse n xs)
