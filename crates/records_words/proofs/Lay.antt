-- Lists laid over the front of others.
use mathlib.Core.Path.{◌≡◌, refl, sym, ap, ap₂, ◌∙◌}
use mathlib.Core.List.{List, [], ◌∷◌, ◌++◌}
use Prim.Native.Nat.{ℕ, suc, ◌+◌, ◌≤◌}
use native.Mathlib.Omega.{arith}
use lib.ListN.{length, take, drop, set, length-append, length-drop, take-append-drop}
use lib.Seq.{sets, sets-eq, take-append_seam, drop-append-add, drop-drop, take-set-le, length-take-le, drop-append_seam}
use Rattle.records_words.specs.Words.{laid}

pub laid_length : {A : Type 0} (xs s : List A) → length xs ≤ length s → length (laid xs s) ≡ length s
unfolding laid
laid_length xs s h = omega (arith, length-append xs (drop (length xs) s), length-drop (length xs) s)

-- words written where the laid list ends are laid too
pub laid_sets : {A : Type 0} (xs vs s : List A) → length xs + length vs ≤ length s → sets (laid xs s) (length xs) vs ≡ laid (xs ++ vs) s
unfolding laid
laid_sets xs vs s h =
    let n : length (xs ++ drop (length xs) s) ≡ length s = omega (arith, length-append xs (drop (length xs) s), length-drop (length xs) s) in
    sets-eq vs (xs ++ drop (length xs) s) (length xs) (omega arith) ∙
    (ap₂ (λ x y. x ++ vs ++ y) (take-append_seam xs (drop (length xs) s)) (drop-append-add xs (drop (length xs) s) (length vs) ∙ drop-drop (length vs) (length xs) s) ∙
    ap (λ (z : ℕ). xs ++ vs ++ drop z s) (sym (length-append xs vs)))

pub take_sets : {A : Type 0} (n : ℕ) (l : List A) (i : ℕ) (vs : List A) → n ≤ i → take n (sets l i vs) ≡ take n l
take_sets n l i [] h = refl
take_sets n l i (v ∷ vs) h = take_sets n (set l i v) (suc i) vs (omega arith) ∙ take-set-le n l i v h

-- laying the same list again changes nothing
pub laid_again : {A : Type 0} (xs s : List A) → laid xs (laid xs s) ≡ laid xs s
unfolding laid
laid_again xs s = ap (λ x. xs ++ x) (drop-append_seam xs (drop (length xs) s))

-- the front of what is laid
pub laid_front : {A : Type 0} (xs s : List A) (n : ℕ) → length xs ≡ n → take n (laid xs s) ≡ xs
unfolding laid
laid_front xs s n e = ap (λ (k : ℕ). take k (xs ++ drop (length xs) s)) (sym e) ∙ take-append_seam xs (drop (length xs) s)

-- a list is its front laid over it
pub front_laid : {A : Type 0} (xs s : List A) (n : ℕ) → take n s ≡ xs → n ≤ length s → s ≡ laid xs s
unfolding laid
front_laid xs s n e h =
    let k : length xs ≡ n = ap length (sym e) ∙ length-take-le n s h in
    sym (ap₂ (λ x j. x ++ drop j s) (sym e) k ∙ take-append-drop n s)
