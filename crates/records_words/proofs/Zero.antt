-- Zeroing all words past a mark, for words of any type.
use mathlib.Core.Path.{◌≡◌, refl, sym, ap, ap₂, ◌∙◌}
use mathlib.Core.List.{List, [], ◌∷◌, ◌++◌, append_assoc, append-nil}
use Prim.Native.Nat.{ℕ, zero, suc, ◌+◌, ◌-◌, ◌≤◌, ◌<◌, min, max}
use native.Mathlib.Omega.{arith}
use lib.ListN.{length, take, drop, set, replicate, length-append, length-replicate, length-take, drop_of_length-le, replicate-append-replicate}
use Rattle.rules.specs.Lists.{padded}
use Rattle.records_words.specs.Words.{laid}
use Rattle.records_words.proofs.Lay.{laid_sets}

-- the words with those from n up to i set to z
unfoldable pub zeroed : {A : Type 0} → A → List A → ℕ → ℕ → List A
unfolding laid
zeroed z s n i = laid (take n s ++ replicate (i - n) z) s

take_rest : {A : Type 0} (n : ℕ) (s : List A) → take n s ++ drop (length (take n s)) s ≡ s
take_rest zero s = refl
take_rest (suc n) [] = refl
take_rest (suc n) (x ∷ s) = ap (λ t. x ∷ t) (take_rest n s)

front : {A : Type 0} (z : A) (s : List A) (n i : ℕ) → length (take n s ++ replicate (i - n) z) ≡ min n (length s) + (i - n)
front z s n i = omega (arith, length-append (take n s) (replicate (i - n) z), length-take n s, length-replicate (i - n) z)

pub zero_start : {A : Type 0} (z : A) (s : List A) (n : ℕ) → s ≡ zeroed z s n n
unfolding zeroed laid
zero_start z s n =
    let e : n - n ≡ 0 = omega arith in
    rw e (sym (ap (λ x. x ++ drop (length x) s) (append-nil (take n s)) ∙ take_rest n s))

pub zero_turn : {A : Type 0} (z : A) (s₀ s t : List A) (n i : ℕ) → n ≤ i → i < length s → length s ≡ length s₀ → s ≡ zeroed z s₀ n i →
    t ≡ set s i z → t ≡ zeroed z s₀ n (i + 1)
unfolding zeroed
zero_turn z s₀ s t n i h k l e p =
    let f : length (take n s₀ ++ replicate (i - n) z) ≡ i = front z s₀ n i ∙ omega arith in
    let j : i + 1 - n ≡ (i - n) + 1 = omega arith in
    p ∙ (ap₂ (λ x m. set x m z) e (sym f) ∙
    (laid_sets (take n s₀ ++ replicate (i - n) z) (z ∷ []) s₀ (omega arith) ∙
    ap (λ x. laid x s₀)
    (append_assoc (take n s₀) (replicate (i - n) z) (z ∷ []) ∙
    ap (λ x. take n s₀ ++ x) (replicate-append-replicate (i - n) 1 z ∙ ap (λ (m : ℕ). replicate m z) (sym j)))))

pub zero_end : {A : Type 0} (z : A) (s₀ s : List A) (n i : ℕ) → n ≤ i → i ≤ max n (length s₀) → length s ≤ i → length s ≡ length s₀ →
    s ≡ zeroed z s₀ n i → s ≡ padded z (length s₀) (take n s₀)
unfolding zeroed padded laid
zero_end z s₀ s n i h k j l e =
    let many : i - n ≡ length s₀ - length (take n s₀) = omega (arith, length-take n s₀) in
    let long : length s₀ ≤ length (take n s₀ ++ replicate (i - n) z) = omega (arith, front z s₀ n i) in
    let none : drop (length (take n s₀ ++ replicate (i - n) z)) s₀ ≡ [] = drop_of_length-le s₀ long in
    e ∙ (ap (λ x. (take n s₀ ++ replicate (i - n) z) ++ x) none ∙
    (append-nil (take n s₀ ++ replicate (i - n) z) ∙ ap (λ (m : ℕ). take n s₀ ++ replicate m z) many))
