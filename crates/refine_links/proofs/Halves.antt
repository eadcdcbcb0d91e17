-- The halves of the former right maxima, one bucket after the other.
use mathlib.Core.Path.{◌≡◌, sym, ap, ap₂, ◌∙◌}
use mathlib.Core.List.{List, [], ◌∷◌, ◌++◌, map}
use Prim.Native.Nat.{ℕ, suc, ◌+◌, ◌-◌, ◌/◌, ◌<◌}
use native.Mathlib.Omega.{arith}
use lib.ListN.{length, get_or, set, take, drop, replicate}
use lib.Seq.{take-suc, take-suc-set, drop-set-lt, drop-drop}
use Rattle.rules.specs.Records.{Record, node_at, right_link}
use Rattle.rules.specs.Refinement.{former_half}
use Rattle.laws.specs.Lists.Facts.{map_append}

pub half_is : (rs : List Record) (b r x : ℕ) → r ≡ right_link (node_at rs b).kind → x ≡ (node_at rs r).maximum → x / 2 ≡ former_half rs b
unfolding former_half
half_is rs b r x er ex = ap (λ (n : ℕ). n / 2) (ex ∙ ap (λ (n : ℕ). (node_at rs n).maximum) er)

-- one element more of a list that is written to the front of another
pub map_turn : (f : ℕ → ℕ) (xs ys : List ℕ) (i y : ℕ) → i < length xs → i < length ys → y ≡ f (get_or xs i 0) → take i ys ≡ map f (take i xs) →
    take (i + 1) (set ys i y) ≡ map f (take (i + 1) xs)
map_turn f xs ys i y h k e ih =
    let n : i + 1 ≡ suc i = omega arith in
    rw n
    (take-suc-set ys i y k ∙
    (ap₂ (λ (t : List ℕ) (z : ℕ). t ++ (z ∷ [])) ih e ∙
    (sym (map_append f (take i xs) (get_or xs i 0 ∷ [])) ∙ ap (map f) (sym (take-suc xs i 0 h)))))

-- the slots after it are still 0
pub rest_turn : (ys : List ℕ) (i y n : ℕ) → i < n → drop i ys ≡ replicate (n - i) 0 → drop (i + 1) (set ys i y) ≡ replicate (n - (i + 1)) 0
rest_turn ys i y n h e =
    let k : n - i ≡ suc (n - (i + 1)) = omega arith in
    drop-set-lt (i + 1) ys i y (omega arith) ∙ (sym (drop-drop 1 i ys) ∙ (ap (drop 1) e ∙ ap (λ (j : ℕ). drop 1 (replicate j 0)) k))
