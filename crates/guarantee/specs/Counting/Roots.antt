-- The root's value: the sum of all parts, divided by the output weight, rounded down. Left-out tares make no difference.
use Rattle.std.specs.Prelude.{◌≡◌, Bool, List, [], ◌∷◌, map, ℕ, ◌+◌, ◌*◌, ◌/◌, ◌^◌, ◌<◌, length, take, drop}
use Rattle.std.proofs.Common.{sym, ap, ap₂, ◌∙◌, subst, arith, length-take, take-append-drop, pow_pos, pow-add}
use Rattle.std.proofs.Math.Nat.{add-mul-div_left, div-div-eq-div-mul, div-eq_of_lt}
use Rattle.std.proofs.lemmas.List.{length-map}
use Rattle.rules.specs.Records.{Node}
use Rattle.laws.specs.WellFormed.Plain.{Sound, Linked}
use Rattle.guarantee.specs.Meaning.Truth.{Truths}
use Rattle.guarantee.specs.Meaning.Values.{value}
use Rattle.guarantee.specs.Counting.Chains.{down, units, down_units, tare_sum, tare_append, tare_low, tops, tops_length, bucket_down}

-- parts in units of the lowest kept bucket, 2^m of the built divisor's; what is below 2^m is lost
drop_low : (u s tail r m k : ℕ) → 2 ^ m * u ≡ s + 2 ^ m * tail → r < 2 ^ m → u / 2 ^ k ≡ (s + (r + 2 ^ m * tail)) / 2 ^ (m + k)
drop_low u s tail r m k e h =
    let whole : (r + 2 ^ m * u) / 2 ^ m ≡ r / 2 ^ m + u = add-mul-div_left r u (pow_pos m) in
    let none : r / 2 ^ m ≡ 0 = div-eq_of_lt h in
    let is : s + (r + 2 ^ m * tail) ≡ r + 2 ^ m * u = omega arith in
    let part : (s + (r + 2 ^ m * tail)) / 2 ^ m ≡ u = ap (λ (x : ℕ). x / 2 ^ m) is ∙ omega arith in
    sym (ap (λ (x : ℕ). (s + (r + 2 ^ m * tail)) / x) (pow-add 2 m k) ∙
    (sym (div-div-eq-div-mul (s + (r + 2 ^ m * tail)) (2 ^ m) (2 ^ k)) ∙ ap (λ (x : ℕ). x / 2 ^ k) part))

pub root_law : (at : ℕ → Node) (place : ℕ → Bool) → Sound at place → (t : Truths) (wait : Bool) (b : ℕ) (bs tares : List ℕ) (s m : ℕ) →
    Linked at wait (b ∷ bs) → m + length bs ≡ length tares →
    2 ^ m * units (map (value at t) (tops at wait (b ∷ bs))) ≡ s + 2 ^ m * tare_sum t (drop m tares) →
    value at t b ≡ (s + tare_sum t tares) / 2 ^ length tares
root_law at place sound t wait b bs tares s m linked count e =
    bucket_down at place sound t wait b bs linked ∙
    (from_units (tops at wait (b ∷ bs)) (tops_length at wait (b ∷ bs)) ∙
    (drop_low (units (map f (tops at wait (b ∷ bs)))) s (tare_sum t (drop m tares)) (tare_sum t (take m tares)) m (length bs) e low ∙
    ap₂ (λ (x y : ℕ). (s + x) / 2 ^ y) sums count))
  where
    f : ℕ → ℕ
    f = value at t

    from_units : (xs : List ℕ) → length xs ≡ length (b ∷ bs) → down (map f xs) ≡ units (map f xs) / 2 ^ length bs
    from_units [] h = absurd (omega arith)
    from_units (x ∷ xs) h =
        let len : length (map f xs) ≡ length bs = length-map xs f ∙ omega arith in
        down_units (f x) (map f xs) ∙ ap (λ (n : ℕ). units (f x ∷ map f xs) / 2 ^ n) len

    len_take : length (take m tares) ≡ m
    len_take = length-take m tares ∙ omega arith

    low : tare_sum t (take m tares) < 2 ^ m
    low = subst (λ (n : ℕ). tare_sum t (take m tares) < 2 ^ n) len_take (tare_low t (take m tares))

    sums : tare_sum t (take m tares) + 2 ^ m * tare_sum t (drop m tares) ≡ tare_sum t tares
    sums =
        ap (λ (n : ℕ). tare_sum t (take m tares) + 2 ^ n * tare_sum t (drop m tares)) (sym len_take) ∙
        (sym (tare_append t (take m tares) (drop m tares)) ∙ ap (tare_sum t) (take-append-drop m tares))
