-- The chain of buckets: the root's value is what all buckets count, in units of the lowest one, divided by the weight of the top one.
use Rattle.std.specs.Prelude.{◌≡◌, refl, Bool, true, false, List, [], ◌∷◌, ◌++◌, map, ℕ, suc, ◌+◌, ◌*◌, ◌/◌, ◌^◌, ◌≤◌, ◌<◌, length, pos}
use Rattle.std.proofs.Common.{sym, ap, ◌∙◌, arith, mul_comm, add-mul, mul_assoc, one-mul, zero-mul, mul-one, div-one, length-append, pow_pos, pow-add}
use Rattle.std.proofs.Math.Nat.{pow-succ', add-mul-div_right, div-div-eq-div-mul}
use Rattle.rules.specs.Records.{Node, left_link}
use Rattle.rules.specs.Totalizer.{counts}
use Rattle.laws.specs.WellFormed.Plain.{Sound, Linked}
use Rattle.guarantee.specs.Meaning.Truth.{Truths}
use Rattle.guarantee.specs.Meaning.Values.{bit, value, value_join, value_dummy}

-- what climbs to the first of a list, the root first: each counts half of what is below it
abbrev pub down : List ℕ → ℕ
down [] = 0
down (x ∷ xs) = x + down xs / 2

-- the sum in units of the last, the root first
abbrev pub units : List ℕ → ℕ
units [] = 0
units (x ∷ xs) = x * 2 ^ length xs + units xs

-- the root counts all units, divided by the weight of the first
pub down_units : (x : ℕ) (xs : List ℕ) → down (x ∷ xs) ≡ units (x ∷ xs) / 2 ^ length xs
down_units x [] = omega (arith, div-one (x * 2 ^ 0 + 0), mul-one x)
down_units x (y ∷ ys) =
    let n : ℕ = length ys in
    let u : ℕ = units (y ∷ ys) in
    let half : down (y ∷ ys) / 2 ≡ u / 2 ^ suc n =
    ap (λ (z : ℕ). z / 2) (down_units y ys) ∙ (div-div-eq-div-mul u (2 ^ n) 2 ∙ ap (λ (z : ℕ). u / z) (mul_comm (2 ^ n) 2 ∙ sym (pow-succ' 2 n))) in
    let whole : (u + x * 2 ^ suc n) / 2 ^ suc n ≡ u / 2 ^ suc n + x = add-mul-div_right u x (pow_pos (suc n)) in
    let order : x * 2 ^ suc n + u ≡ u + x * 2 ^ suc n = omega arith in
    rw order (omega arith)

pub units_append : (xs ys : List ℕ) → units (xs ++ ys) ≡ units xs * 2 ^ length ys + units ys
units_append [] ys = omega (arith, zero-mul (2 ^ length ys))
units_append (x ∷ xs) ys =
    let m : ℕ = length xs in
    let n : ℕ = length ys in
    let power : 2 ^ length (xs ++ ys) ≡ 2 ^ m * 2 ^ n = ap (λ (k : ℕ). 2 ^ k) (length-append xs ys) ∙ pow-add 2 m n in
    let first : x * 2 ^ length (xs ++ ys) ≡ x * 2 ^ m * 2 ^ n = ap (λ (k : ℕ). x * k) power ∙ sym (mul_assoc x (2 ^ m) (2 ^ n)) in
    omega (arith, units_append xs ys, first, add-mul (x * 2 ^ m) (units xs) (2 ^ n))

-- what tares weigh that stand lowest power first
abbrev pub tare_sum : Truths → List ℕ → ℕ
tare_sum t [] = 0
tare_sum t (x ∷ xs) = bit (t (pos x)) + 2 * tare_sum t xs

pub tare_append : (t : Truths) (xs ys : List ℕ) → tare_sum t (xs ++ ys) ≡ tare_sum t xs + 2 ^ length xs * tare_sum t ys
tare_append t [] ys = omega (arith, one-mul (tare_sum t ys))
tare_append t (x ∷ xs) ys =
    let e : 2 ^ suc (length xs) * tare_sum t ys ≡ 2 * (2 ^ length xs * tare_sum t ys) = rw pow-succ' (mul_assoc 2 (2 ^ length xs) (tare_sum t ys)) in
    omega (arith, tare_append t xs ys)

bit_le : (b : Bool) → bit b ≤ 1
bit_le true = omega arith
bit_le false = omega arith

pub tare_low : (t : Truths) (xs : List ℕ) → tare_sum t xs < 2 ^ length xs
tare_low t [] = omega arith
tare_low t (x ∷ xs) = omega (arith, tare_low t xs, bit_le (t (pos x)), pow-succ' 2 (length xs))

-- all tares set
pub tare_all : (xs : List ℕ) → suc (tare_sum (λ x. true) xs) ≡ 2 ^ length xs
tare_all [] = refl
tare_all (x ∷ xs) = omega (arith, tare_all xs, pow-succ' 2 (length xs))

-- a bucket's own members: its left side; where nothing waits the last bucket is its own members
abbrev pub tops : (ℕ → Node) → Bool → List ℕ → List ℕ
tops at wait [] = []
tops at true (b ∷ []) = left_link (at b).kind ∷ []
tops at false (b ∷ []) = b ∷ []
tops at wait (b ∷ c ∷ bs) = left_link (at b).kind ∷ tops at wait (c ∷ bs)

pub tops_length : (at : ℕ → Node) (wait : Bool) (bs : List ℕ) → length (tops at wait bs) ≡ length bs
tops_length at wait [] = refl
tops_length at true (b ∷ []) = refl
tops_length at false (b ∷ []) = refl
tops_length at wait (b ∷ c ∷ bs) = ap suc (tops_length at wait (c ∷ bs))

-- each bucket counts its own and half of the one below
pub bucket_down : (at : ℕ → Node) (place : ℕ → Bool) → Sound at place → (t : Truths) (wait : Bool) (b : ℕ) (bs : List ℕ) → Linked at wait (b ∷ bs) →
    value at t b ≡ down (map (value at t) (tops at wait (b ∷ bs)))
unfolding left_link counts
bucket_down at place s t true b [] (l, r, e, d) =
    let left : left_link (at b).kind ≡ l = ap left_link e in
    value_join at place s t b true l r e ∙ (rw left (omega (arith, value_dummy at place s t r d)))
bucket_down at place s t false b [] h = omega arith
bucket_down at place s t wait b (c ∷ bs) ((l, e), h) =
    let left : left_link (at b).kind ≡ l = ap left_link e in
    value_join at place s t b true l c e ∙ (rw left (ap (λ (x : ℕ). value at t l + x / 2) (bucket_down at place s t wait c bs h)))
