-- A refined build weighs the inputs at the finer divisor.
use Rattle.std.specs.Prelude.{◌≡◌, refl, Bool, true, List, [], ◌∷◌, ◌++◌, map, ℕ, zero, suc, ◌+◌, ◌*◌, ◌-◌, ◌^◌, ◌≤◌, length, drop, replicate}
use Rattle.std.proofs.Common.{sym, ap, ◌∙◌, append_assoc, arith, mul-add, mul_assoc, mul_comm, length-append, length-drop, pow-add}
use Rattle.std.proofs.lemmas.List.{length-map}
use Rattle.rules.specs.Lists.{total}
use Rattle.rules.specs.Records.{Node, left_link}
use Rattle.guarantee.specs.Meaning.Truth.{Truths}
use Rattle.guarantee.specs.Counting.Queues.{heap}
use Rattle.guarantee.specs.Counting.Chains.{units, units_append, tare_sum, tare_append, tops}
use Rattle.guarantee.specs.Counting.Buckets.{Filled}

-- every bucket has a tare
pub filled_all : (tares : List ℕ) (mss : List (List ℕ)) → length mss ≤ length tares → Filled tares mss
filled_all tares [] h = tt
filled_all [] (ms ∷ mss) h = absurd (omega arith)
filled_all (t ∷ tares) (ms ∷ mss) h = (tt, filled_all tares mss (omega arith))

-- buckets without members count nothing
pub heap_append : (f : ℕ → ℕ) (mss : List (List ℕ)) (n : ℕ) → heap f (mss ++ replicate n []) ≡ heap f mss
unfolding total
heap_append f [] zero = refl
heap_append f [] (suc n) = omega (arith, heap_append f [] n)
heap_append f (ms ∷ mss) n = ap (λ (x : ℕ). total (map f ms) + 2 * x) (heap_append f mss n)

-- the left sides of buckets
abbrev pub lefts : (ℕ → Node) → List ℕ → List ℕ
lefts at bs = map (λ (b : ℕ). left_link (at b).kind) bs

-- where something waits every bucket's members are its left side
pub tops_lefts : (at : ℕ → Node) (bs : List ℕ) → tops at true bs ≡ lefts at bs
tops_lefts at [] = refl
tops_lefts at (b ∷ []) = refl
tops_lefts at (b ∷ c ∷ bs) = ap (λ (xs : List ℕ). left_link (at b).kind ∷ xs) (tops_lefts at (c ∷ bs))

-- buckets over others are joined with what is below: their members are their left sides
pub tops_append : (at : ℕ → Node) (wait : Bool) (bs : List ℕ) (d : ℕ) (ds : List ℕ) → tops at wait (bs ++ (d ∷ ds)) ≡ lefts at bs ++ tops at wait (d ∷ ds)
tops_append at wait [] d ds = refl
tops_append at wait (b ∷ []) d ds = refl
tops_append at wait (b ∷ c ∷ bs) d ds = ap (λ (xs : List ℕ). left_link (at b).kind ∷ xs) (tops_append at wait (c ∷ bs) d ds)

map_append : (f : ℕ → ℕ) (xs ys : List ℕ) → map f (xs ++ ys) ≡ map f xs ++ map f ys
map_append f [] ys = refl
map_append f (x ∷ xs) ys = ap (λ (zs : List ℕ). f x ∷ zs) (map_append f xs ys)

drop_append : (m : ℕ) (xs ys : List ℕ) → m ≤ length xs → drop m (xs ++ ys) ≡ drop m xs ++ ys
drop_append zero xs ys h = refl
drop_append (suc m) [] ys h = absurd (omega arith)
drop_append (suc m) (x ∷ xs) ys h = drop_append m xs ys (omega arith)

-- tares below and above a seam, the lowest m left out
pub tares_seam : (t : Truths) (m : ℕ) (xs ys : List ℕ) → m ≤ length xs → 2 ^ m * tare_sum t (drop m (xs ++ ys)) ≡ 2 ^ m * tare_sum t (drop m xs) + 2 ^ length xs * tare_sum t ys
tares_seam t m xs ys h =
    let k : ℕ = length xs - m in
    let len : length (drop m xs) ≡ k = length-drop m xs in
    let is : m + k ≡ length xs = omega arith in
    let seam : tare_sum t (drop m (xs ++ ys)) ≡ tare_sum t (drop m xs) + 2 ^ k * tare_sum t ys =
    ap (tare_sum t) (drop_append m xs ys h) ∙ (tare_append t (drop m xs) ys ∙ ap (λ (i : ℕ). tare_sum t (drop m xs) + 2 ^ i * tare_sum t ys) len) in
    let power : 2 ^ m * (2 ^ k * tare_sum t ys) ≡ 2 ^ length xs * tare_sum t ys =
    sym (mul_assoc (2 ^ m) (2 ^ k) (tare_sum t ys)) ∙ ap (λ (i : ℕ). i * tare_sum t ys) (sym (pow-add 2 m k) ∙ ap (λ (i : ℕ). 2 ^ i) is) in
    ap (λ (x : ℕ). 2 ^ m * x) seam ∙ (mul-add (2 ^ m) (tare_sum t (drop m xs)) (2 ^ k * tare_sum t ys) ∙ ap (λ (x : ℕ). 2 ^ m * tare_sum t (drop m xs) + x) power)

-- the two chains together: old buckets weigh s in units of the old divisor, the new ones h in units of the new one
pub refined_sum : (t : Truths) (g : ℕ → ℕ) (upper lower fresh own above : List ℕ) (m lo s h : ℕ) → length own ≡ lo → m + length lower ≡ length fresh + length own →
    2 ^ lo * units (map g upper) ≡ s + 2 ^ lo * tare_sum t above →
    2 ^ m * units (map g lower) ≡ h + 2 ^ m * tare_sum t (drop m (fresh ++ own)) →
    2 ^ m * units (map g (upper ++ lower)) ≡ (2 ^ length fresh * s + h) + 2 ^ m * tare_sum t (drop m (fresh ++ (own ++ above)))
refined_sum t g upper lower fresh own above m lo s h eo count old new =
    let e : ℕ = length fresh in
    let both : units (map g (upper ++ lower)) ≡ units (map g upper) * 2 ^ length lower + units (map g lower) =
    ap units (map_append g upper lower) ∙ (units_append (map g upper) (map g lower) ∙ ap (λ (i : ℕ). units (map g upper) * 2 ^ i + units (map g lower)) (length-map lower g)) in
    let u : ℕ = units (map g upper) in
    let power : 2 ^ m * 2 ^ length lower ≡ 2 ^ e * 2 ^ lo = sym (pow-add 2 m (length lower)) ∙ (ap (λ (i : ℕ). 2 ^ i) (count ∙ ap (λ (i : ℕ). e + i) eo) ∙ pow-add 2 e lo) in
    let up : 2 ^ m * (u * 2 ^ length lower) ≡ 2 ^ e * s + 2 ^ e * (2 ^ lo * tare_sum t above) =
    ap (λ (i : ℕ). 2 ^ m * i) (mul_comm u (2 ^ length lower)) ∙
    (sym (mul_assoc (2 ^ m) (2 ^ length lower) u) ∙
    (ap (λ (i : ℕ). i * u) power ∙
    (mul_assoc (2 ^ e) (2 ^ lo) u ∙
    (ap (λ (i : ℕ). 2 ^ e * i) old ∙ mul-add (2 ^ e) s (2 ^ lo * tare_sum t above))))) in
    let seam : 2 ^ m * tare_sum t (drop m (fresh ++ (own ++ above))) ≡ 2 ^ m * tare_sum t (drop m (fresh ++ own)) + 2 ^ length (fresh ++ own) * tare_sum t above =
    ap (λ (xs : List ℕ). 2 ^ m * tare_sum t (drop m xs)) (sym (append_assoc fresh own above)) ∙
    tares_seam t m (fresh ++ own) above (omega (arith, length-append fresh own)) in
    let high : 2 ^ length (fresh ++ own) * tare_sum t above ≡ 2 ^ e * (2 ^ lo * tare_sum t above) =
    ap (λ (i : ℕ). 2 ^ i * tare_sum t above) (length-append fresh own ∙ ap (λ (i : ℕ). e + i) eo) ∙
    (ap (λ (i : ℕ). i * tare_sum t above) (pow-add 2 e lo) ∙ mul_assoc (2 ^ e) (2 ^ lo) (tare_sum t above)) in
    ap (λ (i : ℕ). 2 ^ m * i) both ∙ (mul-add (2 ^ m) (u * 2 ^ length lower) (units (map g lower)) ∙ omega arith)
