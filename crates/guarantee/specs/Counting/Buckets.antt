-- The buckets count what the queue put into them, and their tares.
use Rattle.std.specs.Prelude.{◌≡◌, refl, Bool, true, false, List, [], ◌∷◌, ◌++◌, map, ℕ, zero, suc, ◌+◌, ◌*◌, ◌^◌, ◌≤◌, ◌<◌, length, drop, pos}
use Rattle.std.proofs.Common.{sym, ap, ap₂, ◌∙◌, subst, arith, mul-add, add-mul, mul_assoc, mul_comm, one-mul, mul-zero, length-append, length-drop}
use Rattle.std.proofs.Math.Nat.{pow-succ'}
use Rattle.std.proofs.lemmas.List.{length-map}
use Rattle.rules.specs.Lists.{total, sort}
use Rattle.rules.specs.Records.{Node, Record, node, node_at, left_link, leaf_node, dummy_node}
use Rattle.rules.specs.Totalizer.{joining, add, merge_by, merge}
use Rattle.rules.specs.Buckets.{with_tare, lower, with_below, bucket, left_out, buckets_over}
use Rattle.laws.specs.Lists.Facts.{All, All_map, All_append, total_append}
use Rattle.laws.specs.Lists.Sorts.{total_sort, length_sort, All_sort}
use Rattle.guarantee.specs.Meaning.Truth.{Truths}
use Rattle.guarantee.specs.Meaning.Values.{bit}
use Rattle.guarantee.specs.Counting.Sums.{Begins, begins_self, begins_then, begins_add, begins_length, begins_at, Reads, reads_before, add_last, merge_begins, merge_total, merge_inside}
use Rattle.guarantee.specs.Counting.Queues.{heap}
use Rattle.guarantee.specs.Counting.Chains.{units, tare_sum, tops, tops_length}

-- later records do not change the members of buckets that stand
pub tops_begins : (rs rs' : List Record) → Begins rs rs' → (wait : Bool) (bs : List ℕ) → All (λ b. b < length rs) bs → tops (node_at rs') wait bs ≡ tops (node_at rs) wait bs
tops_begins rs rs' g wait [] a = refl
tops_begins rs rs' g true (b ∷ []) a = ap (λ (nd : Node). left_link nd.kind ∷ []) (begins_at rs rs' g b a.0)
tops_begins rs rs' g false (b ∷ []) a = refl
tops_begins rs rs' g wait (b ∷ c ∷ bs) a =
    ap₂ (λ (nd : Node) (ts : List ℕ). left_link nd.kind ∷ ts) (begins_at rs rs' g b a.0) (tops_begins rs rs' g wait (c ∷ bs) a.1)

tare_begins : (rs : List Record) (tares members : List ℕ) → Begins rs (with_tare rs tares members).0
unfolding with_tare
tare_begins rs [] members = begins_self rs
tare_begins rs (tare ∷ tares) members = begins_add rs (leaf_node (pos tare))

-- the first tare of what is left of a list of tares
abbrev pub first : Truths → List ℕ → ℕ
first t [] = 0
first t (x ∷ xs) = bit (t (pos x))

first_sum : (t : Truths) (xs : List ℕ) → tare_sum t xs ≡ first t xs + 2 * tare_sum t (drop 1 xs)
first_sum t [] = refl
first_sum t (x ∷ xs) = refl

tare_counts : (base : ℕ) (t : Truths) (f : ℕ → ℕ) (rs : List Record) (tares members : List ℕ) → base ≤ length rs → Reads base t f (with_tare rs tares members).0 →
    total (map f (with_tare rs tares members).1) ≡ total (map f members) + first t tares
unfolding with_tare total add leaf_node
tare_counts base t f rs [] members h reads = omega arith
tare_counts base t f rs (tare ∷ tares) members h reads =
    let is : f (length rs) ≡ bit (t (pos tare)) = reads.leaves (length rs) (pos tare) h (ap (λ (nd : Node). nd.kind) (add_last rs (leaf_node (pos tare)))) in
    total_append f members (length rs ∷ []) ∙ omega arith

-- a member or a tare
abbrev pub Some : List ℕ → List ℕ → Type 0
Some [] members = 1 ≤ length members
Some (tare ∷ tares) members = Unit {0}

tare_some : (rs : List Record) (tares members : List ℕ) → Some tares members → 1 ≤ length (with_tare rs tares members).1
unfolding with_tare
tare_some rs [] members s = s
tare_some rs (tare ∷ tares) members s = omega (arith, length-append members (length rs ∷ []))

below_begins : (wait : Bool) (below : List ℕ) (r : List Record × ℕ) → Begins r.0 (with_below wait below r).0
unfolding with_below
below_begins wait (b ∷ below) (rs, m) = begins_add rs (joining rs true m b)
below_begins true [] (rs, m) =
    begins_then rs (add rs dummy_node).0 _ (begins_add rs dummy_node) (begins_add (add rs dummy_node).0 (joining (add rs dummy_node).0 true m (length rs)))
below_begins false [] (rs, m) = begins_self rs

-- the members of a bucket that was just made
below_tops : (wait : Bool) (below : List ℕ) (r : List Record × ℕ) →
    tops (node_at (with_below wait below r).0) wait ((with_below wait below r).1 ∷ below) ≡ r.1 ∷ tops (node_at (with_below wait below r).0) wait below
unfolding with_below add joining left_link
below_tops wait (b ∷ below) (rs, m) =
    ap (λ (nd : Node). left_link nd.kind ∷ tops (node_at (add rs (joining rs true m b)).0) wait (b ∷ below)) (add_last rs (joining rs true m b))
below_tops true [] (rs, m) =
    let rs₁ : List Record = (add rs dummy_node).0 in
    ap (λ (nd : Node). left_link nd.kind ∷ []) (add_last rs₁ (joining rs₁ true m (length rs)))
below_tops false [] (rs, m) = refl

below_last : (wait : Bool) (below : List ℕ) (r : List Record × ℕ) → r.1 < length r.0 → (with_below wait below r).1 < length (with_below wait below r).0
unfolding with_below add
below_last wait (b ∷ below) (rs, m) h = omega (arith, length-append rs (node (joining rs true m b) ∷ []))
below_last true [] (rs, m) h =
    let rs₁ : List Record = rs ++ (node dummy_node ∷ []) in
    omega (arith, length-append rs₁ (node (joining rs₁ true m (length rs)) ∷ []))
below_last false [] (rs, m) h = h

pub bucket_begins : (wait : Bool) (rs : List Record) (below tares members : List ℕ) → Begins rs (bucket wait rs below tares members).0
unfolding bucket merge
bucket_begins wait rs below tares members =
    let (rs₁, ms) = with_tare rs tares members in
    let sorted : List ℕ = sort (lower rs₁) ms in
    let r : List Record × ℕ = merge_by (length sorted) rs₁ sorted in
    begins_then rs r.0 _ (begins_then rs rs₁ r.0 (tare_begins rs tares members) (merge_begins (length sorted) rs₁ sorted)) (below_begins wait below r)

-- a bucket counts its members and its tare
bucket_counts : (base : ℕ) (t : Truths) (f : ℕ → ℕ) (wait : Bool) (rs : List Record) (below tares members : List ℕ) → base ≤ length rs → Some tares members →
    Reads base t f (bucket wait rs below tares members).0 → (top : ℕ) ×
    (tops (node_at (bucket wait rs below tares members).0) wait ((bucket wait rs below tares members).1 ∷ below) ≡ top ∷ tops (node_at (bucket wait rs below tares members).0) wait below) ×
    (f top ≡ total (map f members) + first t tares)
unfolding bucket merge
bucket_counts base t f wait rs below tares members h s reads =
    let (rs₁, ms) = with_tare rs tares members in
    let sorted : List ℕ = sort (lower rs₁) ms in
    let r : List Record × ℕ = merge_by (length sorted) rs₁ sorted in
    let g₁ : Begins rs rs₁ = tare_begins rs tares members in
    let g₂ : Begins rs₁ r.0 = merge_begins (length sorted) rs₁ sorted in
    let reads₂ : Reads base t f r.0 = reads_before base t f r.0 (with_below wait below r).0 (below_begins wait below r) reads in
    let reads₁ : Reads base t f rs₁ = reads_before base t f rs₁ r.0 g₂ reads₂ in
    let count : length sorted ≡ length ms = length_sort (lower rs₁) ms in
    let some : 1 ≤ length ms = tare_some rs tares members s in
    let low : base ≤ length rs₁ = omega (arith, begins_length rs rs₁ g₁) in
    let merged : f r.1 ≡ total (map f sorted) = merge_total base t f (length sorted) rs₁ sorted (omega arith) (omega arith) low reads₂ in
    (r.1, below_tops wait below r, merged ∙ (total_sort (lower rs₁) f ms ∙ tare_counts base t f rs tares members h reads₁))

-- places stay inside
inside_more : (rs rs' : List Record) → Begins rs rs' → (ms : List ℕ) → All (λ m. m < length rs) ms → All (λ m. m < length rs') ms
inside_more rs rs' g ms a = All_map (λ m h. omega (arith, begins_length rs rs' g)) ms a

tare_inside : (rs : List Record) (tares members : List ℕ) → All (λ m. m < length rs) members → All (λ m. m < length (with_tare rs tares members).0) (with_tare rs tares members).1
unfolding with_tare add
tare_inside rs [] members a = a
tare_inside rs (tare ∷ tares) members a =
    let rs₁ : List Record = rs ++ (node (leaf_node (pos tare)) ∷ []) in
    let len : length rs₁ ≡ length rs + 1 = length-append rs (node (leaf_node (pos tare)) ∷ []) in
    All_append (λ m. m < length rs₁) members (length rs ∷ []) (All_map (λ m h. omega arith) members a) (omega arith, tt)

pub bucket_inside : (wait : Bool) (rs : List Record) (below tares members : List ℕ) → Some tares members → All (λ m. m < length rs) members →
    (bucket wait rs below tares members).1 < length (bucket wait rs below tares members).0
unfolding bucket merge
bucket_inside wait rs below tares members s a =
    let (rs₁, ms) = with_tare rs tares members in
    let sorted : List ℕ = sort (lower rs₁) ms in
    let count : length sorted ≡ length ms = length_sort (lower rs₁) ms in
    let some : 1 ≤ length ms = tare_some rs tares members s in
    below_last wait below (merge_by (length sorted) rs₁ sorted)
    (merge_inside (length sorted) rs₁ sorted (omega arith) (omega arith) (All_sort (lower rs₁) (λ m. m < length rs₁) ms (tare_inside rs tares members a)))

drop_drop_one : (m : ℕ) (xs : List ℕ) → drop m (drop 1 xs) ≡ drop (suc m) xs
drop_drop_one zero [] = refl
drop_drop_one (suc m) [] = refl
drop_drop_one m (x ∷ xs) = refl

-- every bucket has a member or a tare
abbrev pub Filled : List ℕ → List (List ℕ) → Type 0
Filled tares [] = Unit {0}
Filled tares (ms ∷ mss) = Some tares ms × Filled (drop 1 tares) mss

abbrev pub Inside : List Record → List (List ℕ) → Type 0
Inside rs mss = All (λ ms. All (λ m. m < length rs) ms) mss

pub over_begins : (wait : Bool) (rs : List Record) (below tares : List ℕ) (mss : List (List ℕ)) → Begins rs (buckets_over wait rs below tares mss).0
unfolding buckets_over
over_begins wait rs below tares [] = begins_self rs
over_begins wait rs below tares (ms ∷ mss) =
    go (left_out below ms) (over_begins wait rs below (drop 1 tares) mss)
    (over_begins wait (bucket wait rs below tares ms).0 ((bucket wait rs below tares ms).1 ∷ below) (drop 1 tares) mss)
  where
    rs₁ : List Record
    rs₁ = (bucket wait rs below tares ms).0

    b : ℕ
    b = (bucket wait rs below tares ms).1

    go : (x : Bool) → Begins rs (buckets_over wait rs below (drop 1 tares) mss).0 → Begins rs₁ (buckets_over wait rs₁ (b ∷ below) (drop 1 tares) mss).0 →
        Begins rs (elim x as (λ y. List Record × List ℕ) [ true ↦ buckets_over wait rs below (drop 1 tares) mss | false ↦ buckets_over wait rs₁ (b ∷ below) (drop 1 tares) mss ]).0
    go true a c = a
    go false a c = begins_then rs rs₁ _ (bucket_begins wait rs below tares ms) c

-- what a list of buckets counts in units of the lowest one
abbrev pub counted : (ℕ → ℕ) → Bool → List Record × List ℕ → ℕ
counted f wait r = units (map f (tops (node_at r.0) wait r.1))

step_sum : (x m tare h s p u : ℕ) → x ≡ m + tare → x * p + u + 2 * p * (h + s) ≡ u + p * ((m + 2 * h) + (tare + 2 * s))
step_sum x m tare h s p u e =
    rw (e, mul_assoc 2 p (h + s)) (omega (arith, add-mul m tare p, mul-add p h s, mul_comm m p, mul_comm tare p, mul-add p (m + 2 * h) (tare + 2 * s), mul-add p m (2 * h), mul-add p tare (2 * s), two p h, two p s))
  where
    two : (p h : ℕ) → p * (2 * h) ≡ 2 * (p * h)
    two p h = sym (mul_assoc p 2 h) ∙ (ap (λ (z : ℕ). z * h) (mul_comm p 2) ∙ mul_assoc 2 p h)

-- a bucket more: it adds its members and its tare in its power, and those above it count twice as much
over_step : (base : ℕ) (t : Truths) (f : ℕ → ℕ) (wait : Bool) (rs : List Record) (below tares ms : List ℕ) (mss : List (List ℕ)) →
    base ≤ length rs → All (λ c. c < length rs) below → Some tares ms → Reads base t f (bucket wait rs below tares ms).0 →
    counted f wait ((bucket wait rs below tares ms).0, (bucket wait rs below tares ms).1 ∷ below) + 2 ^ suc (length below) * (heap f mss + tare_sum t (drop 1 tares)) ≡
    counted f wait (rs, below) + 2 ^ length below * (heap f (ms ∷ mss) + tare_sum t tares)
over_step base t f wait rs below tares ms mss h a s reads =
    ap₂ (λ (x y : ℕ). x + y * (heap f mss + tare_sum t (drop 1 tares))) first_units (pow-succ' 2 k) ∙
    (step_sum (f top.0) (total (map f ms)) (first t tares) (heap f mss) (tare_sum t (drop 1 tares)) (2 ^ k) (counted f wait (rs, below)) top.2 ∙
    ap (λ (x : ℕ). counted f wait (rs, below) + 2 ^ k * (heap f (ms ∷ mss) + x)) (sym (first_sum t tares)))
  where
    k : ℕ
    k = length below

    rs₁ : List Record
    rs₁ = (bucket wait rs below tares ms).0

    c : ℕ
    c = (bucket wait rs below tares ms).1

    top : (top : ℕ) × (tops (node_at rs₁) wait (c ∷ below) ≡ top ∷ tops (node_at rs₁) wait below) × (f top ≡ total (map f ms) + first t tares)
    top = bucket_counts base t f wait rs below tares ms h s reads

    same : tops (node_at rs₁) wait below ≡ tops (node_at rs) wait below
    same = tops_begins rs rs₁ (bucket_begins wait rs below tares ms) wait below a

    len : length (map f (tops (node_at rs) wait below)) ≡ k
    len = length-map (tops (node_at rs) wait below) f ∙ tops_length (node_at rs) wait below

    first_units : counted f wait (rs₁, c ∷ below) ≡ f top.0 * 2 ^ k + counted f wait (rs, below)
    first_units =
        ap (λ (xs : List ℕ). units (map f xs)) (top.1 ∙ ap (λ (xs : List ℕ). top.0 ∷ xs) same) ∙
        ap (λ (n : ℕ). f top.0 * 2 ^ n + counted f wait (rs, below)) len

-- buckets over buckets that stand: each adds its members and its tare, in its power
pub over_counts : (base : ℕ) (t : Truths) (f : ℕ → ℕ) (wait : Bool) (rs : List Record) (b : ℕ) (below tares : List ℕ) (mss : List (List ℕ)) →
    base ≤ length rs → All (λ c. c < length rs) (b ∷ below) → Filled tares mss → length tares ≤ length mss → Inside rs mss →
    Reads base t f (buckets_over wait rs (b ∷ below) tares mss).0 →
    (counted f wait (buckets_over wait rs (b ∷ below) tares mss) ≡ counted f wait (rs, b ∷ below) + 2 ^ suc (length below) * (heap f mss + tare_sum t tares)) ×
    (length (buckets_over wait rs (b ∷ below) tares mss).1 ≡ suc (length below) + length mss)
unfolding buckets_over left_out
over_counts base t f wait rs b below [] [] h a fl q ins reads = (omega (arith, mul-zero (2 ^ suc (length below))), omega arith)
over_counts base t f wait rs b below (tare ∷ tares) [] h a fl q ins reads = absurd (omega arith)
over_counts base t f wait rs b below tares (ms ∷ mss) h a fl q ins reads =
    let rs₁ : List Record = (bucket wait rs (b ∷ below) tares ms).0 in
    let c : ℕ = (bucket wait rs (b ∷ below) tares ms).1 in
    let g : Begins rs rs₁ = bucket_begins wait rs (b ∷ below) tares ms in
    let reads₁ : Reads base t f rs₁ =
    reads_before base t f rs₁ (buckets_over wait rs₁ (c ∷ b ∷ below) (drop 1 tares) mss).0 (over_begins wait rs₁ (c ∷ b ∷ below) (drop 1 tares) mss) reads in
    let ih =
    over_counts base t f wait rs₁ c (b ∷ below) (drop 1 tares) mss (omega (arith, begins_length rs rs₁ g))
    (bucket_inside wait rs (b ∷ below) tares ms fl.0 ins.0, inside_more rs rs₁ g (b ∷ below) a)
    fl.1 (omega (arith, length-drop 1 tares)) (All_map (inside_more rs rs₁ g) mss ins.1) reads in
    (ih.0 ∙ over_step base t f wait rs (b ∷ below) tares ms mss h a fl.0 reads₁, ih.1 ∙ omega arith)

-- the first of them: lowest buckets with only a tare, m in number, are left out
pub over_all : (base : ℕ) (t : Truths) (f : ℕ → ℕ) (wait : Bool) (rs : List Record) (tares : List ℕ) (mss : List (List ℕ)) →
    base ≤ length rs → Filled tares mss → length tares ≤ length mss → Inside rs mss → Reads base t f (buckets_over wait rs [] tares mss).0 →
    (m : ℕ) × (m + length (buckets_over wait rs [] tares mss).1 ≡ length mss) ×
    (2 ^ m * counted f wait (buckets_over wait rs [] tares mss) ≡ heap f mss + 2 ^ m * tare_sum t (drop m tares))
unfolding buckets_over left_out total
over_all base t f wait rs [] [] h fl q ins reads = (0, refl, refl)
over_all base t f wait rs (tare ∷ tares) [] h fl q ins reads = absurd (omega arith)
over_all base t f wait rs tares ([] ∷ mss) h fl q ins reads =
    let (m, len, ih) = over_all base t f wait rs (drop 1 tares) mss h fl.1 (omega (arith, length-drop 1 tares)) ins.1 reads in
    let u : ℕ = counted f wait (buckets_over wait rs [] (drop 1 tares) mss) in
    let s : ℕ = tare_sum t (drop m (drop 1 tares)) in
    let dropped : drop m (drop 1 tares) ≡ drop (suc m) tares = drop_drop_one m tares in
    let left : 2 ^ suc m * u ≡ 2 * (2 ^ m * u) = rw pow-succ' (mul_assoc 2 (2 ^ m) u) in
    let right : 2 ^ suc m * s ≡ 2 * (2 ^ m * s) = rw pow-succ' (mul_assoc 2 (2 ^ m) s) in
    (suc m, omega arith, subst (λ (xs : List ℕ). 2 ^ suc m * u ≡ 0 + 2 * heap f mss + 2 ^ suc m * tare_sum t xs) dropped (omega arith))
over_all base t f wait rs tares ((n ∷ ns) ∷ mss) h fl q ins reads =
    let ms : List ℕ = n ∷ ns in
    let rs₁ : List Record = (bucket wait rs [] tares ms).0 in
    let c : ℕ = (bucket wait rs [] tares ms).1 in
    let g : Begins rs rs₁ = bucket_begins wait rs [] tares ms in
    let reads₁ : Reads base t f rs₁ =
    reads_before base t f rs₁ (buckets_over wait rs₁ (c ∷ []) (drop 1 tares) mss).0 (over_begins wait rs₁ (c ∷ []) (drop 1 tares) mss) reads in
    let rest =
    over_counts base t f wait rs₁ c [] (drop 1 tares) mss (omega (arith, begins_length rs rs₁ g))
    (bucket_inside wait rs [] tares ms fl.0 ins.0, tt)
    fl.1 (omega (arith, length-drop 1 tares)) (All_map (inside_more rs rs₁ g) mss ins.1) reads in
    let whole : counted f wait (buckets_over wait rs₁ (c ∷ []) (drop 1 tares) mss) ≡ 0 + 1 * (heap f (ms ∷ mss) + tare_sum t tares) =
    rest.0 ∙ over_step base t f wait rs [] tares ms mss h tt fl.0 reads₁ in
    (0, omega (arith, rest.1), omega (arith, whole, one-mul (counted f wait (buckets_over wait rs₁ (c ∷ []) (drop 1 tares) mss)), one-mul (heap f (ms ∷ mss) + tare_sum t tares), one-mul (tare_sum t tares)))
