-- The last bucket of a tower is not halved where nothing waits.
use Rattle.std.specs.Prelude.{◌≡◌, refl, Bool, true, false, List, [], ◌∷◌, ◌++◌, ℕ, zero, suc, ◌+◌, ◌/◌, ◌≤◌, ◌<◌, length, take, drop, set, pos}
use Rattle.std.proofs.Common.{ap, ◌∙◌, arith, length-set, length-append}
use Rattle.rules.specs.Lists.{sort}
use Rattle.rules.specs.Records.{Node, Record, node, node_at, leaf_node, left_link}
use Rattle.rules.specs.Totalizer.{joining, add, merge_by, merge}
use Rattle.rules.specs.Buckets.{with_tare, lower, with_below, bucket, left_out, buckets_over}
use Rattle.rules.specs.Refinement.{relink}
use Rattle.laws.specs.Lists.Facts.{All, All_map, All_append, occurs, occurs_here, occurs_more, occurs_none}
use Rattle.laws.specs.Lists.Sorts.{All_sort, length_sort}
use Rattle.laws.specs.Records.Places.{node_at_set_other}
use Rattle.guarantee.specs.Counting.Sums.{Begins, begins_at, begins_length, begins_add, add_last, merge_inside}
use Rattle.guarantee.specs.Counting.Buckets.{bucket_begins}
use Rattle.guarantee.specs.Counting.Halves.{is_halved, halved, Halves, Among, tare_halves, bucket_halves}

-- the last of a list stands there and is not halved
abbrev pub LastPlain : List Record → List ℕ → Type 0
LastPlain rs [] = Unit {0}
LastPlain rs (b ∷ []) = (b < length rs) × (halved rs b ≡ false)
LastPlain rs (b ∷ c ∷ bs) = LastPlain rs (c ∷ bs)

last_grown : (rs rs' : List Record) → Begins rs rs' → (bs : List ℕ) → LastPlain rs bs → LastPlain rs' bs
last_grown rs rs' g [] h = tt
last_grown rs rs' g (b ∷ []) h = (omega (arith, h.0, begins_length rs rs' g), ap (λ (x : Node). is_halved x.kind) (begins_at rs rs' g b h.0) ∙ h.1)
last_grown rs rs' g (b ∷ c ∷ bs) h = last_grown rs rs' g (c ∷ bs) h

pub last_append : (rs : List Record) (bs : List ℕ) (d : ℕ) (ds : List ℕ) → LastPlain rs (d ∷ ds) → LastPlain rs (bs ++ (d ∷ ds))
last_append rs [] d ds h = h
last_append rs (b ∷ []) d ds h = h
last_append rs (b ∷ c ∷ bs) d ds h = last_append rs (c ∷ bs) d ds h

-- a merged list is not halved where its members are not
merge_plain : (f : ℕ) (rs : List Record) (ms : List ℕ) → 1 ≤ length ms → length ms ≤ f → All (λ m. halved rs m ≡ false) ms → halved (merge_by f rs ms).0 (merge_by f rs ms).1 ≡ false
unfolding merge_by joining add
merge_plain zero rs ms p q a = absurd (omega arith)
merge_plain (suc f) rs [] p q a = absurd (omega arith)
merge_plain (suc f) rs (m ∷ []) p q a = a.0
merge_plain (suc f) rs (m ∷ m' ∷ ms) p q a =
    let w : List ℕ = m ∷ m' ∷ ms in
    let x : List Record × ℕ = merge_by f rs (take (length w / 2) w) in
    let y : List Record × ℕ = merge_by f x.0 (drop (length w / 2) w) in
    ap (λ (nd : Node). is_halved nd.kind) (add_last y.0 (joining y.0 false x.1 y.1))

-- what is no old bucket is not halved while there is no new one
plain : (A : List ℕ) (rs : List Record) → Halves (Among A []) rs → (m : ℕ) → occurs m A ≡ 0 → halved rs m ≡ false
unfolding occurs
plain A rs old m h = go (halved rs m) refl
  where
    go : (t : Bool) → halved rs m ≡ t → halved rs m ≡ false
    go true e = absurd (omega (arith, old m e, h))
    go false e = e

-- members of a bucket: they stand there, and none is an old bucket
abbrev pub Members : List ℕ → List Record → List ℕ → Type 0
Members A rs ms = All (λ m. (m < length rs) × (occurs m A ≡ 0)) ms

members_grown : (A : List ℕ) (rs rs' : List Record) → Begins rs rs' → (ms : List ℕ) → Members A rs ms → Members A rs' ms
members_grown A rs rs' g ms a = All_map (λ m h. (omega (arith, h.0, begins_length rs rs' g), h.1)) ms a

tare_members : (A : List ℕ) (rs : List Record) (tares members : List ℕ) → All (λ a. a < length rs) A → Members A rs members →
    Members A (with_tare rs tares members).0 (with_tare rs tares members).1
unfolding with_tare add
tare_members A rs [] members inside a = a
tare_members A rs (tare ∷ tares) members inside a =
    let nd : Node = leaf_node (pos tare) in
    let longer : length (rs ++ (node nd ∷ [])) ≡ length rs + 1 = length-append rs (node nd ∷ []) in
    All_append (λ m. (m < length (rs ++ (node nd ∷ []))) × (occurs m A ≡ 0)) members (length rs ∷ []) (members_grown A rs (add rs nd).0 (begins_add rs nd) members a)
    ((omega (arith, longer), occurs_none (λ a. a < length rs) (length rs) A inside (λ h. omega arith)), tt)

tare_some : (rs : List Record) (tares members : List ℕ) → 1 ≤ length members → 1 ≤ length (with_tare rs tares members).1
unfolding with_tare
tare_some rs [] members h = h
tare_some rs (tare ∷ tares) members h = omega (arith, length-append members (length rs ∷ []))

-- the lowest bucket, where nothing waits, is its merged members
lowest_plain : (A : List ℕ) (rs : List Record) (tares members : List ℕ) → All (λ a. a < length rs) A → Halves (Among A []) rs → Members A rs members → 1 ≤ length members →
    LastPlain (bucket false rs [] tares members).0 ((bucket false rs [] tares members).1 ∷ [])
unfolding bucket merge with_below
lowest_plain A rs tares members inside old a some =
    let (rs₁, ms) = with_tare rs tares members in
    let sorted : List ℕ = sort (lower rs₁) ms in
    let count : length sorted ≡ length ms = length_sort (lower rs₁) ms in
    let few : 1 ≤ length ms = tare_some rs tares members (omega arith) in
    let all : Members A rs₁ sorted = All_sort (lower rs₁) (λ m. (m < length rs₁) × (occurs m A ≡ 0)) ms (tare_members A rs tares members inside a) in (
      merge_inside (length sorted) rs₁ sorted (omega arith) (omega arith) (All_map (λ m h. h.0) sorted all),
      merge_plain (length sorted) rs₁ sorted (omega arith) (omega arith) (All_map (λ m h. plain A rs₁ (tare_halves (Among A []) rs tares members old) m h.1) sorted all),
    )

-- so the last bucket of a tower is not halved where nothing waits
pub over_last : (A : List ℕ) (rs : List Record) (below tares : List ℕ) (mss : List (List ℕ)) → All (λ a. a < length rs) A → Halves (Among A below) rs → All (Members A rs) mss → LastPlain rs below →
    LastPlain (buckets_over false rs below tares mss).0 (buckets_over false rs below tares mss).1
unfolding buckets_over left_out
over_last A rs below tares [] inside old all h = h
over_last A rs [] tares ([] ∷ mss) inside old all h = over_last A rs [] (drop 1 tares) mss inside old all.1 h
over_last A rs [] tares ((m ∷ ms) ∷ mss) inside old all h =
    let (rs₁, b) = bucket false rs [] tares (m ∷ ms) in
    let g : Begins rs rs₁ = bucket_begins false rs [] tares (m ∷ ms) in
    over_last A rs₁ (b ∷ []) (drop 1 tares) mss (All_map (λ a k. omega (arith, begins_length rs rs₁ g)) A inside) (bucket_halves A false rs [] tares (m ∷ ms) old)
    (All_map (λ ns k. members_grown A rs rs₁ g ns k) mss all.1) (lowest_plain A rs tares (m ∷ ms) inside old all.0 (omega arith))
over_last A rs (c ∷ below) tares (ms ∷ mss) inside old all h =
    let (rs₁, b) = bucket false rs (c ∷ below) tares ms in
    let g : Begins rs rs₁ = bucket_begins false rs (c ∷ below) tares ms in
    over_last A rs₁ (b ∷ c ∷ below) (drop 1 tares) mss (All_map (λ a k. omega (arith, begins_length rs rs₁ g)) A inside) (bucket_halves A false rs (c ∷ below) tares ms old)
    (All_map (λ ns k. members_grown A rs rs₁ g ns k) mss all.1) (last_grown rs rs₁ g (c ∷ below) h)

-- linking anew leaves what is no old bucket
relink_other : (rs : List Record) (below : ℕ) (bs : List ℕ) (n : ℕ) → occurs n bs ≡ 0 → node_at (relink rs below bs) n ≡ node_at rs n
unfolding relink
relink_other rs below [] n h = refl
relink_other rs below (b ∷ bs) n h =
    let nd : Record = node (joining rs true (left_link (node_at rs b).kind) below) in
    relink_other (set rs b nd) b bs n (omega (arith, h, occurs_more n b bs)) ∙ node_at_set_other rs b n nd (λ e. omega (arith, h, occurs_here n b bs e))

relink_length : (rs : List Record) (below : ℕ) (bs : List ℕ) → length (relink rs below bs) ≡ length rs
unfolding relink
relink_length rs below [] = refl
relink_length rs below (b ∷ bs) =
    let nd : Record = node (joining rs true (left_link (node_at rs b).kind) below) in
    relink_length (set rs b nd) b bs ∙ length-set rs b nd

pub relink_last : (rs : List Record) (below : ℕ) (bs ls : List ℕ) → All (λ n. occurs n bs ≡ 0) ls → LastPlain rs ls → LastPlain (relink rs below bs) ls
relink_last rs below bs [] a h = tt
relink_last rs below bs (b ∷ []) a h =
    (omega (arith, h.0, relink_length rs below bs), ap (λ (x : Node). is_halved x.kind) (relink_other rs below bs b a.0) ∙ h.1)
relink_last rs below bs (b ∷ c ∷ ls) a h = relink_last rs below bs (c ∷ ls) a.1 h
