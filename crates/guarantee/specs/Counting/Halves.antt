-- Halved joins are buckets: merging makes none, and each that a tower adds is in its list.
use Rattle.std.specs.Prelude.{◌≡◌, refl, ◌≢◌, Bool, true, false, List, [], ◌∷◌, ◌++◌, map, ℕ, zero, suc, ◌+◌, ◌/◌, ◌≤◌, ltb, eqb, length, take, drop, set, pos}
use Rattle.std.proofs.Common.{sym, ap, ◌∙◌, subst, arith, length-append, ltb-true, ltb-false, eqb-true}
use Rattle.std.proofs.lemmas.Bool.{false≢true, eqb-false}
use Rattle.std.proofs.Math.ListN.{get_or-eq_default}
use Rattle.rules.specs.Lists.{sort}
use Rattle.rules.specs.Records.{Kind, leaf, join, dummy, Node, Entry, Record, node, node_at, node_of, leaf_node, dummy_node, left_link}
use Rattle.rules.specs.Totalizer.{joining, add, merge_by, merge}
use Rattle.rules.specs.Build.{largest}
use Rattle.rules.specs.Queue.{run, Sorting, queue_step, queue_run}
use Rattle.rules.specs.Buckets.{with_tare, lower, with_below, bucket, left_out, buckets_over}
use Rattle.rules.specs.Refinement.{relink}
use Rattle.laws.specs.Lists.Facts.{All, occurs, occurs_here, occurs_more}
use Rattle.laws.specs.Records.Places.{node_at_append, node_at_last, node_at_set_other}

-- a join whose right side is halved
abbrev pub is_halved : Kind → Bool
is_halved (join half l r) = half
is_halved (leaf x) = false
is_halved dummy = false

-- the node at place n is one
abbrev pub halved : List Record → ℕ → Bool
halved rs n = is_halved (node_at rs n).kind

-- P holds of the place of each
abbrev pub Halves : (ℕ → Type 0) → List Record → Type 0
Halves P rs = (n : ℕ) → halved rs n ≡ true → P n

-- one node more
add_halves : (P Q : ℕ → Type 0) (rs : List Record) (nd : Node) → ((n : ℕ) → P n → Q n) → (is_halved nd.kind ≡ true → Q (length rs)) → Halves P rs → Halves Q (add rs nd).0
unfolding add node_at node_of dummy_node
add_halves P Q rs nd up new old n = go (ltb n (length rs)) refl (eqb n (length rs)) refl
  where
    go : (a : Bool) → ltb n (length rs) ≡ a → (b : Bool) → eqb n (length rs) ≡ b → halved (rs ++ (node nd ∷ [])) n ≡ true → Q n
    go true e b f h = up n (old n (ap (λ (x : Node). is_halved x.kind) (sym (node_at_append rs (node nd ∷ []) n (ltb-true _ _ e))) ∙ h))
    go false e true f h =
        let is : n ≡ length rs = eqb-true n (length rs) f in
        subst Q (sym is) (new (ap (λ (x : Node). is_halved x.kind) (sym (node_at_last rs nd [])) ∙ (ap (halved (rs ++ (node nd ∷ []))) (sym is) ∙ h)))
    go false e false f h =
        let low : length rs ≤ n = ltb-false n (length rs) e in
        let ne : n ≢ length rs = eqb-false n (length rs) f in
        absurd (false≢true (sym (ap (λ (r : Record). is_halved (node_of r).kind) (get_or-eq_default (rs ++ (node nd ∷ [])) _ (omega (arith, length-append rs (node nd ∷ []))))) ∙ h))

-- one that is not halved
plain_halves : (P : ℕ → Type 0) (rs : List Record) (nd : Node) → is_halved nd.kind ≡ false → Halves P rs → Halves P (add rs nd).0
plain_halves P rs nd e old = add_halves P P rs nd (λ n h. h) (λ h. absurd (false≢true (sym e ∙ h))) old

pub merge_halves : (P : ℕ → Type 0) (f : ℕ) (rs : List Record) (ms : List ℕ) → Halves P rs → Halves P (merge_by f rs ms).0
unfolding merge_by joining
merge_halves P zero rs ms old = old
merge_halves P (suc f) rs [] old = old
merge_halves P (suc f) rs (m ∷ []) old = old
merge_halves P (suc f) rs (m ∷ m' ∷ ms) old =
    let w : List ℕ = m ∷ m' ∷ ms in
    let a : List Record × ℕ = merge_by f rs (take (length w / 2) w) in
    let b : List Record × ℕ = merge_by f a.0 (drop (length w / 2) w) in
    plain_halves P b.0 (joining b.0 false a.1 b.1) refl (merge_halves P f a.0 (drop (length w / 2) w) (merge_halves P f rs (take (length w / 2) w) old))

step_halves : (P : ℕ → Type 0) (w : ℕ) (q : Sorting) → Halves P q.records → Halves P (queue_step w q).records
unfolding queue_step merge
step_halves P w q old =
    let nodes : List ℕ = map (λ (e : Entry). e.node) (run w q.queue) in
    merge_halves P (length nodes) q.records nodes old

-- the queue makes none
pub run_halves : (P : ℕ → Type 0) (fuel d : ℕ) (q : Sorting) → Halves P q.records → Halves P (queue_run fuel d q).records
unfolding queue_run
run_halves P zero d q old = old
run_halves P (suc fuel) d q old =
    go (ltb (largest q.queue) d) (run_halves P fuel d (queue_step (largest q.queue) q) (step_halves P (largest q.queue) q old))
  where
    go : (b : Bool) → Halves P (queue_run fuel d (queue_step (largest q.queue) q)).records →
        Halves P (elim b as (λ x. Sorting) [ true ↦ q | false ↦ queue_run fuel d (queue_step (largest q.queue) q) ]).records
    go true ih = old
    go false ih = ih

-- n is among the buckets, the new ones or the old
abbrev pub Among : List ℕ → List ℕ → ℕ → Type 0
Among A bs n = 1 ≤ occurs n bs + occurs n A

pub tare_halves : (P : ℕ → Type 0) (rs : List Record) (tares members : List ℕ) → Halves P rs → Halves P (with_tare rs tares members).0
unfolding with_tare leaf_node
tare_halves P rs [] members old = old
tare_halves P rs (tare ∷ tares) members old = plain_halves P rs (leaf_node (pos tare)) refl old

below_halves : (A : List ℕ) (wait : Bool) (below : List ℕ) (r : List Record × ℕ) → Halves (Among A below) r.0 →
    Halves (Among A ((with_below wait below r).1 ∷ below)) (with_below wait below r).0
unfolding with_below add dummy_node
below_halves A wait (c ∷ below) (rs, m) old =
    add_halves (Among A (c ∷ below)) (Among A (length rs ∷ c ∷ below)) rs (joining rs true m c) (λ n h. omega (arith, h, occurs_more n (length rs) (c ∷ below)))
    (λ h. omega (arith, occurs_here (length rs) (length rs) (c ∷ below) refl)) old
below_halves A true [] (rs, m) old =
    let rs₁ : List Record = (add rs dummy_node).0 in
    add_halves (Among A []) (Among A (length rs₁ ∷ [])) rs₁ (joining rs₁ true m (length rs)) (λ n h. omega (arith, h, occurs_more n (length rs₁) []))
    (λ h. omega (arith, occurs_here (length rs₁) (length rs₁) [] refl)) (plain_halves (Among A []) rs dummy_node refl old)
below_halves A false [] (rs, m) old = λ n h. omega (arith, old n h, occurs_more n m [])

pub bucket_halves : (A : List ℕ) (wait : Bool) (rs : List Record) (below tares members : List ℕ) → Halves (Among A below) rs →
    Halves (Among A ((bucket wait rs below tares members).1 ∷ below)) (bucket wait rs below tares members).0
unfolding bucket merge
bucket_halves A wait rs below tares members old =
    let (rs₁, ms) = with_tare rs tares members in
    let sorted : List ℕ = sort (lower rs₁) ms in
    below_halves A wait below (merge_by (length sorted) rs₁ sorted) (merge_halves (Among A below) (length sorted) rs₁ sorted (tare_halves (Among A below) rs tares members old))

-- those of a tower are its buckets and the old ones
pub over_halves : (A : List ℕ) (wait : Bool) (rs : List Record) (below tares : List ℕ) (mss : List (List ℕ)) → Halves (Among A below) rs →
    Halves (Among A (buckets_over wait rs below tares mss).1) (buckets_over wait rs below tares mss).0
unfolding buckets_over
over_halves A wait rs below tares [] old = old
over_halves A wait rs below tares (ms ∷ mss) old =
    let (rs₁, b) = bucket wait rs below tares ms in
    go (left_out below ms) (over_halves A wait rs below (drop 1 tares) mss old) (over_halves A wait rs₁ (b ∷ below) (drop 1 tares) mss (bucket_halves A wait rs below tares ms old))
  where
    Right : List Record × List ℕ → Type 0
    Right r = Halves (Among A r.1) r.0

    go : (x : Bool) → Right (buckets_over wait rs below (drop 1 tares) mss) →
        Right (buckets_over wait (bucket wait rs below tares ms).0 ((bucket wait rs below tares ms).1 ∷ below) (drop 1 tares) mss) →
        Right (elim x [
          | true ↦ buckets_over wait rs below (drop 1 tares) mss
          | false ↦ buckets_over wait (bucket wait rs below tares ms).0 ((bucket wait rs below tares ms).1 ∷ below) (drop 1 tares) mss
        ])
    go true h k = h
    go false h k = k

-- linking anew changes buckets alone
pub relink_halves : (P : ℕ → Type 0) (rs : List Record) (below : ℕ) (bs : List ℕ) → All P bs → Halves P rs → Halves P (relink rs below bs)
unfolding relink
relink_halves P rs below [] a old = old
relink_halves P rs below (b ∷ bs) a old = relink_halves P (set rs b nd) b bs a.1 (λ n. go n (eqb n b) refl)
  where
    nd : Record
    nd = node (joining rs true (left_link (node_at rs b).kind) below)

    go : (n : ℕ) (t : Bool) → eqb n b ≡ t → halved (set rs b nd) n ≡ true → P n
    go n true e h = subst P (sym (eqb-true n b e)) a.0
    go n false e h = old n (ap (λ (x : Node). is_halved x.kind) (sym (node_at_set_other rs b n nd (eqb-false n b e))) ∙ h)
