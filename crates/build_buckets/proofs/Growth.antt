-- Making buckets only grows what is needed.
use mathlib.Core.Path.{◌≡◌, refl}
use mathlib.Core.Bool.{Bool, true, false}
use mathlib.Core.List.{List, [], ◌∷◌}
use Prim.Native.Nat.{ℕ}
use lib.ListN.{drop}
use lib.IntN.{pos}
use Rattle.rules.specs.Records.{node, leaf_node, dummy_node}
use Rattle.rules.specs.Totalizer.{Arena, joining, add, merge}
use Rattle.rules.specs.Buckets.{with_tare, with_below, bucket, left_out, buckets_over}
use Rattle.records.specs.Carries.{on_records, with_records}
use Rattle.records.proofs.Grow.{Grows, grows_self, grows_trans, records_more}
use Rattle.records_append.proofs.Appending.{join_grows}
use Rattle.totalizer_merge.proofs.Merging.{merge_grows}
use Rattle.build_buckets.specs.Line.{sorted}

pub sorted_grows : (tares ms : List ℕ) (t : Arena) → Grows t (on_records (λ rs. sorted rs tares ms) t).0
unfolding on_records with_records sorted with_tare add
sorted_grows [] ms t = grows_self t
sorted_grows (x ∷ tares) ms t = records_more t (node (leaf_node (pos x)) ∷ [])

pub dummy_grows : (t : Arena) → Grows t (on_records (λ rs. add rs dummy_node) t).0
unfolding on_records add
dummy_grows t = records_more t (node dummy_node ∷ [])

pub below_grows : (wait : Bool) (below : List ℕ) (n : ℕ) (t : Arena) → Grows t (on_records (λ rs. with_below wait below (rs, n)) t).0
unfolding on_records with_records with_below
below_grows wait (b ∷ below) n t = join_grows true n b t
below_grows true [] n t =
    let u : Arena × ℕ = on_records (λ rs. add rs dummy_node) t in
    grows_trans t u.0 (on_records (λ rs. add rs (joining rs true n u.1)) u.0).0 (dummy_grows t) (join_grows true n u.1 u.0)
below_grows false [] n t = grows_self t

-- the members of a line merged, over the buckets below
unfoldable pub merged_below : Bool → List ℕ → List ℕ → Arena → Arena × ℕ
unfolding on_records
merged_below wait below ms t =
    on_records (λ rs. with_below wait below (rs, (on_records (λ rs. merge rs ms) t).1)) (on_records (λ rs. merge rs ms) t).0

pub merged_grows : (wait : Bool) (below ms : List ℕ) (t : Arena) → Grows t (merged_below wait below ms t).0
unfolding merged_below
merged_grows wait below ms t =
    let u : Arena × ℕ = on_records (λ rs. merge rs ms) t in
    grows_trans t u.0 (merged_below wait below ms t).0 (merge_grows ms t) (below_grows wait below u.1 u.0)

-- a bucket is its sorted members, merged over the buckets below
pub bucket_is : (wait : Bool) (below tares ms : List ℕ) (t : Arena) →
    merged_below wait below (on_records (λ rs. sorted rs tares ms) t).1 (on_records (λ rs. sorted rs tares ms) t).0 ≡ on_records (λ rs. bucket wait rs below tares ms) t
unfolding merged_below on_records with_records sorted bucket
bucket_is wait below tares ms t = refl

pub bucket_grows : (wait : Bool) (below tares ms : List ℕ) (t : Arena) → Grows t (on_records (λ rs. bucket wait rs below tares ms) t).0
unfolding merged_below on_records with_records sorted bucket
bucket_grows wait below tares ms t =
    let u : Arena × List ℕ = on_records (λ rs. sorted rs tares ms) t in
    grows_trans t u.0 (merged_below wait below u.1 u.0).0 (sorted_grows tares ms t) (merged_grows wait below u.1 u.0)

pub buckets_over_grows : (wait : Bool) (below tares : List ℕ) (mss : List (List ℕ)) (t : Arena) → Grows t (on_records (λ rs. buckets_over wait rs below tares mss) t).0
unfolding on_records with_records buckets_over left_out
buckets_over_grows wait below tares [] t = grows_self t
buckets_over_grows wait [] tares ([] ∷ mss) t = buckets_over_grows wait [] (drop 1 tares) mss t
buckets_over_grows wait [] tares ((m ∷ ms) ∷ mss) t =
    let u : Arena × ℕ = on_records (λ rs. bucket wait rs [] tares (m ∷ ms)) t in
    grows_trans t u.0 (on_records (λ rs. buckets_over wait rs (u.1 ∷ []) (drop 1 tares) mss) u.0).0 (bucket_grows wait [] tares (m ∷ ms) t)
    (buckets_over_grows wait (u.1 ∷ []) (drop 1 tares) mss u.0)
buckets_over_grows wait (b ∷ below) tares (ms ∷ mss) t =
    let u : Arena × ℕ = on_records (λ rs. bucket wait rs (b ∷ below) tares ms) t in
    grows_trans t u.0 (on_records (λ rs. buckets_over wait rs (u.1 ∷ b ∷ below) (drop 1 tares) mss) u.0).0 (bucket_grows wait (b ∷ below) tares ms t)
    (buckets_over_grows wait (u.1 ∷ b ∷ below) (drop 1 tares) mss u.0)
