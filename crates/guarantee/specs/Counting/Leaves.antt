-- The leaves that a build adds are tares.
use Rattle.std.specs.Prelude.{◌≡◌, Bool, ltb, length, take, drop, ℤ, pos}
use Rattle.std.proofs.Math.Path.{subst}
use Rattle.std.proofs.Math.Bool.{true, false}
use mathlib.Core.List.{List, [], ◌∷◌, map}
use Prim.Native.Nat.{ℕ, zero, suc, ◌/◌}
use Rattle.std.proofs.Common.{arith}
use Rattle.rules.specs.Lists.{sort}
use Rattle.rules.specs.Records.{leaf, join, dummy, Node, Entry, Record, node_at, leaf_node, dummy_node}
use Rattle.rules.specs.Totalizer.{joining, add, merge_by, merge}
use Rattle.rules.specs.Build.{largest}
use Rattle.rules.specs.Queue.{run, Sorting, queue_step, queue_run}
use Rattle.rules.specs.Buckets.{with_tare, lower, with_below, bucket, left_out, buckets_over}
use Rattle.laws.specs.Lists.Facts.{All, All_drop}
use Rattle.laws.specs.Totalizer.Grows.{at_snoc}

module _ (P : ℤ → Type 0) where
  -- P holds of every leaf's literal
  abbrev pub Leaves : List Record → Type 0
  Leaves rs = (n : ℕ) (x : ℤ) → (node_at rs n).kind ≡ leaf x → P x

  OfNode : Node → Type 0
  OfNode nd = (x : ℤ) → nd.kind ≡ leaf x → P x

  leaf_is : (x y : ℤ) → leaf x ≡ leaf y → x ≡ y
  leaf_is x y e = cc

  join_none : (half : Bool) (l r : ℕ) (x : ℤ) → join half l r ≡ leaf x → ⊥
  join_none half l r x e = let z : ◌≡◌ {A = ℕ} 0 1 = cc in omega arith

  dummy_none : (x : ℤ) → dummy ≡ leaf x → ⊥
  dummy_none x e = let z : ◌≡◌ {A = ℕ} 0 1 = cc in omega arith

  add_keeps : (rs : List Record) (nd : Node) → OfNode nd → Leaves rs → Leaves (add rs nd).0
  unfolding add OfNode dummy_node
  add_keeps rs nd h old = at_snoc OfNode rs nd old h (λ x e. absurd (dummy_none x e))

  join_keeps : (rs : List Record) (half : Bool) (l r : ℕ) → Leaves rs → Leaves (add rs (joining rs half l r)).0
  unfolding joining OfNode
  join_keeps rs half l r old = add_keeps rs (joining rs half l r) (λ x e. absurd (join_none half l r x e)) old

  merge_keeps : (f : ℕ) (rs : List Record) (ms : List ℕ) → Leaves rs → Leaves (merge_by f rs ms).0
  unfolding merge_by
  merge_keeps zero rs ms old = old
  merge_keeps (suc f) rs [] old = old
  merge_keeps (suc f) rs (m ∷ []) old = old
  merge_keeps (suc f) rs (m ∷ m' ∷ ms) old =
      let w : List ℕ = m ∷ m' ∷ ms in
      let a : List Record × ℕ = merge_by f rs (take (length w / 2) w) in
      let b : List Record × ℕ = merge_by f a.0 (drop (length w / 2) w) in
      join_keeps b.0 false a.1 b.1 (merge_keeps f a.0 (drop (length w / 2) w) (merge_keeps f rs (take (length w / 2) w) old))

  step_keeps : (w : ℕ) (q : Sorting) → Leaves q.records → Leaves (queue_step w q).records
  unfolding queue_step merge
  step_keeps w q old = merge_keeps (length (map (λ (e : Entry). e.node) (run w q.queue))) q.records (map (λ (e : Entry). e.node) (run w q.queue)) old

  pub run_keeps : (fuel d : ℕ) (q : Sorting) → Leaves q.records → Leaves (queue_run fuel d q).records
  unfolding queue_run
  run_keeps zero d q old = old
  run_keeps (suc fuel) d q old = go (ltb (largest q.queue) d) (run_keeps fuel d (queue_step (largest q.queue) q) (step_keeps (largest q.queue) q old))
    where
      go : (b : Bool) → Leaves (queue_run fuel d (queue_step (largest q.queue) q)).records →
          Leaves (elim b as (λ x. Sorting) [ true ↦ q | false ↦ queue_run fuel d (queue_step (largest q.queue) q) ]).records
      go true ih = old
      go false ih = ih

  -- the tares of a list
  abbrev pub Tares : List ℕ → Type 0
  Tares ts = All (λ u. P (pos u)) ts

  tare_keeps : (rs : List Record) (tares members : List ℕ) → Tares tares → Leaves rs → Leaves (with_tare rs tares members).0
  unfolding with_tare leaf_node OfNode
  tare_keeps rs [] members a old = old
  tare_keeps rs (tare ∷ tares) members a old = add_keeps rs (leaf_node (pos tare)) (λ x e. subst P (leaf_is (pos tare) x e) a.0) old

  below_keeps : (wait : Bool) (below : List ℕ) (r : List Record × ℕ) → Leaves r.0 → Leaves (with_below wait below r).0
  unfolding with_below dummy_node OfNode
  below_keeps wait (b ∷ below) (rs, m) old = join_keeps rs true m b old
  below_keeps true [] (rs, m) old =
      join_keeps (add rs dummy_node).0 true m (add rs dummy_node).1 (add_keeps rs dummy_node (λ x e. absurd (dummy_none x e)) old)
  below_keeps false [] (rs, m) old = old

  bucket_keeps : (wait : Bool) (rs : List Record) (below tares members : List ℕ) → Tares tares → Leaves rs → Leaves (bucket wait rs below tares members).0
  unfolding bucket merge
  bucket_keeps wait rs below tares members a old =
      let (rs₁, ms) = with_tare rs tares members in
      let sorted : List ℕ = sort (lower rs₁) ms in
      below_keeps wait below (merge_by (length sorted) rs₁ sorted) (merge_keeps (length sorted) rs₁ sorted (tare_keeps rs tares members a old))

  pub over_keeps : (wait : Bool) (rs : List Record) (below tares : List ℕ) (mss : List (List ℕ)) → Tares tares → Leaves rs → Leaves (buckets_over wait rs below tares mss).0
  unfolding buckets_over
  over_keeps wait rs below tares [] a old = old
  over_keeps wait rs below tares (ms ∷ mss) a old =
      go (left_out below ms) (over_keeps wait rs below (drop 1 tares) mss (All_drop (λ u. P (pos u)) 1 tares a) old)
      (over_keeps wait (bucket wait rs below tares ms).0 ((bucket wait rs below tares ms).1 ∷ below) (drop 1 tares) mss (All_drop (λ u. P (pos u)) 1 tares a) (bucket_keeps wait rs below tares ms a old))
    where
      go : (x : Bool) → Leaves (buckets_over wait rs below (drop 1 tares) mss).0 →
          Leaves (buckets_over wait (bucket wait rs below tares ms).0 ((bucket wait rs below tares ms).1 ∷ below) (drop 1 tares) mss).0 →
          Leaves (elim x as (λ y. List Record × List ℕ) [
            | true ↦ buckets_over wait rs below (drop 1 tares) mss
            | false ↦ buckets_over wait (bucket wait rs below tares ms).0 ((bucket wait rs below tares ms).1 ∷ below) (drop 1 tares) mss
          ]).0
      go true h k = h
      go false h k = k
