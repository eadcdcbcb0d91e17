-- A refinement keeps what a build weighs and what its clauses mean.
use Rattle.std.proofs.Math.Path.{◌≡◌, refl, sym, ap, subst}
use Rattle.std.proofs.Common.{◌∙◌}
use Rattle.std.specs.Prelude.{◌≢◌, ◌⊎◌, Bool, ℕ, suc, ◌+◌, ◌*◌, ◌-◌, ◌/◌, ◌^◌, ◌≤◌, ◌<◌, get_or, drop, ℤ, pos}
use Rattle.std.proofs.Math.Logic.{inl}
use Rattle.std.proofs.Math.Bool.{true}
use mathlib.Core.List.{List, [], ◌∷◌, ◌++◌, map, reverse}
use native.Mathlib.Omega.{arith}
use Rattle.std.proofs.Math.ListN.{length}
use Rattle.rules.specs.Digits.{top_bit}
use Rattle.rules.specs.Records.{Kind, leaf, join, Node, Output, Record, node_at, outputs, right_link}
use Rattle.rules.specs.Build.{Build, restructured, with_arena, largest}
use Rattle.rules.specs.Buckets.{buckets_over}
use Rattle.rules.specs.Queue.{gathered}
use Rattle.rules.specs.Refinement.{relink, former_half, tares_left_out, patched, merge_structures}
use Rattle.laws.specs.Lists.Facts.{All, All_map, All_append, All_second, rising_length, occurs, occurs_none, All_occurs}
use Rattle.laws.specs.Records.Places.{place, place_inside, leaf_place, join_place}
use Rattle.laws.specs.WellFormed.Plain.{Sound, Formed}
use Rattle.laws.specs.WellFormed.Keeps.{All_take, All_reverse}
use Rattle.laws.specs.Totalizer.Grows.{grown_outputs}
use Rattle.laws.specs.Buckets.Towers.{Tower}
use Rattle.laws.specs.Refinement.Relinks.{climb, relink_climb}
use Rattle.preserve.specs.Gathered.{begun}
use Rattle.preserve.specs.Given.{Ahead}
use Rattle.preserve.specs.Refinement.{built_tower, held}
use Rattle.preserve.specs.RefinementWhole.{patched_refined}
use Rattle.guarantee.specs.Meaning.Truth.{Truths, Member, all_members}
use Rattle.guarantee.specs.Meaning.Derived.{every}
use Rattle.guarantee.specs.Meaning.Defining.{Told, Grown}
use Rattle.guarantee.specs.Counting.Sums.{Begins, begins_at, Reads}
use Rattle.guarantee.specs.Counting.Buckets.{counted, over_begins}
use Rattle.guarantee.specs.Counting.Queues.{heap}
use Rattle.guarantee.specs.Counting.Chains.{tare_sum}
use Rattle.guarantee.specs.Meaning.Keeping.{told_more}
use Rattle.guarantee.specs.Refinement.Patching.{former, told_moved}
use Rattle.guarantee.specs.Refinement.Extending.{told_asked, buckets_told}
use Rattle.guarantee.specs.Counting.Leaves.{run_keeps, over_keeps}
use Rattle.guarantee.specs.Histories.Clauses.{Free, free_leaves, free_fresh, free_tares, occurs_reverse}
use Rattle.guarantee.specs.Counting.Weighing.{WeighsBuilt}
use Rattle.guarantee.specs.Refinement.Whole.{q, wait, fresh_tares, own, mss, R, segment, up, chain_rs, grown, begins_all, bucket_joins, left, refined_counts, refined_rest, refined_left}

module _ (b : Build) (f : Formed b) (built : b.built ≢ 0) (reach : b.set ≤ largest b.queue) where
  -- the build over new buckets `lower` among the records `rs`
  abbrev over : List Record → List ℕ → Build
  over rs lower = restructured b b.set (fresh_tares b f built reach ++ b.tares) (b.buckets ++ lower) (q b f built reach).queue (record {
    records = relink rs (get_or lower 0 0) (reverse b.buckets);
    fresh = b.arena.fresh + length (fresh_tares b f built reach);
    clauses = b.arena.clauses;
  })

  -- new buckets, with what they count and whose leaves they have
  record New (rs : List Record) (lower : List ℕ) : Type 0 where
    tower : Tower (wait b f built reach) b.buckets (q b f built reach).records (length (q b f built reach).records) [] (mss b f built reach) (rs, lower)
    begins : Begins (q b f built reach).records rs
    count : (t : Truths) (g : ℕ → ℕ) → Reads (length b.arena.records) t g rs →
        (m : ℕ) × (m + length lower ≡ length (mss b f built reach)) ×
        (2 ^ m * counted g (wait b f built reach) (rs, lower) ≡ heap g (mss b f built reach) + 2 ^ m * tare_sum t (drop m (fresh_tares b f built reach ++ own b f built reach)))
    leaves : (n : ℕ) (x : ℤ) → (node_at rs n).kind ≡ leaf x → Free (b.arena.fresh + length (fresh_tares b f built reach)) (outputs b.arena.records) x

  over_weighs : (rs : List Record) (lower : List ℕ) → 1 ≤ length lower → New rs lower → Formed (over rs lower) → (xs : List ℤ) (ws : List ℕ) → WeighsBuilt xs ws b → WeighsBuilt xs ws (over rs lower)
  unfolding restructured
  over_weighs rs [] some n f' xs ws w = absurd (omega arith)
  over_weighs rs (d ∷ ds) some n f' xs ws w =
      let same : climb rs d b.buckets ≡ relink rs d (reverse b.buckets) = sym (relink_climb rs d b.buckets) in
      let at : List Record → Build = λ X. restructured b b.set (fresh_tares b f built reach ++ b.tares) (b.buckets ++ (d ∷ ds)) (q b f built reach).queue (record { records = X; fresh = b.arena.fresh + length (fresh_tares b f built reach); clauses = b.arena.clauses }) in
      let sound : Sound (node_at (R b f built reach rs d ds n.tower n.begins n.count)) (place (R b f built reach rs d ds n.tower n.begins n.count)) =
      subst (λ (X : List Record). Sound (node_at X) (place X)) (sym same) f'.sound in
      subst (λ (X : List Record). WeighsBuilt xs ws (at X)) same (record {
        left_out = left b f built reach rs d ds n.tower n.begins n.count sound (λ x. true);
        left_count = refined_left b f built reach rs d ds n.tower n.begins n.count sound (λ x. true) xs ws w;
        counts = λ t. refined_counts b f built reach rs d ds n.tower n.begins n.count sound t xs ws w;
        rest = λ j k t is. refined_rest b f built reach rs d ds n.tower n.begins n.count sound t xs ws w j k is;
      })

  -- the new numbers
  abbrev fresh' : ℕ
  fresh' = b.arena.fresh + length (fresh_tares b f built reach)

  -- the former right maximum of an old bucket is the same over the records with the new nodes
  half_same : (rs : List Record) → Begins b.arena.records rs → (n : ℕ) → 1 ≤ occurs n b.buckets → former_half rs n ≡ former_half b.arena.records n
  unfolding former_half right_link
  half_same rs g n o =
      let base : List Record = b.arena.records in
      let (half, l, r, e) = All_occurs (λ m. (half : Bool) × (l : ℕ) × (r : ℕ) × ((node_at base m).kind ≡ join half l r)) n b.buckets (bucket_joins b f built reach) o in
      let here : node_at rs n ≡ node_at base n = begins_at base rs g n (place_inside base n (join_place base n half l r e)) in
      let there : node_at rs r ≡ node_at base r = begins_at base rs g r (place_inside base r ((f.sound n).links_are half l r e).1) in
      ap (λ (nd : Node). (node_at rs (right_link nd.kind)).maximum / 2) here ∙
      (ap (λ (k : Kind). (node_at rs (right_link k)).maximum / 2) e ∙
      (ap (λ (nd : Node). nd.maximum / 2) there ∙ sym (ap (λ (k : Kind). (node_at base (right_link k)).maximum / 2) e)))

  -- what the old buckets' outputs were asked, over the old records and in refinement's order
  over_told : (rs : List Record) (lower : List ℕ) → 1 ≤ length lower → New rs lower → Told every b.arena → Told (former b.arena.records (reverse b.buckets) fresh') (over rs lower).arena
  unfolding restructured
  over_told rs [] some n told = absurd (omega arith)
  over_told rs (d ∷ ds) some n told =
      let base : List Record = b.arena.records in
      let same : climb rs d b.buckets ≡ relink rs d (reverse b.buckets) = sym (relink_climb rs d b.buckets) in
      let g : Begins base rs = begins_all b f built reach rs d ds n.tower n.begins n.count in
      let appended : Told every (record { records = rs; fresh = fresh'; clauses = b.arena.clauses }) =
      told_more b.arena (record { records = rs; fresh = fresh'; clauses = b.arena.clauses }) f.sound (λ m h. begins_at base rs g m (place_inside base m h))
      (grown_outputs base rs (grown b f built reach rs d ds n.tower n.begins n.count)) refl (omega arith) n.leaves told in
      let s : Tower (wait b f built reach) b.buckets (q b f built reach).records (length (q b f built reach).records) [] (mss b f built reach) (rs, d ∷ ds) = n.tower in
      let patched_told : Told (former rs b.buckets fresh') (record { records = climb rs d b.buckets; fresh = fresh'; clauses = b.arena.clauses }) =
      told_moved rs b.buckets d s.standing.sound s.standing.others s.standing.there.0 s.standing.apart.0 (climb rs d b.buckets)
      (up b f built reach rs d ds n.tower n.begins n.count) (chain_rs b f built reach rs d ds n.tower n.begins n.count) fresh' b.arena.clauses appended in
      subst (λ (X : List Record). Told (former base (reverse b.buckets) fresh') (record { records = X; fresh = fresh'; clauses = b.arena.clauses })) same
      (told_asked (former rs b.buckets fresh') (former base (reverse b.buckets) fresh') (record { records = climb rs d b.buckets; fresh = fresh'; clauses = b.arena.clauses })
      (λ o i ask low occ. subst (λ (m : ℕ). i ≤ m) (sym (half_same rs g o.node occ)) (ask low (omega (arith, occ, occurs_reverse o.node b.buckets)))) patched_told)

  over_outputs : (rs : List Record) (lower : List ℕ) → 1 ≤ length lower → New rs lower → outputs (over rs lower).arena.records ≡ outputs b.arena.records
  unfolding restructured
  over_outputs rs [] some n = absurd (omega arith)
  over_outputs rs (d ∷ ds) some n =
      ap outputs (relink_climb rs d b.buckets) ∙
      ((up b f built reach rs d ds n.tower n.begins n.count).outputs_same ∙ grown_outputs b.arena.records rs (grown b f built reach rs d ds n.tower n.begins n.count))

  -- leaves are no buckets, and stay
  over_leaf : (rs : List Record) (lower : List ℕ) → 1 ≤ length lower → New rs lower → (i : ℕ) (x : ℤ) → (node_at b.arena.records i).kind ≡ leaf x → (node_at (over rs lower).arena.records i).kind ≡ leaf x
  unfolding restructured
  over_leaf rs [] some n i x e = absurd (omega arith)
  over_leaf rs (d ∷ ds) some n i x e =
      let base : List Record = b.arena.records in
      let apart : occurs i b.buckets ≡ 0 =
      occurs_none (λ m. (half : Bool) × (l : ℕ) × (r : ℕ) × ((node_at base m).kind ≡ join half l r)) i b.buckets (bucket_joins b f built reach)
      (λ (half, l, r, j). leaf_no_join half l r x (sym e ∙ j)) in
      ap (λ (X : List Record). (node_at X i).kind) (relink_climb rs d b.buckets) ∙
      (ap (λ (nd : Node). nd.kind) ((up b f built reach rs d ds n.tower n.begins n.count).same i apart ∙
      begins_at base rs (begins_all b f built reach rs d ds n.tower n.begins n.count) i (place_inside base i (leaf_place base i x e))) ∙ e)
    where
      leaf_no_join : (half : Bool) (l r : ℕ) (x : ℤ) → leaf x ≡ join half l r → ⊥
      leaf_no_join half l r x q = let z : ◌≡◌ {A = ℕ} 0 1 = cc in omega arith

  module _ (ahead : Ahead b) (told : Told every b.arena) (room : fresh' ≤ 1000000001) where
    abbrev result : List Record × List ℕ
    result = buckets_over (wait b f built reach) (q b f built reach).records [] (fresh_tares b f built reach ++ own b f built reach) (mss b f built reach)

    tares_free : All (λ u. Free fresh' (outputs b.arena.records) (pos u)) (fresh_tares b f built reach ++ own b f built reach)
    unfolding tares_left_out
    tares_free =
        All_append (λ u. Free fresh' (outputs b.arena.records) (pos u)) (fresh_tares b f built reach) (own b f built reach)
        (subst (λ (k : ℕ). All (λ u. Free (b.arena.fresh + k) (outputs b.arena.records) (pos u)) (fresh_tares b f built reach)) (sym (rising_length _ b.arena.fresh)) (free_fresh b.arena told _))
        (All_take (λ u. Free fresh' (outputs b.arena.records) (pos u)) (suc (length b.tares) - length b.buckets) b.tares
        (free_tares b.arena told b.tares fresh' (omega arith) (All_second (λ u. u < b.arena.fresh) (map (λ (o : Output). o.number) (outputs b.arena.records)) b.tares f.taken.below_fresh) f.taken.once))

    new_buckets : New result.0 result.1
    unfolding gathered
    new_buckets = record {
      tower = built_tower b f built reach room;
      begins = over_begins (wait b f built reach) (q b f built reach).records [] (fresh_tares b f built reach ++ own b f built reach) (mss b f built reach);
      count = segment b f built reach;
      leaves = over_keeps (Free fresh' (outputs b.arena.records)) (wait b f built reach) (q b f built reach).records [] (fresh_tares b f built reach ++ own b f built reach) (mss b f built reach) tares_free
          (run_keeps (Free fresh' (outputs b.arena.records)) (largest b.queue) b.set (begun b (top_bit b.built)) (free_leaves b.arena told fresh' (omega arith)));
    }

    some : 1 ≤ length result.1
    some = (built_tower b f built reach room).some (omega (arith, held b f built reach))

    formed : Formed (patched b)
    formed = (patched_refined b f built reach ahead room).formed

    -- the patched build weighs the inputs at the finer divisor
    pub patched_weighs : (xs : List ℤ) (ws : List ℕ) → WeighsBuilt xs ws b → WeighsBuilt xs ws (patched b)
    unfolding patched
    patched_weighs xs ws w = over_weighs result.0 result.1 some new_buckets formed xs ws w

    pub patched_outputs : outputs (patched b).arena.records ≡ outputs b.arena.records
    unfolding patched
    patched_outputs = over_outputs result.0 result.1 some new_buckets

    pub patched_leaf : (i : ℕ) (x : ℤ) → (node_at b.arena.records i).kind ≡ leaf x → (node_at (patched b).arena.records i).kind ≡ leaf x
    unfolding patched
    patched_leaf i x e = over_leaf result.0 result.1 some new_buckets i x e

    -- all clauses are there once the earlier outputs were extended
    pub merged_told : Grown (patched b).arena (merge_structures b).arena × Told every (merge_structures b).arena
    unfolding merge_structures with_arena restructured patched
    merged_told =
        let base : List Record = b.arena.records in
        let c : Build = patched b in
        let same : outputs c.arena.records ≡ outputs base = patched_outputs in
        buckets_told base fresh' (node_at c.arena.records) (place c.arena.records) formed.sound (reverse b.buckets)
        (All_reverse (λ n. (l : ℕ) × (r : ℕ) × ((node_at c.arena.records n).kind ≡ join true l r)) b.buckets (patched_refined b f built reach ahead room).joins)
        c.arena (record { nodes_are = refl; places_are = refl; told = over_told result.0 result.1 some new_buckets told }) (omega arith)
        (subst (All (λ o. Member o (outputs base) ⊎ (fresh' ≤ o.number))) (sym same) (All_map (λ o m. inl m) (outputs base) (all_members (outputs base))))
        (subst (λ (os : List Output). All (λ o. Member o os) (outputs base)) (sym same) (all_members (outputs base)))
