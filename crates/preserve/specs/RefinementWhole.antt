-- A refinement whole: the old buckets linked over the new segment, then earlier outputs extended.
use Rattle.std.specs.Prelude.{◌≡◌, ◌≢◌, ℕ, ◌+◌, ◌≤◌, ◌<◌, get_or}
use Rattle.std.proofs.Math.Path.{sym, subst}
use Rattle.std.proofs.Math.Bool.{true}
use mathlib.Core.List.{List, [], ◌∷◌, ◌++◌, reverse}
use Rattle.std.proofs.Common.{arith}
use Rattle.std.proofs.Math.ListN.{length}
use Rattle.rules.specs.Lists.{in_turn}
use Rattle.rules.specs.Records.{join, Record, node_at}
use Rattle.rules.specs.Totalizer.{Arena}
use Rattle.rules.specs.Build.{Build, restructured, with_arena, largest}
use Rattle.rules.specs.Refinement.{relink, patched, extend_bucket, merge_structures}
use Rattle.laws.specs.Lists.Facts.{All, All_map, All_self}
use Rattle.laws.specs.Records.Places.{place}
use Rattle.laws.specs.WellFormed.Plain.{Sound, variables_of, Formed}
use Rattle.laws.specs.Buckets.Towers.{Tower}
use Rattle.laws.specs.Refinement.Relinks.{climb, relink_climb}
use Rattle.laws.specs.WellFormed.Keeps.{variables_same, All_reverse}
use Rattle.laws.specs.Totalizer.Defines.{extend_bucket_keeps, fresh_write, fresh_take}
use Rattle.laws.specs.Refinement.Extends.{Goes, goes_turns, extend_bucket_goes}
use Rattle.preserve.specs.Given.{Ahead}
use Rattle.preserve.specs.Arenas.{counted_of, goes_formed, goes_ahead}
use Rattle.preserve.specs.Refinement.{mss, q, wait, new_tares, built_tower, held, linked_anew, input_same, formed_over}

-- a build that refinement left, its old buckets B joins
pub record Refined (B : List ℕ) (c : Build) : Type 0 where
  pub formed : Formed c
  pub ahead : Ahead c
  pub joins : All (λ n. (l : ℕ) × (r : ℕ) × ((node_at c.arena.records n).kind ≡ join true l r)) B

-- the next fresh number of the whole is no less than after the new segment
pub merged_fresh : (old : List Record) (bs : List ℕ) (s : Arena) → s.fresh ≤ (in_turn (extend_bucket old) s bs).fresh
unfolding in_turn
merged_fresh old bs s = go bs s (omega arith)
  where
    go : (bs : List ℕ) (t : Arena) → s.fresh ≤ t.fresh → s.fresh ≤ (in_turn (extend_bucket old) t bs).fresh
    go [] t h = h
    go (n ∷ bs) t h = go bs (extend_bucket old t n)
        (extend_bucket_keeps (λ t. s.fresh ≤ t.fresh) (fresh_write s.fresh) (fresh_take s.fresh) old t n h)

-- over any tower with a bucket the nodes are sound
module _ (b : Build) (f : Formed b) (built : b.built ≢ 0) (reach : b.set ≤ largest b.queue)
    (room : b.arena.fresh + length (new_tares b f built reach) ≤ 1000000001) where
  sound_over : (rs : List Record) (lower : List ℕ) → 1 ≤ length lower →
      Tower (wait b f built reach) b.buckets (q b f built reach).records (length (q b f built reach).records) [] (mss b f built reach)
      (rs, lower) →
      Sound (node_at (relink rs (get_or lower 0 0) (reverse b.buckets))) (place (relink rs (get_or lower 0 0) (reverse b.buckets)))
  sound_over rs [] some t = absurd (omega arith)
  sound_over rs (d ∷ ds) some t =
      subst (λ (X : List Record). Sound (node_at X) (place X)) (sym (relink_climb rs d b.buckets))
      (linked_anew b f built reach room rs d ds t).sound

  pub patched_sound : Sound (node_at (patched b).arena.records) (place (patched b).arena.records)
  unfolding patched restructured
  patched_sound =
      let t = built_tower b f built reach room in
      sound_over _ _ (t.some (omega (arith, held b f built reach))) t

module _ (b : Build) (f : Formed b) (built : b.built ≢ 0) (reach : b.set ≤ largest b.queue) (ahead : Ahead b) where
  -- the build over new buckets `lower` among the records `rs`
  abbrev over : List Record → List ℕ → Build
  over rs lower = restructured b b.set (new_tares b f built reach ++ b.tares) (b.buckets ++ lower)
      (q b f built reach).queue (record {
        records = relink rs (get_or lower 0 0) (reverse b.buckets);
        fresh = b.arena.fresh + length (new_tares b f built reach);
        clauses = b.arena.clauses;
      })

  module _ (room : b.arena.fresh + length (new_tares b f built reach) ≤ 1000000001) where
    refined_over : (rs : List Record) (lower : List ℕ) → 1 ≤ length lower →
        Tower (wait b f built reach) b.buckets (q b f built reach).records (length (q b f built reach).records) []
        (mss b f built reach) (rs, lower) →
        Refined b.buckets (over rs lower)
    unfolding restructured
    refined_over rs [] some t = absurd (omega arith)
    refined_over rs (d ∷ ds) some t =
        let same : climb rs d b.buckets ≡ relink rs d (reverse b.buckets) = sym (relink_climb rs d b.buckets) in
        let at : List Record → Build = λ R. restructured b b.set (new_tares b f built reach ++ b.tares) (b.buckets ++ (d ∷ ds))
        (q b f built reach).queue (record {
          records = R;
          fresh = b.arena.fresh + length (new_tares b f built reach);
          clauses = b.arena.clauses;
        }) in
        let R : List Record = climb rs d b.buckets in
        let vars : variables_of (node_at R) b.inputs ≡ variables_of (node_at b.arena.records) b.inputs =
        variables_same (node_at b.arena.records) (node_at R) b.inputs (input_same b f built reach room rs d ds t) in
        let now : Refined b.buckets (at R) = record {
          formed = formed_over b f built reach room rs d ds t ahead;
          ahead = subst (λ (vs : List ℕ). All (λ v. v < b.arena.fresh + length (new_tares b f built reach)) vs) (sym vars)
              (All_map (λ v (h : v < b.arena.fresh). omega arith) (variables_of (node_at b.arena.records) b.inputs) ahead);
          joins = All_map (λ n h. (linked_anew b f built reach room rs d ds t).joins n h) b.buckets (All_self b.buckets);
        } in
        subst (λ (X : List Record). Refined b.buckets (at X)) same now

    pub patched_refined : Refined b.buckets (patched b)
    unfolding patched
    patched_refined =
        let t = built_tower b f built reach room in
        refined_over _ _ (t.some (omega (arith, held b f built reach))) t

  -- a refinement leaves a well formed build
  pub refinement_formed : (merge_structures b).arena.fresh ≤ 1000000001 → 1 ≤ b.inputs → Formed (merge_structures b) ×
      Ahead (merge_structures b)
  unfolding merge_structures with_arena restructured patched
  refinement_formed few some =
      let c : Build = patched b in
      let t : Arena = in_turn (extend_bucket b.arena.records) c.arena (reverse b.buckets) in
      let segment : c.arena.fresh ≤ 1000000001 = omega (arith, merged_fresh b.arena.records (reverse b.buckets) c.arena) in
      let r : Refined b.buckets c = patched_refined segment in
      let g : Goes (node_at c.arena.records) (place c.arena.records) r.formed.sound c.tares
      (variables_of (node_at c.arena.records) c.inputs) c.arena t =
      goes_turns (node_at c.arena.records) (place c.arena.records) r.formed.sound c.tares
      (variables_of (node_at c.arena.records) c.inputs)
      (λ n. (l : ℕ) × (r : ℕ) × ((node_at c.arena.records n).kind ≡ join true l r)) (extend_bucket b.arena.records)
      (λ s n j k. extend_bucket_goes (node_at c.arena.records) (place c.arena.records) r.formed.sound c.tares
      (variables_of (node_at c.arena.records) c.inputs) b.arena.records s n j k)
      c.arena (reverse b.buckets) (All_reverse (λ n. (l : ℕ) × (r : ℕ) × ((node_at c.arena.records n).kind ≡ join true l r))
      b.buckets r.joins) (counted_of c r.formed r.ahead some) in
      (goes_formed c r.formed t g few, goes_ahead c r.formed t g)
