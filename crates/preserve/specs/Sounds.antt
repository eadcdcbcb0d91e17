-- The nodes of what encode reaches go by rule, whatever the build's next fresh number.
use Rattle.std.specs.Prelude.{◌≡◌, refl, ◌≢◌, Bool, true, false, not, ◌&&◌, ℕ, ◌≤◌, leb, ltb}
use Rattle.std.proofs.Common.{sym, ap, ◌∙◌, subst, arith, eqb-true, ltb-false, leb-true}
use mathlib.Core.List.{List, [], ◌∷◌, ◌++◌, map, reverse}
use Rattle.rules.specs.Lists.{in_turn}
use Rattle.rules.specs.Records.{Node, Entry, Record, waiting, node_at}
use Rattle.rules.specs.Totalizer.{Arena, define_output}
use Rattle.rules.specs.Build.{Build, restructured, with_arena, records, unbuilt, largest, root}
use Rattle.rules.specs.Buckets.{build_structure}
use Rattle.rules.specs.Refinement.{due, patched, extend_bucket, merge_structures}
use Rattle.rules.specs.Encode.{prepared, root_values, encode_outputs, divisor_above}
use Rattle.laws.specs.Records.Words.{both}
use Rattle.laws.specs.Records.Places.{place, nodes_same, places_same, waiting_none}
use Rattle.laws.specs.WellFormed.Plain.{Sound, Formed}
use Rattle.laws.specs.Totalizer.Defines.{Over, over_write, over_take, define_keeps, extend_bucket_keeps}
use Rattle.preserve.specs.FirstBuild.{first_sound}
use Rattle.preserve.specs.RefinementWhole.{patched_sound, merged_fresh}
use Rattle.preserve.specs.Encodes.{encode_fresh, still_built, prepared_cases}

-- every node among the records goes by rule
abbrev pub Sounds : List Record → Type 0
Sounds rs = Sound (node_at rs) (place rs)

same_sound : (at at' : ℕ → Node) (pl pl' : ℕ → Bool) → at' ≡ at → pl' ≡ pl → Sound at pl → Sound at' pl'
same_sound at at' pl pl' a p s = subst (λ (x : ℕ → Node). Sound x pl') (sym a) (subst (λ (y : ℕ → Bool). Sound at y) (sym p) s)

-- steps that change no node keep it
module _ {A : Type 0} (f : Arena → A → Arena) (s : Arena)
    (keeps : (t : Arena) (x : A) → Over (node_at s.records) (place s.records) t → Over (node_at s.records) (place s.records) (f t x)) where
  over_turns : (xs : List A) (t : Arena) → Over (node_at s.records) (place s.records) t →
      Over (node_at s.records) (place s.records) (in_turn f t xs)
  unfolding in_turn
  over_turns [] t o = o
  over_turns (x ∷ xs) t o = over_turns xs (f t x) (keeps t x o)

  turns_sound : (xs : List A) → Sounds s.records → Sounds (in_turn f s xs).records
  turns_sound xs h =
      let o : Over (node_at s.records) (place s.records) (in_turn f s xs) = over_turns xs s (record { at_is = refl; place_is = refl }) in
      same_sound (node_at s.records) (node_at (in_turn f s xs).records) (place s.records) (place (in_turn f s xs).records) o.at_is
      o.place_is h

-- defining outputs does
pub outputs_sound : (b : Build) (lo end : ℕ) → Sounds b.arena.records → Sounds (encode_outputs b lo end).arena.records
unfolding encode_outputs with_arena restructured define_output
outputs_sound b lo end h =
    let at : ℕ → Node = node_at b.arena.records in
    let pl : ℕ → Bool = place b.arena.records in
    turns_sound (λ s v. define_output s (root b) v) b.arena
    (λ t v o. define_keeps (Over at pl) (over_write at pl) (over_take at pl) (node_at t.records (root b)).height t (root b) v o)
    (root_values b lo end) h

-- so does what waits
pub waiting_sound : (rs : List Record) (q : List Entry) → Sounds rs → Sounds (rs ++ map waiting q)
waiting_sound rs q h =
    same_sound (node_at rs) (node_at (rs ++ map waiting q)) (place rs) (place (rs ++ map waiting q))
    (nodes_same rs (map waiting q) (waiting_none q)) (places_same rs (map waiting q) (waiting_none q)) h

-- a refinement does
refined_sound : (b : Build) → Formed b → b.built ≢ 0 → b.set ≤ largest b.queue → (merge_structures b).arena.fresh ≤ 1000000001 →
    Sounds (merge_structures b).arena.records
unfolding merge_structures with_arena restructured patched
refined_sound b f built reach few =
    let c : Build = patched b in
    let at : ℕ → Node = node_at c.arena.records in
    let pl : ℕ → Bool = place c.arena.records in
    turns_sound (extend_bucket b.arena.records) c.arena
    (λ t n o. extend_bucket_keeps (Over at pl) (over_write at pl) (over_take at pl) b.arena.records t n o) (reverse b.buckets)
    (patched_sound b f built reach (omega (arith, merged_fresh b.arena.records (reverse b.buckets) c.arena)))

first_build_sound : (b : Build) → Formed b → 2 ≤ b.inputs → divisor_above b ≡ false → unbuilt b ≡ true →
    (build_structure b).arena.fresh ≤ 1000000001 → Sounds (build_structure b).arena.records
unfolding unbuilt divisor_above build_structure restructured
first_build_sound b f two reached e few =
    first_sound b f (eqb-true b.built 0 e) two
    (ltb-false _ _ (ap (λ (t : Bool). t && ltb (largest b.queue) b.set) (sym e) ∙ reached)) few

-- the first build, refinement or nothing
pub prepared_sound : (b : Build) → Formed b → 2 ≤ b.inputs → divisor_above b ≡ false → (prepared b).arena.fresh ≤ 1000000001 →
    Sounds (prepared b).arena.records
unfolding due
prepared_sound b f two reached =
    prepared_cases (λ c. c.arena.fresh ≤ 1000000001 → Sounds c.arena.records) b (λ e. first_build_sound b f two reached e)
    (λ e d. refined_sound b f (still_built b e) (leb-true _ _ (both (not (unbuilt b)) (leb b.set (largest b.queue)) d).1))
    (λ e d few. f.sound)

-- the records that encode reaches
pub encode_sound : (b : Build) (lo end : ℕ) → Formed b → 2 ≤ b.inputs → divisor_above b ≡ false →
    (encode_outputs (prepared b) lo end).arena.fresh ≤ 1000000001 → Sounds (records (encode_outputs (prepared b) lo end))
unfolding records
encode_sound b lo end f two reached few =
    waiting_sound (encode_outputs (prepared b) lo end).arena.records (encode_outputs (prepared b) lo end).queue
    (outputs_sound (prepared b) lo end (prepared_sound b f two reached (omega (arith, encode_fresh (prepared b) lo end))))
