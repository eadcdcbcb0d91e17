-- An accepted encode leaves state and store well formed.
use Rattle.std.specs.Prelude.{◌≡◌, refl, ◌≢◌, Bool, true, false, not, ◌&&◌, ◌||◌, List, [], ◌∷◌, ◌++◌, map, ℕ, suc, ◌+◌, ◌-◌, ◌/◌, ◌≤◌, ◌<◌, min, ltb, leb, length, get_or, take, ℤ, pos}
use Rattle.std.proofs.Common.{sym, ◌∙◌, ap, subst, arith, eqb-true, ltb-true, ltb-false, leb-true}
use Rattle.std.proofs.lemmas.Bool.{eqb-false}
use Rattle.rules.specs.declared.State.{State}
use Rattle.rules.specs.Lists.{all, in_turn, padded}
use Rattle.rules.specs.Numbers.{most_variable, capacity}
use Rattle.rules.specs.Refusals.{first_true}
use Rattle.rules.specs.Records.{waiting, join, Node, Record, node_at}
use Rattle.rules.specs.Totalizer.{Arena, define_output}
use Rattle.rules.specs.Build.{Build, restructured, with_arena, records, clause_words, clause_mark, held, build_over, build_of, unbuilt, output_weight, root, root_node, largest}
use Rattle.rules.specs.Buckets.{build_structure}
use Rattle.rules.specs.Refinement.{due, patched, merge_structures}
use Rattle.rules.specs.WellFormed.{well_formed, not_well_formed, input_variables}
use Rattle.rules.specs.Encode.{prepared, root_values, encode_outputs, nothing_asked, encode, nothing_done, work_short, divisor_above, no_room, encode_refusal, EncodeEnd, encoded, untouched, encoded_end, encode_end, encode_ub_change}
use Rattle.laws.specs.Records.Words.{both}
use Rattle.laws.specs.Lists.Facts.{All, All_rising, neither, not_not, all_facts}
use Rattle.laws.specs.Records.Places.{place, join_place, nodes_same, waiting_none}
use Rattle.laws.specs.WellFormed.Plain.{variables_of, Formed, WellFormed}
use Rattle.laws.specs.Refinement.Relinks.{linked_joins}
use Rattle.laws.specs.Totalizer.Defines.{define_keeps, fresh_write, fresh_take}
use Rattle.laws.specs.Refinement.Extends.{Goes, goes_turns, output_goes}
use Rattle.laws.specs.WellFormed.ToPlain.{padded_length}
use Rattle.laws.specs.WellFormed.Whole.{well_formed_facts, written}
use Rattle.preserve.specs.Starts.{not_first}
use Rattle.preserve.specs.Given.{Ahead, set_positive}
use Rattle.preserve.specs.FirstBuild.{first_formed, first_ahead}
use Rattle.preserve.specs.Arenas.{counted_of, goes_formed, goes_ahead}
use Rattle.preserve.specs.RefinementWhole.{refinement_formed}

-- a build that is built and well formed, its next fresh number above every input variable
pub record Ready (b : Build) : Type 0 where
  pub formed : Formed b
  pub ahead : Ahead b
  pub is_built : b.built ≢ 0

-- defining never lowers the next fresh number
output_fresh : (n : ℕ) (vs : List ℕ) (s : Arena) → s.fresh ≤ (in_turn (λ s v. define_output s n v) s vs).fresh
unfolding in_turn define_output
output_fresh n vs s = go vs s (omega arith)
  where
    go : (vs : List ℕ) (t : Arena) → s.fresh ≤ t.fresh → s.fresh ≤ (in_turn (λ s v. define_output s n v) t vs).fresh
    go [] t h = h
    go (v ∷ vs) t h = go vs (define_output t n v) (define_keeps (λ t. s.fresh ≤ t.fresh) (fresh_write s.fresh) (fresh_take s.fresh)
        (node_at t.records n).height t n v h)

pub encode_fresh : (b : Build) (lo end : ℕ) → b.arena.fresh ≤ (encode_outputs b lo end).arena.fresh
unfolding encode_outputs with_arena restructured
encode_fresh b lo end = output_fresh (root b) (root_values b lo end) b.arena

-- the values that encode defines are within the root's maximum
pub values_within : (b : Build) (lo end : ℕ) → All (λ v. (1 ≤ v) × (v ≤ (root_node b).maximum)) (root_values b lo end)
unfolding root_values
values_within b lo end =
    let w : ℕ = output_weight b in
    let fit : (x y z v : ℕ) → v < suc z + (min x y - z) → suc z ≤ v → v ≤ y = λ x y z v h k. omega arith in
    All_rising (λ v. (1 ≤ v) × (v ≤ (root_node b).maximum)) (min (suc ((end - 1) / w)) (root_node b).maximum - lo / w) (suc (lo / w))
    (λ v a h. (omega arith, fit (suc ((end - 1) / w)) (root_node b).maximum (lo / w) v h a))

-- the root of a build is a join
pub root_join : (b : Build) → Formed b → b.built ≢ 0 → (half : Bool) × (l : ℕ) × (r : ℕ) × ((node_at b.arena.records (root b)).kind ≡ join half l r)
unfolding root
root_join b f n = go b.buckets (f.if_built n).some (linked_joins (node_at b.arena.records) _ b.buckets (f.if_built n).linked)
  where
    go : (bs : List ℕ) → 1 ≤ length bs → All (λ c. (half : Bool) × (l : ℕ) × (r : ℕ) × ((node_at b.arena.records c).kind ≡ join half l r)) bs →
        (half : Bool) × (l : ℕ) × (r : ℕ) × ((node_at b.arena.records (get_or bs 0 0)).kind ≡ join half l r)
    go [] h j = absurd (omega arith)
    go (c ∷ bs) h (j, js) = j

pub root_there : (b : Build) → Formed b → b.built ≢ 0 → place b.arena.records (root b) ≡ true
root_there b f n = let (half, l, r, k) = root_join b f n in join_place b.arena.records (root b) half l r k

-- encode's outputs leave a ready build well formed
pub outputs_formed : (b : Build) (lo end : ℕ) → Ready b → (encode_outputs b lo end).arena.fresh ≤ 1000000001 →
    Formed (encode_outputs b lo end) × Ahead (encode_outputs b lo end)
unfolding encode_outputs root_node
outputs_formed b lo end r few =
    let at : ℕ → Node = node_at b.arena.records in
    let t : Arena = in_turn (λ s v. define_output s (root b) v) b.arena (root_values b lo end) in
    let there : place b.arena.records (root b) ≡ true = root_there b r.formed r.is_built in
    let g : Goes at (place b.arena.records) r.formed.sound b.tares (variables_of at b.inputs) b.arena t =
    goes_turns at (place b.arena.records) r.formed.sound b.tares (variables_of at b.inputs)
    (λ v. (1 ≤ v) × (v ≤ (at (root b)).maximum)) (λ s v. define_output s (root b) v)
    (λ s v h c. output_goes at (place b.arena.records) r.formed.sound b.tares (variables_of at b.inputs) s (root b) v there h
    c)
    b.arena (root_values b lo end) (values_within b lo end)
    (counted_of b r.formed r.ahead (omega (arith, (r.formed.if_built r.is_built).two))) in
    (goes_formed b r.formed t g few, goes_ahead b r.formed t g)

pub still_built : (b : Build) → unbuilt b ≡ false → b.built ≢ 0
unfolding unbuilt
still_built b e = eqb-false b.built 0 e

-- what holds of the first build, of a refinement and of the build as it is holds of what encode prepares
pub prepared_cases : (P : Build → Type 0) (b : Build) → (unbuilt b ≡ true → P (build_structure b)) →
    (unbuilt b ≡ false → due b ≡ true → P (merge_structures b)) → (unbuilt b ≡ false → due b ≡ false → P b) → P (prepared b)
unfolding prepared
prepared_cases P b first refined same = go (unbuilt b) refl (due b) refl
  where
    go : (t : Bool) → unbuilt b ≡ t → (d : Bool) → due b ≡ d →
        P (elim t [ true ↦ build_structure b | false ↦ elim d [ true ↦ merge_structures b | false ↦ b ] ])
    go true e d h = first e
    go false e true h = refined e h
    go false e false h = same e h

-- the first build
pub first_ready : (b : Build) → Formed b → Ahead b → 2 ≤ b.inputs → divisor_above b ≡ false → unbuilt b ≡ true →
    (build_structure b).arena.fresh ≤ 1000000001 → Ready (build_structure b)
unfolding divisor_above unbuilt build_structure restructured
first_ready b f ahead two reached e few =
    let z : b.built ≡ 0 = eqb-true b.built 0 e in
    let reach : b.set ≤ largest b.queue = ltb-false _ _ (ap (λ (t : Bool). t && ltb (largest b.queue) b.set) (sym e) ∙ reached) in
    record {
      formed = first_formed b f z two reach few ahead;
      ahead = first_ahead b f z two reach few ahead;
      is_built = λ q. omega (arith, set_positive b f);
    }

-- refinement
pub refined_ready : (b : Build) → Formed b → Ahead b → 2 ≤ b.inputs → unbuilt b ≡ false → due b ≡ true →
    (merge_structures b).arena.fresh ≤ 1000000001 → Ready (merge_structures b)
unfolding due merge_structures patched with_arena restructured
refined_ready b f ahead two e d few =
    let reach : b.set ≤ largest b.queue = leb-true _ _ (both (not (unbuilt b)) (leb b.set (largest b.queue)) d).1 in
    let (formed, ahead') = refinement_formed b f (still_built b e) reach ahead few (omega arith) in
    record { formed = formed; ahead = ahead'; is_built = λ q. omega (arith, set_positive b f) }

module _ (b : Build) (f : Formed b) (ahead : Ahead b) (two : 2 ≤ b.inputs) (reached : divisor_above b ≡ false) where
  -- the first build, refinement or nothing leaves a ready build
  pub prepared_ready : (prepared b).arena.fresh ≤ 1000000001 → Ready (prepared b)
  prepared_ready =
      prepared_cases (λ c. c.arena.fresh ≤ 1000000001 → Ready c) b (λ e. first_ready b f ahead two reached e)
      (λ e d. refined_ready b f ahead two e d) (λ e d few. record { formed = f; ahead = ahead; is_built = still_built b e })

  -- the build that encode reaches is well formed
  pub encoded_formed : (lo end : ℕ) → (encode_outputs (prepared b) lo end).arena.fresh ≤ 1000000001 →
      Formed (encode_outputs (prepared b) lo end) × Ahead (encode_outputs (prepared b) lo end)
  encoded_formed lo end few = outputs_formed (prepared b) lo end (prepared_ready (omega (arith, encode_fresh (prepared b) lo end))) few

-- the next fresh number is above every input variable
unfoldable pub fresh_ahead : State → List ℕ → Bool
unfolding all input_variables held
fresh_ahead s store = all (λ v. ltb v s.fresh) (input_variables s (held s store))

-- the test and the fact
pub ahead_of : (s : State) (store : List ℕ) (clauses : List ℤ) → WellFormed s store clauses → fresh_ahead s store ≡ true →
    Ahead (build_of s store)
unfolding fresh_ahead input_variables build_of build_over records
ahead_of s store clauses w e =
    let rs : List Record = held s store in
    let same : node_at rs ≡ node_at (build_of s store).arena.records =
    ap node_at w.laid.waiting_last ∙ nodes_same (build_of s store).arena.records (map waiting (build_of s store).queue)
    (waiting_none (build_of s store).queue) in
    subst (λ (at : ℕ → Node). All (λ v. v < s.fresh) (variables_of at s.inputs)) same
    (all_facts (λ v. ltb v s.fresh) (λ v h. ltb-true _ _ h) (variables_of (node_at rs) s.inputs) e)

-- what an accepted encode was lent
pub record Accepted (s : State) (store : List ℕ) (clauses : List ℤ) (lo end : ℕ) : Type 0 where
  pub well : WellFormed s store clauses
  pub test : well_formed s store clauses ≡ true
  pub divisor : (not (nothing_asked (build_of s store) lo end) && divisor_above (build_of s store)) ≡ false
  pub records_fit : length (records (encode (build_of s store) lo end)) ≤ capacity store
  pub words_fit : clause_mark (encode (build_of s store) lo end) ≤ length clauses
  pub fresh_fits : (encode (build_of s store) lo end).arena.fresh ≤ 1000000001

pub accepted : (s : State) (store : List ℕ) (clauses : List ℤ) (work : List ℕ) (lo end : ℕ) →
    encode_refusal s store clauses work lo end ≡ 0 → Accepted s store clauses lo end
unfolding encode_refusal first_true not_well_formed no_room
accepted s store clauses work lo end e =
    let b : Build = build_of s store in
    let (twelve, e₁) = not_first 11 (not_well_formed s store clauses) _ e in
    let (six, e₂) = not_first 5 (work_short work) _ e₁ in
    let (ten, e₃) = not_first 9 (not (nothing_asked b lo end) && divisor_above b) _ e₂ in
    let (seven, e₄) = not_first 6 (no_room (encode b lo end) store clauses) _ e₃ in
    let (front, fresh) = neither (ltb (capacity store) (length (records (encode b lo end))) ||
    ltb (length clauses) (clause_mark (encode b lo end))) (ltb (suc most_variable) (encode b lo end).arena.fresh) seven in
    let (recs, words) = neither (ltb (capacity store) (length (records (encode b lo end))))
    (ltb (length clauses) (clause_mark (encode b lo end))) front in
    let test : well_formed s store clauses ≡ true = not_not _ twelve in
    record {
      well = well_formed_facts s store clauses test;
      test = test;
      divisor = ten;
      records_fit = ltb-false _ _ recs;
      words_fit = ltb-false _ _ words;
      fresh_fits = ltb-false _ _ fresh;
    }

-- the build that an accepted encode reaches is well formed, its next fresh number above every input variable
pub reaches_formed : (s : State) (store : List ℕ) (clauses : List ℤ) (lo end : ℕ) → Accepted s store clauses lo end →
    Ahead (build_of s store) → Formed (encode (build_of s store) lo end) × Ahead (encode (build_of s store) lo end)
unfolding encode nothing_asked
reaches_formed s store clauses lo end a ahead = go (nothing_asked b lo end) refl a.divisor a.fresh_fits
  where
    b : Build
    b = build_of s store

    go : (t : Bool) → nothing_asked (build_of s store) lo end ≡ t → (not t && divisor_above (build_of s store)) ≡ false →
        (elim t as (λ x. Build) [
          | true ↦ build_of s store
          | false ↦ encode_outputs (prepared (build_of s store)) lo
              end
        ]).arena.fresh ≤ 1000000001 →
        Formed (elim t [ true ↦ build_of s store | false ↦ encode_outputs (prepared (build_of s store)) lo end ]) ×
        Ahead (elim t [ true ↦ build_of s store | false ↦ encode_outputs (prepared (build_of s store)) lo end ])
    go true e d few = (a.well.formed, ahead)
    go false e d few =
        let (empty, two) = neither (leb end lo) (ltb (build_of s store).inputs 2) e in
        encoded_formed (build_of s store) a.well.formed ahead (ltb-false _ _ two) d lo end few

-- what an accepted encode leaves is well formed
pub accepted_encode : (s : State) (store : List ℕ) (clauses : List ℤ) (work : List ℕ) (lo end : ℕ) →
    encode_refusal s store clauses work lo end ≡ 0 → fresh_ahead s store ≡ true →
    well_formed (encode_ub_change s store clauses work lo end).answer.state (encode_ub_change s store clauses work lo end).store
    (encode_ub_change s store clauses work lo end).clauses ≡ true
unfolding encode_ub_change encode_end untouched encoded_end encoded
accepted_encode s store clauses work lo end e fresh =
    let b : Build = build_of s store in
    let c : Build = encode b lo end in
    let a : Accepted s store clauses lo end = accepted s store clauses work lo end e in
    ap (λ (n : ℕ). well_formed (encode_end n s b c store clauses work).answer.state (encode_end n s b c store clauses work).store
    (encode_end n s b c store clauses work).clauses) e ∙
    go (nothing_done b c) c a.test (reaches_formed s store clauses lo end a (ahead_of s store clauses a.well fresh)).0
    a.records_fit a.words_fit
  where
    go : (t : Bool) (c : Build) → well_formed s store clauses ≡ true → Formed c → length (records c) ≤ capacity store →
        clause_mark c ≤ length clauses →
        well_formed (elim t as (λ x. EncodeEnd) [
          | true ↦ untouched 0 s store clauses work
          | false ↦ encoded_end s c store clauses
              work
        ]).answer.state
        (elim t as (λ x. EncodeEnd) [ true ↦ untouched 0 s store clauses work | false ↦ encoded_end s c store clauses work ]).store
        (elim t as (λ x. EncodeEnd) [
          | true ↦ untouched 0 s store clauses work
          | false ↦ encoded_end s c store clauses
              work
        ]).clauses ≡ true
    go true c test f room words = test
    go false c test f room words =
        let front : List ℤ = take s.words clauses ++ clause_words c.arena.clauses in
        written c store (padded (pos 0) (length clauses) front) f room (omega (arith, words, padded_length (pos 0) (length clauses) front))
