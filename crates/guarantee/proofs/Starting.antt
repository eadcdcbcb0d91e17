-- Ask 7: the starting divisor is what next_precision answers after start, and refusal 10 comes only after an accepted set.
use Rattle.std.specs.Prelude.{◌≡◌, ◌≢◌, ◌⊎◌, Bool, not, cond, ◌&&◌, eqb, leb, ltb, length, ℤ, Result, Ok, Err}
use Rattle.std.proofs.Math.Path.{refl, sym, ap, subst}
use Rattle.std.proofs.Common.{◌∙◌, inl, inr, arith}
use Rattle.std.proofs.Math.Bool.{true, false}
use mathlib.Core.List.{List, [], ◌∷◌, zip_with}
use Prim.Native.Nat.{ℕ, zero, suc, ◌^◌, ◌≤◌, max}
use Rattle.std.proofs.Math.Pow.{pow_pos}
use borrow.Author.Tests.{eqb-true, ltb-true, ltb-false}
use Rattle.rules.specs.declared.State.{State}
use Rattle.rules.specs.declared.Refusal.{Refusal}
use Rattle.rules.specs.declared.Refusal.TheVariants.{NotWellFormed}
use Rattle.rules.specs.Lists.{rising}
use Rattle.rules.specs.Digits.{top_bit}
use Rattle.rules.specs.Refusals.{first_true}
use Rattle.rules.specs.Build.{Build, restructured, with_arena, clause_total, clause_mark, state_of, build_of, unbuilt, largest}
use Rattle.rules.specs.Buckets.{build_structure}
use Rattle.rules.specs.Refinement.{patched, merge_structures}
use Rattle.rules.specs.WellFormed.{not_well_formed}
use Rattle.rules.specs.Combined.{combined_literals, combined_weights}
use Rattle.rules.specs.Start.{start_refusal, heaviest, starting_divisor, new_build}
use Rattle.rules.specs.Precision.{set_refusal, set_end, set_precision, next_precision}
use Rattle.rules.specs.Encode.{prepared, encode, encode_outputs, nothing_asked, divisor_above, work_short, no_room, encode_refusal}
use Rattle.laws.specs.Records.Words.{both}
use Rattle.laws.specs.Lists.Facts.{All, neither, not_yes}
use Rattle.laws.specs.Numbers.Powers.{top_bit_within}
use Rattle.laws.specs.Encode.Appends.{recounted}
use Rattle.preserve.specs.Starts.{Lent, lent, accepted_start}
use Rattle.preserve.specs.Encodes.{prepared_cases, still_built}
use Rattle.guarantee.specs.Histories.Worlds.{Leads, here, World}
use Rattle.guarantee.specs.Histories.Reached.{started_world, leads_world}
use Rattle.guarantee.specs.Calls.{Memory, started, set_call, lend_anew}
use Rattle.guarantee.specs.Words.Shows.{Shows, bare, kept_shows}
use Rattle.guarantee.specs.Words.Goes.{Encodes}
use Rattle.guarantee.proofs.Words.Goes.{encode_goes, read_is, same_ten, leads_then, start_shows}
use Rattle.guarantee.specs.Starting.{Unset, still, refused_set, an_encode, a_lend}

-- what waits after a start: the largest of it is the heaviest input
largest_queued : (k : ℕ) (ws : List ℕ) → largest (zip_with (λ (n w : ℕ). record { node = n; weight = w }) (rising (length ws) k) ws) ≡ heaviest ws
unfolding rising zip_with largest heaviest
largest_queued k [] = refl
largest_queued k (w ∷ ws) = ap (λ (n : ℕ). max w n) (largest_queued (suc k) ws)

-- an encode keeps the set divisor, and what waits as long as nothing is built
prepared_set : (b : Build) → (prepared b).set ≡ b.set
unfolding build_structure merge_structures patched with_arena restructured
prepared_set b = prepared_cases (λ c. c.set ≡ b.set) b (λ e. refl) (λ e d. refl) (λ e d. refl)

prepared_built : (b : Build) → b.set ≢ 0 → (prepared b).built ≢ 0
unfolding build_structure merge_structures patched with_arena restructured
prepared_built b h = prepared_cases (λ c. c.built ≢ 0) b (λ e. h) (λ e d. h) (λ e d. still_built b e)

encode_keeps : (b : Build) (lo end : ℕ) → b.set ≢ 0 → ((encode b lo end).set ≡ b.set) × ((encode b lo end).built ≡ 0 → (encode b lo end).queue ≡ b.queue)
unfolding encode encode_outputs with_arena restructured
encode_keeps b lo end h = go (nothing_asked b lo end)
  where
    go : (t : Bool) → ((elim t as (λ x. Build) [ true ↦ b | false ↦ encode_outputs (prepared b) lo end ]).set ≡ b.set) ×
        ((elim t as (λ x. Build) [ true ↦ b | false ↦ encode_outputs (prepared b) lo end ]).built ≡ 0 →
        (elim t as (λ x. Build) [ true ↦ b | false ↦ encode_outputs (prepared b) lo end ]).queue ≡ b.queue)
    go true = (refl, λ z. refl)
    go false = (prepared_set b, λ z. absurd (prepared_built b h z))

encode_unbuilt : (b : Build) (lo end : ℕ) → b.set ≢ 0 → (encode b lo end).built ≡ 0 → b.built ≡ 0
unfolding encode encode_outputs with_arena restructured
encode_unbuilt b lo end h = go (nothing_asked b lo end)
  where
    go : (t : Bool) → (elim t as (λ x. Build) [ true ↦ b | false ↦ encode_outputs (prepared b) lo end ]).built ≡ 0 → b.built ≡ 0
    go true z = z
    go false z = absurd (prepared_built b h z)

module _ (lits : List ℤ) (weights : List ℕ) (first : ℕ) (store : List ℕ) (clauses : List ℤ) (accepted : start_refusal lits weights first store ≡ 0) where
  xs : List ℤ
  xs = combined_literals lits

  ws : List ℕ
  ws = combined_weights lits weights

  new : Build
  new = new_build xs ws first

  given : Lent xs ws first store
  unfolding xs ws
  given = lent lits weights first store accepted

  begun : World xs ws new
  unfolding new
  begun = started_world xs ws first store given

  shown : Shows (started lits weights first store clauses) new
  unfolding new xs ws
  shown = start_shows lits weights first store clauses accepted

  -- the starting divisor is what next_precision answers after start
  pub starting_next :
      let m : Memory = started lits weights first store clauses in
      next_precision m.state m.store m.clauses ≡ Ok m.state.set
  unfolding started next_precision new new_build starting_divisor state_of recounted bare with_arena restructured
  starting_next =
      let at : ℕ → Result ℕ Refusal = λ d. Ok d in
      let m : Memory = started lits weights first store clauses in
      let queue : largest (build_of m.state m.store).queue ≡ heaviest ws = ap (λ (b : Build). largest b.queue) (read_is xs ws new begun m shown) ∙ largest_queued 0 ws in
      let set : m.state.set ≡ 2 ^ top_bit (heaviest ws) = ap (λ (s : State). s.set) shown.state_is in
      ap (λ (t : Bool). elim t as (λ x. Result ℕ Refusal) [ true ↦ Ok (2 ^ top_bit (largest (build_of m.state m.store).queue)) | false ↦ Err NotWellFormed ]) (accepted_start lits weights first store clauses accepted) ∙
      (ap (λ (k : ℕ). at (2 ^ top_bit k)) queue ∙ sym (ap at set))

  -- a build that was reached with no set accepted: at the starting divisor, and until it is built all inputs wait
  record Kept (m : Memory) : Type 0 where
    build : Build
    leads : Leads new build
    shows : Shows m build
    set_is : build.set ≡ starting_divisor ws
    queue_is : build.built ≡ 0 → build.queue ≡ new.queue

  world_of : (m : Memory) (k : Kept m) → World xs ws k.build
  world_of m k = leads_world xs ws new k.build begun k.leads

  positive : (d : ℕ) → d ≡ starting_divisor ws → d ≢ 0
  unfolding starting_divisor
  positive d e z = omega (arith, z, e, pow_pos (top_bit (heaviest ws)))

  -- a refused set leaves what it found
  set_same : (m : Memory) (d n : ℕ) → set_refusal m.state m.store m.clauses d ≡ n → n ≢ 0 → (set_call m d).state ≡ m.state
  unfolding set_call set_precision set_end
  set_same m d zero e z = absurd (z refl)
  set_same m d (suc n) e z = ap (λ (k : ℕ). (set_end k m.state d).state) e

  kept : (m : Memory) → Unset (started lits weights first store clauses) m → Kept m
  unfolding set_call lend_anew new new_build
  kept m still = record { build = new; leads = here; shows = shown; set_is = refl; queue_is = λ z. refl }
  kept m (refused_set {n = n} d u given-one) =
      let k : Kept n = kept n u in
      let s : Shows n k.build = k.shows in
      record {
        build = k.build;
        leads = k.leads;
        shows = record {
          state_is = set_same n d (set_refusal n.state n.store n.clauses d) refl given-one ∙ s.state_is;
          no_clauses = s.no_clauses;
          no_words = s.no_words;
          rest = s.rest;
          store_is = s.store_is;
          signed_rest = s.signed_rest;
          clauses_is = s.clauses_is;
        };
        set_is = k.set_is;
        queue_is = k.queue_is;
      }
  kept m (an_encode {n = n} work lo end u) =
      let k : Kept n = kept n u in
      let e : Encodes k.build lo end m = encode_goes xs ws k.build (world_of n k) n k.shows lo end work in
      encoded k e e.how
    where
      encoded : (k : Kept n) (e : Encodes k.build lo end m) → (e.build ≡ k.build) ⊎ (e.build ≡ encode k.build lo end) → Kept m
      encoded k e (inl same) = record {
        build = e.build;
        leads = leads_then new k.build e.build k.leads e.leads;
        shows = e.shows;
        set_is = ap (λ (b : Build). b.set) same ∙ k.set_is;
        queue_is = subst (λ (b : Build). b.built ≡ 0 → b.queue ≡ new.queue) (sym same) k.queue_is;
      }
      encoded k e (inr done) =
          let (sets, waits) = encode_keeps k.build lo end (positive k.build.set k.set_is) in
          record {
            build = e.build;
            leads = leads_then new k.build e.build k.leads e.leads;
            shows = e.shows;
            set_is = ap (λ (b : Build). b.set) done ∙ (sets ∙ k.set_is);
            queue_is = subst (λ (b : Build). b.built ≡ 0 → b.queue ≡ new.queue) (sym done) (λ z. waits z ∙ k.queue_is (encode_unbuilt k.build lo end (positive k.build.set k.set_is) z));
          }
  kept m (a_lend {n = n} words signed u) =
      let k : Kept n = kept n u in
      record { build = k.build; leads = k.leads; shows = kept_shows n m k.build k.shows refl words refl signed refl; set_is = k.set_is; queue_is = k.queue_is }

  heavy : (vs : List ℕ) → 1 ≤ length vs → All (λ w. (1 ≤ w) × (w ≤ 1048575)) vs → 1 ≤ heaviest vs
  unfolding heaviest
  heavy [] h a = absurd (omega arith)
  heavy (w ∷ vs) h a = omega (arith, a.0.0)

  -- at the starting divisor the largest weight that waits is not below it
  reached : (lo end : ℕ) (c : Build) → c.set ≡ starting_divisor ws → (c.built ≡ 0 → c.queue ≡ new.queue) → c.inputs ≡ length xs → not (nothing_asked c lo end) ≡ true → divisor_above c ≡ true → ⊥
  unfolding nothing_asked divisor_above unbuilt new new_build starting_divisor
  reached lo end c set queue inputs asked above =
      let (empty, one) = neither (leb end lo) (ltb c.inputs 2) (not_yes (nothing_asked c lo end) asked) in
      let (z, below) = both (eqb c.built 0) (ltb (largest c.queue) c.set) above in
      let all_wait : largest c.queue ≡ heaviest ws = ap largest (queue (eqb-true c.built 0 z)) ∙ largest_queued 0 ws in
      let some : 1 ≤ heaviest ws = heavy ws (omega (arith, ltb-false c.inputs 2 one, inputs, given.lengths)) given.weights in
      omega (arith, ltb-true (largest c.queue) c.set below, all_wait, set, top_bit_within (heaviest ws) some)

  -- refusal 10 does not come before a set was accepted
  pub no_ten : (m : Memory) → Unset (started lits weights first store clauses) m → (work : List ℕ) (lo end : ℕ) → encode_refusal m.state m.store m.clauses work lo end ≢ 10
  unfolding encode_refusal first_true
  no_ten m u work lo end e = tested (third (not_well_formed m.state m.store m.clauses) (work_short work) _ (no_room (encode (build_of m.state m.store) lo end) m.store m.clauses) e)
    where
      k : Kept m
      k = kept m u

      b : Build
      b = k.build

      third : (p q r s : Bool) → ◌≡◌ {A = ℕ} (cond p 12 (cond q 6 (cond r 10 (cond s 7 0)))) 10 → r ≡ true
      third true q r s e = absurd (omega arith)
      third false true r s e = absurd (omega arith)
      third false false true s e = refl
      third false false false true e = absurd (omega arith)
      third false false false false e = absurd (omega arith)

      tested : (not (nothing_asked (build_of m.state m.store) lo end) && divisor_above (build_of m.state m.store)) ≡ true → ⊥
      tested t =
          let here : (not (nothing_asked b lo end) && divisor_above b) ≡ true =
          sym (same_ten (clause_total b) (clause_mark b) b lo end) ∙
          (ap (λ (x : Build). not (nothing_asked x lo end) && divisor_above x) (sym (read_is xs ws b (world_of m k) m k.shows)) ∙ t) in
          let (asked, above) = both (not (nothing_asked b lo end)) (divisor_above b) here in
          reached lo end b k.set_is k.queue_is (world_of m k).inputs_are asked above
