-- Every state that calls lead to is well formed: an accepted start, then any sets and encodes, accepted or refused.
use Rattle.std.specs.Prelude.{◌≡◌, refl, Bool, true, false, List, [], ◌∷◌, ◌++◌, map, ℕ, zero, suc, ◌*◌, ◌-◌, ◌/◌, ◌≤◌, ◌<◌, min, eqb, leb, ltb, length, take, replicate, ℤ, pos, nat_abs}
use Rattle.std.proofs.Common.{sym, ◌∙◌, ap, subst, append-nil, arith, length-take, take_at, lt-ltb, le-leb, leb-true}
use Rattle.rules.specs.declared.State.{State}
use Rattle.rules.specs.Lists.{all, rising, padded}
use Rattle.rules.specs.Numbers.{record_words, capacity}
use Rattle.rules.specs.Records.{Entry, Output, outputs, Node, Record, waiting, node_at, node_of, records_of, image_of, leaf_node}
use Rattle.rules.specs.Build.{tares_of, build_over, Build, records, state_of, held, build_of}
use Rattle.rules.specs.WellFormed.{numbers_of, marks_within, well_formed, well_formed_clauses, clauses_over, variable_of, input_variables}
use Rattle.rules.specs.Combined.{combined_literals, combined_weights}
use Rattle.rules.specs.Start.{start_refusal, new_build, start, start_end}
use Rattle.rules.specs.Precision.{set_refusal, with_set, set_end, set_precision}
use Rattle.rules.specs.Encode.{encode, nothing_done, encode_refusal, EncodeEnd, encoded, untouched, no_room_end, encoded_end, encode_end, encode_ub_change}
use Rattle.laws.specs.Records.Words.{both, records_of_image}
use Rattle.laws.specs.Lists.Facts.{All, All_image, All_rising, and_true, facts_all, All_map}
use Rattle.laws.specs.Records.Places.{outputs_append, outputs_of_waiting, nodes_same, waiting_none}
use Rattle.laws.specs.WellFormed.Whole.{well_formed_facts}
use Rattle.laws.specs.WellFormed.Plain.{Taken, WellFormed, variables_of}
use Rattle.laws.specs.Records.Images.{records_of_take}
use Rattle.laws.specs.WellFormed.ToPlain.{padded_length}
use Rattle.preserve.specs.Starts.{Lent, lent, leaves, accepted_start}
use Rattle.preserve.specs.Sets.{accepted_set}
use Rattle.preserve.specs.Given.{Ahead}
use Rattle.preserve.specs.Encodes.{fresh_ahead, ahead_of, Accepted, accepted, reaches_formed, accepted_encode}

-- a build that was written keeps its next fresh number above every input variable
ahead_written : (b : Build) (n : ℕ) → Ahead b → fresh_ahead (state_of b) (padded 0 n (image_of (records b))) ≡ true
unfolding fresh_ahead input_variables held state_of padded records
ahead_written b n h =
    let rs : List Record = records b in
    let same : node_at b.arena.records ≡ node_at rs =
    sym (nodes_same b.arena.records (map waiting b.queue) (waiting_none b.queue)) in
    ap (λ (t : List Record). all (λ v. ltb v b.arena.fresh) (variables_of (node_at t) b.inputs))
    (records_of_image rs (replicate (n - length (image_of rs)) 0)) ∙
    facts_all (λ v. ltb v b.arena.fresh) (λ v k. lt-ltb _ _ k) (variables_of (node_at rs) b.inputs)
    (subst (λ (at : ℕ → Node). All (λ v. v < b.arena.fresh) (variables_of at b.inputs)) same h)

-- where a tare or an output was taken, well formed alone puts the next fresh number above every input variable
taken_above : (vs ns : List ℕ) (fresh : ℕ) → 1 ≤ length ns → Taken vs fresh ns → All (λ v. v < fresh) vs
taken_above vs [] fresh h t = absurd (omega arith)
taken_above vs (n ∷ ns) fresh h t =
    let low : n < fresh = t.below_fresh.0 in
    All_map (λ v (k : v < n). omega arith) vs t.above_inputs.0

pub taken_ahead : (s : State) (store : List ℕ) (clauses : List ℤ) → well_formed s store clauses ≡ true →
    1 ≤ length (numbers_of s (held s store)) → fresh_ahead s store ≡ true
unfolding fresh_ahead input_variables build_of build_over records numbers_of
taken_ahead s store clauses e some =
    let w : WellFormed s store clauses = well_formed_facts s store clauses e in
    let rs : List Record = held s store in
    let made : List Record = (build_of s store).arena.records in
    let q : List Entry = (build_of s store).queue in
    let last : rs ≡ made ++ map waiting q = w.laid.waiting_last in
    let same : node_at made ≡ node_at rs = sym (ap node_at last ∙ nodes_same made (map waiting q) (waiting_none q)) in
    let outs : outputs rs ≡ outputs made =
    ap outputs last ∙ (outputs_append made (map waiting q) ∙
    (ap (λ (t : List Output). outputs made ++ t) (outputs_of_waiting q) ∙ append-nil (outputs made))) in
    let count : 1 ≤ length (map (λ (o : Output). o.number) (outputs made) ++ (build_of s store).tares) =
    subst (λ (os : List Output). 1 ≤ length (map (λ (o : Output). o.number) os ++ tares_of s)) outs some in
    facts_all (λ v. ltb v s.fresh) (λ v k. lt-ltb _ _ k) (variables_of (node_at rs) s.inputs)
    (subst (λ (at : ℕ → Node). All (λ v. v < s.fresh) (variables_of at s.inputs)) same
    (taken_above (variables_of (node_at made) s.inputs) _ s.fresh count w.formed.taken))

-- a new build's first fresh number is above every input variable
pub new_ahead : (xs : List ℤ) (ws : List ℕ) (first : ℕ) (store : List ℕ) → Lent xs ws first store → Ahead (new_build xs ws first)
unfolding new_build node_at node_of leaf_node variable_of
new_ahead xs ws first store l =
    All_image (λ v. v < first) (λ (i : ℕ). variable_of (node_at (leaves xs) i).kind) (rising (length xs) 0)
    (All_rising (λ i. variable_of (node_at (leaves xs) i).kind < first) (length xs) 0 (λ i a b. low xs l.variables_low i (omega arith)))
  where
    low : (xs : List ℤ) → All (λ x. nat_abs x < first) xs → (i : ℕ) → i < length xs → variable_of (node_at (leaves xs) i).kind < first
    low [] h i b = absurd (omega arith)
    low (x ∷ xs) h zero b = h.0
    low (x ∷ xs) h (suc i) b = low xs h.1 i (omega arith)

pub started_ahead : (lits : List ℤ) (weights : List ℕ) (first : ℕ) (store : List ℕ) (clauses : List ℤ) → start_refusal lits weights first store ≡ 0 →
    fresh_ahead (start lits weights first store clauses).answer.state (start lits weights first store clauses).store ≡ true
unfolding start start_end
started_ahead lits weights first store clauses e =
    let b : Build = new_build (combined_literals lits) (combined_weights lits weights) first in
    ap (λ (n : ℕ). fresh_ahead (start_end n b store clauses).answer.state (start_end n b store clauses).store) e ∙
    ahead_written b (length store) (new_ahead (combined_literals lits) (combined_weights lits weights) first store (lent lits weights first store e))

-- a set, accepted or refused
pub set_keeps : (s : State) (store : List ℕ) (clauses : List ℤ) (d : ℕ) → well_formed s store clauses ≡ true → fresh_ahead s store ≡ true →
    (well_formed (set_precision s store clauses d).state store clauses ≡ true) ×
    (fresh_ahead (set_precision s store clauses d).state store ≡ true)
unfolding set_precision set_end with_set fresh_ahead input_variables held
set_keeps s store clauses d w h = go (set_refusal s store clauses d) refl
  where
    go : (n : ℕ) → set_refusal s store clauses d ≡ n → (well_formed (set_end n s d).state store clauses ≡ true) ×
        (fresh_ahead (set_end n s d).state store ≡ true)
    go zero e = (ap (λ (n : ℕ). well_formed (set_end n s d).state store clauses) (sym e) ∙ accepted_set s store clauses d e, h)
    go (suc n) e = (w, h)

-- used words kept and zeroes past the marks: the same records are held
kept_records : (s : State) (store : List ℕ) → s.records ≤ capacity store →
    held s (padded 0 (length store) (take (record_words * s.records) store)) ≡ held s store
unfolding held capacity padded
kept_records s store room =
    let n : ℕ = s.records in
    let fits : n ≤ min (length store / 8) 4294967296 = room in
    let front : List ℕ = take (8 * n) store in
    let size : length front ≡ 8 * n = omega (arith, length-take (8 * n) store) in
    let zeros : List ℕ = replicate (length store - length front) 0 in
    sym (records_of_take (front ++ zeros) n (8 * n) (omega arith)) ∙
    (ap (λ (t : List ℕ). records_of t n) (take_at front zeros (8 * n) size) ∙ records_of_take store n (8 * n) (omega arith))

-- refusal 7 leaves state and store well formed
pub no_room_keeps : (s : State) (store : List ℕ) (clauses : List ℤ) (work : List ℕ) → well_formed s store clauses ≡ true →
    fresh_ahead s store ≡ true →
    (well_formed s (no_room_end s store clauses work).store (no_room_end s store clauses work).clauses ≡ true) ×
    (fresh_ahead s (no_room_end s store clauses work).store ≡ true)
unfolding no_room_end well_formed well_formed_clauses all marks_within fresh_ahead capacity
no_room_keeps s store clauses work w h =
    let (marks, rest) = both (marks_within s store clauses) (all (λ c. c) (clauses_over s (held s store))) w in
    let (recs, words) = both (leb s.records (capacity store)) (leb s.words (length clauses)) marks in
    let room : s.records ≤ min (length store / 8) 4294967296 = leb-true _ _ recs in
    let front : List ℕ = take (record_words * s.records) store in
    let same : held s (padded 0 (length store) front) ≡ held s store = kept_records s store room in (
      and_true
          (and_true (le-leb s.records (min (length (padded 0 (length store) front) / 8) 4294967296)
          (omega (arith, padded_length 0 (length store) front, length-take (8 * s.records) store)))
          (le-leb s.words (length (padded (pos 0) (length clauses) (take s.words clauses)))
          (omega (arith, leb-true s.words (length clauses) words, padded_length (pos 0) (length clauses) (take s.words clauses)))))
          (ap (λ (t : List Record). all (λ c. c) (clauses_over s t)) same ∙ rest),
      ap (λ (t : List Record). all (λ v. ltb v s.fresh) (input_variables s t)) same ∙ h,
    )

-- an encode, accepted or refused
pub encode_keeps : (s : State) (store : List ℕ) (clauses : List ℤ) (work : List ℕ) (lo end : ℕ) → well_formed s store clauses ≡ true →
    fresh_ahead s store ≡ true →
    (well_formed (encode_ub_change s store clauses work lo end).answer.state (encode_ub_change s store clauses work lo end).store
    (encode_ub_change s store clauses work lo end).clauses ≡ true) ×
    (fresh_ahead (encode_ub_change s store clauses work lo end).answer.state (encode_ub_change s store clauses work lo end).store ≡ true)
unfolding encode_ub_change encode_end untouched no_room_end encoded_end encoded
encode_keeps s store clauses work lo end w h = go (encode_refusal s store clauses work lo end) refl
  where
    b : Build
    b = build_of s store

    c : Build
    c = encode (build_of s store) lo end

    ahead_end : (t : Bool) → Ahead c → fresh_ahead (elim t as (λ x. EncodeEnd)
        [ true ↦ untouched 0 s store clauses work | false ↦ encoded_end s c store clauses work ]).answer.state
        (elim t as (λ x. EncodeEnd) [
          | true ↦ untouched 0 s store clauses work
          | false ↦ encoded_end s c store clauses
              work
        ]).store ≡ true
    ahead_end true a = h
    ahead_end false a = ahead_written c (length store) a

    refused : (n : ℕ) (t : Bool) →
        (well_formed (elim t as (λ x. EncodeEnd) [
          | true ↦ no_room_end s store clauses work
          | false ↦ untouched (suc n) s store clauses
              work
        ]).answer.state
        (elim t as (λ x. EncodeEnd) [ true ↦ no_room_end s store clauses work | false ↦ untouched (suc n) s store clauses work ]).store
        (elim t as (λ x. EncodeEnd) [
          | true ↦ no_room_end s store clauses work
          | false ↦ untouched (suc n) s store clauses
              work
        ]).clauses ≡ true) ×
        (fresh_ahead (elim t as (λ x. EncodeEnd) [
          | true ↦ no_room_end s store clauses work
          | false ↦ untouched (suc n) s store clauses
              work
        ]).answer.state
        (elim t as (λ x. EncodeEnd) [
          | true ↦ no_room_end s store clauses work
          | false ↦ untouched (suc n) s store clauses
              work
        ]).store ≡ true)
    refused n true = no_room_keeps s store clauses work w h
    refused n false = (w, h)

    go : (n : ℕ) → encode_refusal s store clauses work lo end ≡ n →
        (well_formed (encode_end n s b c store clauses work).answer.state (encode_end n s b c store clauses work).store
        (encode_end n s b c store clauses work).clauses ≡ true) ×
        (fresh_ahead (encode_end n s b c store clauses work).answer.state (encode_end n s b c store clauses work).store ≡ true)
    go zero e =
        let a : Accepted s store clauses lo end = accepted s store clauses work lo end e in (
          ap (λ (n : ℕ). well_formed (encode_end n s b c store clauses work).answer.state (encode_end n s b c store clauses work).store
              (encode_end n s b c store clauses work).clauses) (sym e) ∙
              accepted_encode s store clauses work lo end e h,
          ahead_end (nothing_done b c) (reaches_formed s store clauses lo end a (ahead_of s store clauses a.well h)).1,
        )
    go (suc n) e = refused n (eqb (suc n) 7)

-- what calls lead to
pub data Reached : State → List ℕ → List ℤ → Type 0 where
  by_start : (xs : List ℤ) (ws : List ℕ) (first : ℕ) (store : List ℕ) (clauses : List ℤ) → start_refusal xs ws first store ≡ 0 →
      Reached (start xs ws first store clauses).answer.state (start xs ws first store clauses).store
      (start xs ws first store clauses).clauses
  by_set : {s : State} {store : List ℕ} {clauses : List ℤ} (d : ℕ) → Reached s store clauses →
      Reached (set_precision s store clauses d).state store clauses
  by_encode : {s : State} {store : List ℕ} {clauses : List ℤ} (work : List ℕ) (lo end : ℕ) → Reached s store clauses →
      Reached (encode_ub_change s store clauses work lo end).answer.state (encode_ub_change s store clauses work lo end).store
      (encode_ub_change s store clauses work lo end).clauses

-- is well formed, its next fresh number above every input variable
pub reached_well_formed : {s : State} {store : List ℕ} {clauses : List ℤ} → Reached s store clauses → (well_formed s store clauses ≡ true) ×
    (fresh_ahead s store ≡ true)
reached_well_formed (by_start xs ws first store clauses e) =
    (accepted_start xs ws first store clauses e, started_ahead xs ws first store clauses e)
reached_well_formed (by_set {s = s} {store = store} {clauses = clauses} d r) =
    let (w, h) = reached_well_formed r in
    set_keeps s store clauses d w h
reached_well_formed (by_encode {s = s} {store = store} {clauses = clauses} work lo end r) =
    let (w, h) = reached_well_formed r in
    encode_keeps s store clauses work lo end w h
