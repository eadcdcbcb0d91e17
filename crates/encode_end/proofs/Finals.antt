-- How an encode that has something to do ends: exactly what the rules reach, or refusal 7 with no trace.
use mathlib.Core.Path.{◌≡◌, refl, sym, ap, ap₂, ◌∙◌, subst}
use mathlib.Core.Logic.{◌⊎◌, inl, inr}
use mathlib.Core.Bool.{Bool, true, false, not, ◌&&◌, true≢false}
use mathlib.Core.List.{List, ◌++◌, map, reverse}
use Prim.Native.Nat.{ℕ, ◌+◌, ◌*◌, ◌-◌, ◌≤◌, ◌<◌}
use native.Mathlib.Omega.{arith}
use lib.ListN.{length, get_or, take, replicate}
use lib.Seq.{get_or-take}
use lib.IntN.{ℤ, pos}
use Rattle.rules.specs.declared.State.{State}
use Rattle.std.specs.Prelude.{Some, None, Ok, Err}
use Rattle.rules.specs.declared.Refusal.TheVariants.{NoRoom}
use Rattle.rules.specs.declared.Encoded.{Encoded}
use Rattle.rules.specs.Lists.{padded}
use Rattle.rules.specs.Numbers.{capacity}
use Rattle.rules.specs.Refusals.{answer_of, refusal_of, refusals}
use Rattle.rules.specs.Records.{Record, Entry, waiting, waits}
use Rattle.rules.specs.Build.{Build, records, clause_total, state_of, build_of, build_over, buckets_of, with_arena, restructured}
use Rattle.rules.specs.Buckets.{build_structure}
use Rattle.rules.specs.Refinement.{patched, merge_structures}
use Rattle.rules.specs.Encode.{EncodeEnd, prepared, encode_outputs, nothing_asked, divisor_above, no_room, encoded, no_room_end, encoded_end}
use Rattle.laws.specs.Lists.Facts.{All, All_map}
use Rattle.laws.specs.WellFormed.Plain.{WellFormed}
use Rattle.preserve.specs.Given.{buckets_inside}
use Rattle.preserve.specs.RefinementWhole.{merged_fresh}
use Rattle.preserve.specs.Encodes.{encode_fresh, prepared_cases}
use Rattle.preserve.specs.Sounds.{encode_sound}
use Rattle.records.specs.Carries.{St, st, at, written, Fits, Holds, Stores, with_records}
use Rattle.records.proofs.Grow.{fits_or}
use Rattle.records.proofs.Entry.{held_zeroed}
use Rattle.build_begin.specs.declared.Structure.{Structure}
use Rattle.build_begin.specs.Answer.{structure_marks}
use Rattle.build_begin.specs.Named.{marks_at}
use Rattle.build_begin.proofs.Begin.{count_is, stored}
use Rattle.encode_outputs.specs.Taken.{with_waiting, whole}
use Rattle.encode_undo.specs.Aside.{Roomy, Aside, Kept}
use Rattle.encode_undo.proofs.Copying.{front_same}
use Rattle.encode_case.specs.declared.Case.{Case}
use Rattle.encode_case.specs.Case.{case_of}
use Rattle.encode_case.specs.Call.{Call, found, reached, ended, Works}
use Rattle.encode_case.proofs.Ways.{encode_way}
use Rattle.encode_case.proofs.Tests.{asked_two, built_after}
use Rattle.encode_reach.specs.Reached.{Reached}
use Rattle.encode_end.specs.Settled.{totalled, settled, state_after}
use Rattle.encode_end.proofs.Room.{no_room_full, room_fit, end_words}
use Rattle.encode_end.proofs.Ends.{refused_7, accepted_done}
use Rattle.encode_end.proofs.States.{Kin, prepared_kin, outputs_kin, Ends_with, state_is}

-- numbers are only taken
first_fresh : (b : Build) → b.arena.fresh ≤ (build_structure b).arena.fresh
unfolding build_structure restructured
first_fresh b = omega arith

refined_fresh : (b : Build) → b.arena.fresh ≤ (merge_structures b).arena.fresh
unfolding merge_structures with_arena patched restructured
refined_fresh b = omega (arith, merged_fresh b.arena.records (reverse b.buckets) (patched b).arena)

prepared_fresh : (b : Build) → b.arena.fresh ≤ (prepared b).arena.fresh
prepared_fresh b =
    prepared_cases (λ (p : Build). b.arena.fresh ≤ p.arena.fresh) b (λ _. first_fresh b) (λ _ _. refined_fresh b) (λ _ _. omega arith)

-- an end by its parts
pub end_is : (r r' : Encoded) (x x' : List ℕ) (y y' : List ℤ) (v v' : List ℕ) → r ≡ r' → x ≡ x' → y ≡ y' → v ≡ v' →
    ◌≡◌ {A = EncodeEnd} (record { answer = r; store = x; clauses = y; work = v }) (record { answer = r'; store = x'; clauses = y'; work = v' })
end_is r r' x x' y y' v v' a b c d =
    ap₂ (λ (i : Encoded) (j : List ℕ). record { answer = i; store = j; clauses = y; work = v }) a b ∙
    ap₂ (λ (i : List ℤ) (j : List ℕ). record { answer = r'; store = x'; clauses = i; work = j }) c d

module _ (k : Call) (works : Works k) where
  abbrev s : State
  s = k.s

  abbrev well : WellFormed k.s k.store k.clauses
  well = works.begins.well

  abbrev b : Build
  b = found k

  abbrev c : Build
  c = encode_outputs (prepared b) k.range.lo k.range.end

  way : reached k ≡ c
  way = encode_way b (prepared b) k.range.lo k.range.end works.begins.asked refl

  kin : Kin b c
  kin = outputs_kin b (prepared b) k.range.lo k.range.end (prepared_kin b)

  no_10 : (not (nothing_asked b k.range.lo k.range.end) && divisor_above b) ≡ false
  no_10 = ap₂ (λ (x y : Bool). not x && y) works.begins.asked works.begins.reached

  -- where the waiting records begin
  pub begins_at : (n : ℕ) → ((rs : List Record) (es : List Entry) → Stores k.store s.records (rs ++ map waiting es) → All (λ x. not (waits x) ≡ true) rs → n ≡ length rs) →
      n ≡ length b.arena.records
  begins_at n h = h b.arena.records b.queue (stored s k.store k.clauses well) well.formed.none_waits

  module _ (n : ℕ) (begun : n ≡ length b.arena.records) where
    abbrev e : St
    e = st k.store k.clauses (at (marks_at s n))

    pub roomy : (xs ws : List ℕ) → length xs ≡ length k.store → length ws ≡ length k.work → Roomy s xs ws n
    unfolding build_of build_over capacity
    roomy xs ws l m = record {
      begins = omega (arith, count_is s k.store k.clauses well);
      few = omega (arith, count_is s k.store k.clauses well, well.formed.waiting_are.few);
      within = omega (arith, well.records_within, l);
      long = omega (arith, works.long, m);
      buckets_few = well.laid.buckets_few;
      buckets_within = All_map (λ x (h : x < length b.arena.records). omega (arith, l, well.records_within, count_is s k.store k.clauses well)) (buckets_of s)
          (buckets_inside b well.formed);
    }

    -- what was set aside stays where the front of the work slice does
    pub aside_kept : (v u : List ℕ) → Aside s k.store v n → length u ≡ length v → take 3072 u ≡ take 3072 v → Aside s k.store u n
    aside_kept v u a l t = record {
      long = omega (arith, a.long, l);
      words = front ∙ a.words;
      saved = record { at = λ i j p q. same (2048 + 8 * i + j) (omega (arith, well.laid.buckets_few)) ∙ a.saved.at i j p q };
    }
      where
        same : (i : ℕ) → i < 3072 → get_or u i 0 ≡ get_or v i 0
        same i h = sym (get_or-take 3072 u i 0 h) ∙ (ap (λ (xs : List ℕ). get_or xs i 0) t ∙ get_or-take 3072 v i 0 h)

        few : s.records ≤ n + 256
        few = omega (arith, count_is s k.store k.clauses well, well.formed.waiting_are.few)

        front : take (8 * (s.records - n)) u ≡ take (8 * (s.records - n)) v
        front = front_same u v (8 * (s.records - n)) l (omega (arith, a.long, few)) (λ i h. same i (omega (arith, few)))

    before : c.words_before ≡ s.words
    unfolding build_of build_over
    before = kin.words_same

    inside : s.words ≤ length k.clauses
    inside = well.words_within

    -- no room
    module _ (s₁ : List ℕ) (c₁ : List ℤ) (r : Reached b.buckets e (st s₁ c₁ (structure_marks None)) c None) where
      pub kept : Kept s k.store s₁ n
      unfolding build_of build_over marks_at
      kept = record { same_length = r.same_store; others = r.kept_store }

      none : no_room (reached k) k.store k.clauses ≡ true
      unfolding whole marks_at
      none =
          subst (λ (x : Build). no_room x k.store k.clauses ≡ true) (sym way)
          (no_room_full k.store k.clauses (at (marks_at s n)) c before inside (λ f. true≢false (r.fit f).0.not_full)
          (encode_sound b k.range.lo k.range.end well.formed (asked_two b k.range.lo k.range.end works.begins.asked) works.begins.reached))

      pub undone_end : (x : EncodeEnd) (s₂ w₂ : List ℕ) → length s₂ ≡ length s₁ → take (8 * s.records) s₂ ≡ take (8 * s.records) k.store → length w₂ ≡ length k.work →
          x ≡ settled (Err NoRoom) s s₂ c₁ w₂ → x ≡ ended k
      unfolding settled totalled no_room_end encoded answer_of refusal_of refusals marks_at
      undone_end x s₂ w₂ ls fs lw ex =
          ex ∙ (end_is (totalled (Err NoRoom) s) (encoded 7 s) (padded 0 (length s₂) (take (8 * s.records) s₂)) (padded 0 (length k.store) (take (8 * s.records) k.store))
          (padded (pos 0) (length c₁) (take s.words c₁)) (padded (pos 0) (length k.clauses) (take s.words k.clauses)) (replicate (length w₂) 0) (replicate (length k.work) 0)
          refl (ap₂ (padded 0) (ls ∙ r.same_store) fs) (ap₂ (padded (pos 0)) r.same_buffer r.kept_buffer) (ap (λ (m : ℕ). replicate m 0) lw) ∙
          refused_7 k works.formed works.long no_10 none)

    -- room
    module _ (z : Structure) (s₁ : List ℕ) (c₁ : List ℤ) (r : Reached b.buckets e (st s₁ c₁ (at z.marks)) c (Some z)) where
      fits : Fits e (whole c)
      fits = go (fits_or e (whole c))
        where
          go : Fits e (whole c) ⊎ (Fits e (whole c) → ⊥) → Fits e (whole c)
          go (inl f) = f
          go (inr f) = absurd (true≢false (sym (r.full f)))

      held : Holds e (st s₁ c₁ (at z.marks)) (whole c)
      held = (r.fit fits).0

      fresh_reached : z.marks.fresh ≡ c.arena.fresh
      unfolding whole with_waiting with_records
      fresh_reached = held.fresh_is

      pub fresh_low : s.fresh ≤ z.marks.fresh
      unfolding build_of build_over
      fresh_low = omega (arith, fresh_reached, prepared_fresh b, encode_fresh (prepared b) k.range.lo k.range.end)

      pub records_room : (t : State) (built : ℕ) → t ≡ state_after s built z → 8 * t.records ≤ length s₁
      unfolding state_after
      records_room t built et = omega (arith, ap (λ (x : State). x.records) et, held.records_is, fits.records_fit, r.same_store)

      some_room : no_room (reached k) k.store k.clauses ≡ false
      unfolding whole marks_at
      some_room =
          subst (λ (x : Build). no_room x k.store k.clauses ≡ false) (sym way) (room_fit k.store k.clauses (at (marks_at s n)) c before inside fits)

      ends_with : Ends_with s z c
      unfolding whole with_waiting with_records records clause_total marks_at build_of build_over
      ends_with = record {
        records_are = held.records_is;
        words_are = held.words_is ∙ end_words k.store k.clauses (at (marks_at s n)) c before inside;
        clauses_are = held.clauses_is ∙ ap (λ (m : ℕ). m + length c.arena.clauses) (sym kin.clauses_same);
        fresh_is = fresh_reached;
        variables_are = omega (arith, fresh_reached, fresh_low, well.laid.variables_few, kin.first_same);
        slots = (r.fit fits).1;
      }

      state_reached : (case : Case) → Ok case ≡ case_of b → state_after s case.built z ≡ state_of c
      unfolding build_of build_over encode_outputs with_arena restructured
      state_reached case eb =
          state_is s case.built z c (sym kin.inputs_same) (sym kin.sum_same) (sym kin.set_same) (built_after s k.store k.clauses k.range works.begins case eb) ends_with

      pub done_end : (x : EncodeEnd) (t : State) (case : Case) (w₂ : List ℕ) → Ok case ≡ case_of b → t ≡ state_after s case.built z → length w₂ ≡ length k.work →
          x ≡ settled (Ok tt) t s₁ c₁ w₂ → x ≡ ended k
      unfolding settled totalled state_after encoded_end encoded answer_of whole with_waiting with_records records written marks_at
      done_end x t case w₂ eb et lw ex =
          let words = held_zeroed e (st s₁ c₁ (at z.marks)) (whole c) fits held in
          ex ∙ (ap (λ (y : State). settled (Ok tt) y s₁ c₁ w₂) et ∙
          (end_is (totalled (Ok tt) (state_after s case.built z)) (encoded 0 (state_of c)) (padded 0 (length s₁) (take (8 * z.marks.records) s₁)) (encoded_end s c k.store k.clauses k.work).store
          (padded (pos 0) (length c₁) (take z.marks.words c₁)) (encoded_end s c k.store k.clauses k.work).clauses (replicate (length w₂) 0) (replicate (length k.work) 0)
          (ap (totalled (Ok tt)) (state_reached case eb)) words.0 words.1 (ap (λ (m : ℕ). replicate m 0) lw) ∙
          (ap (λ (y : Build). encoded_end s y k.store k.clauses k.work) (sym way) ∙
          accepted_done k works.formed works.long no_10 some_room works.left)))
