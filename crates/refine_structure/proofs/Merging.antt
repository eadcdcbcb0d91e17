-- A refinement by the state and the words that hold the build: what its parts ask, and what they come to.
use mathlib.Core.Path.{◌≡◌, sym, ap, ap₂, ◌∙◌, subst}
use mathlib.Core.Logic.{◌≢◌}
use mathlib.Core.Bool.{true}
use mathlib.Core.List.{List, [], ◌++◌, map}
use Prim.Native.Nat.{ℕ, zero, suc, ◌+◌, ◌*◌, ◌-◌, ◌^◌, ◌≤◌, ◌<◌}
use native.Mathlib.Omega.{arith}
use Rattle.std.specs.Prelude.{Some, None}
use lib.Pow.{pow-add, pow_mono}
use lib.ListN.{length, get_or, take, replicate, length-append, length-take}
use lib.Seq.{take-append-le, take-append-add}
use lib.IntN.{ℤ}
use Rattle.rules.specs.declared.State.{State}
use Rattle.rules.specs.Lists.{rising, padded}
use Rattle.rules.specs.Digits.{top_bit}
use Rattle.rules.specs.Records.{Entry, Output, Record, outputs}
use Rattle.rules.specs.Totalizer.{Arena}
use Rattle.rules.specs.Build.{Build, largest, tares_of, buckets_of, build_over, build_of}
use Rattle.rules.specs.Refinement.{former_half, tares_left_out, merge_structures}
use Rattle.laws.specs.Lists.Facts.{All, All_map, All_append, All_second, All_rising, rising_length}
use Rattle.laws.specs.WellFormed.Plain.{Built, Formed}
use Rattle.laws.specs.WellFormed.ToPlain.{slots_count}
use Rattle.laws.specs.Queue.Runs.{largest_sort}
use Rattle.laws.specs.WellFormed.ToClauses.{power_within}
use Rattle.preserve.specs.Given.{set_positive, weights_few, waiting_below}
use Rattle.preserve.specs.Refinement.{q}
use Rattle.records.specs.declared.Marks.{Marks}
use Rattle.records.specs.Carries.{Held, at, St, st, Stores, Fits, Carries, Makes}
use Rattle.build_line.specs.Work.{line, members_from, made_in}
use Rattle.build_queue.specs.Queued.{Queued}
use Rattle.build_queue.proofs.Members.{members_empty}
use Rattle.build_queue.proofs.Waiting.{queued_start}
use Rattle.build_buckets.proofs.Words.{made_length}
use Rattle.build_tower.specs.Rule.{tower}
use Rattle.build_begin.specs.declared.Structure.{Structure}
use Rattle.build_begin.specs.Named.{marks_at, Named}
use Rattle.build_begin.proofs.Begin.{entry, image_is}
use Rattle.refine_structure.specs.Refined.{added, spare, Spans, renew, Renewable, Renews, Refinable, Refines}
use Rattle.refine_structure.proofs.Bases.{fits_based}
use Rattle.refine_structure.proofs.Renewing.{renew_full}
use Rattle.refine_structure.proofs.Segments.{finer, after, made, tower_is, merged_is, right, fits_after, merged_tares, merged_buckets, merged_queue}

zeros_small : (n : ℕ) → All (λ t. t < 2147483648) (replicate n 0)
zeros_small zero = tt
zeros_small (suc n) = (omega arith, zeros_small n)

module _ (s : State) (store : List ℕ) (clauses : List ℤ) (work : List ℕ) (m : Marks) (h : ℕ) (g : Refinable s store clauses work m h) where
  abbrev b : Build
  b = build_of s store

  abbrev f : Formed b
  f = g.well.formed

  built : b.built ≢ 0
  unfolding build_of build_over
  built = g.built

  reach : b.set ≤ largest b.queue
  unfolding build_of build_over
  reach = g.reach

  tares_count : length b.tares ≡ s.tares_used
  unfolding build_of build_over tares_of
  tares_count = slots_count 19 s.tares_used s.tares g.well.laid.tares_few g.well.laid.tares_laid

  buckets_count : length b.buckets ≡ s.buckets_used
  unfolding build_of build_over buckets_of
  buckets_count = slots_count 20 s.buckets_used s.buckets g.well.laid.buckets_few g.well.laid.buckets_laid

  pub used_count : length (take s.buckets_used s.buckets) ≡ s.buckets_used
  unfolding build_of build_over buckets_of
  used_count = buckets_count

  fresh_is : m.fresh ≡ b.arena.fresh
  unfolding build_of build_over marks_at
  fresh_is = ap (λ (x : Marks). x.fresh) g.marks_are

  records_is : m.records ≡ length b.arena.records
  unfolding marks_at
  records_is = ap (λ (x : Marks). x.records) g.marks_are

  within_19 : top_bit b.built + length b.tares ≤ 19
  within_19 =
      let u : Built b = f.if_built built in
      let whole : 2 ^ (top_bit b.built + length b.tares) ≡ b.built * 2 ^ length b.tares =
      pow-add 2 (top_bit b.built) (length b.tares) ∙ ap (λ (x : ℕ). x * 2 ^ length b.tares) (sym u.power) in
      power_within (top_bit b.built + length b.tares) (omega (arith, whole, u.times_weight))

  pub spans : Spans s
  unfolding build_of build_over
  spans =
      let u : Built b = f.if_built built in
      record {
        finer = finer b f built reach;
        low = omega (arith, within_19, tares_count);
        some = omega (arith, u.some, buckets_count);
        few = omega (arith, u.few, buckets_count, tares_count);
      }

  -- the powers of the tower, and the tares and buckets that it leaves
  pub within : (top_bit s.built + spare s ≤ 19) × (added s + spare s + s.buckets_used ≤ 20) × (added s + s.tares_used ≤ 19)
  unfolding spare added
  within = (omega (arith, spans.low, spans.some), omega (arith, spans.low, spans.few), omega (arith, spans.low))

  pub fresh_low : m.fresh ≤ 1000000001
  fresh_low = omega (arith, fresh_is, f.fresh_few)

  -- the new tares, as they are counted
  pub counted : (i j : ℕ) → i ≡ top_bit s.built → j ≡ top_bit s.set →
      (j ≤ i) × (i - j ≡ added s) × (i - j + s.tares_used ≤ 19) × (m.fresh + (i - j) < 4294967296)
  unfolding added
  counted i j ei ej =
      (omega (arith, spans.finer), omega arith, omega (arith, spans.low), omega (arith, spans.low, fresh_low))

  pub positive : 1 ≤ s.set
  unfolding build_of build_over
  positive = set_positive b f

  pub queued : Queued work h
  queued = queued_start work h b.queue g.long g.head g.queue_is f.waiting_are.few (omega (arith, weights_few b f)) g.none

  spare_is : spare s ≡ length (tares_left_out b)
  unfolding spare tares_left_out
  spare_is =
      let u : Built b = f.if_built built in
      omega (arith, length-take (suc (length b.tares) - length b.buckets) b.tares, u.some, tares_count, buckets_count)

  -- The tares ---------------------------------------------------------------------------------------------------------------------

  module _ (many : ℕ) (em : many ≡ added s) (tares : List ℕ) (et : tares ≡ padded 0 19 (rising many m.fresh ++ take s.tares_used s.tares)) where
    abbrev fresh : List ℕ
    fresh = rising (added s) b.arena.fresh

    tares_are : tares ≡ padded 0 19 (fresh ++ b.tares)
    unfolding build_of build_over tares_of
    tares_are = et ∙ ap₂ (λ (i j : ℕ). padded 0 19 (rising i j ++ take s.tares_used s.tares)) em fresh_is

    pub tares_small : m.fresh + added s ≤ 1000000001 → All (λ t. t < 2147483648) tares
    unfolding padded
    tares_small room =
        subst (All (λ t. t < 2147483648)) (sym tares_are)
        (All_append (λ t. t < 2147483648) (fresh ++ b.tares) (replicate (19 - length (fresh ++ b.tares)) 0)
        (All_append (λ t. t < 2147483648) fresh b.tares
        (All_rising (λ t. t < 2147483648) (added s) b.arena.fresh (λ i low high. omega (arith, room, fresh_is)))
        (All_map (λ t (k : t < b.arena.fresh). omega (arith, f.fresh_few)) b.tares
        (All_second (λ t. t < b.arena.fresh) (map (λ (o : Output). o.number) (outputs b.arena.records)) b.tares f.taken.below_fresh)))
        (zeros_small (19 - length (fresh ++ b.tares))))

    used_tares : take (added s + spare s) tares ≡ fresh ++ tares_left_out b
    unfolding padded tares_left_out spare
    used_tares =
        let u : Built b = f.if_built built in
        let n : added s + spare s ≡ length fresh + (suc (length b.tares) - length b.buckets) =
        omega (arith, rising_length (added s) b.arena.fresh, tares_count, buckets_count) in
        let low : added s + spare s ≤ length (fresh ++ b.tares) =
        omega (arith, n, length-append fresh b.tares, u.some) in
        ap (take (added s + spare s)) tares_are ∙
        (take-append-le (added s + spare s) (fresh ++ b.tares) (replicate (19 - length (fresh ++ b.tares)) 0) low ∙
        (ap (λ (i : ℕ). take i (fresh ++ b.tares)) n ∙ take-append-add fresh b.tares (suc (length b.tares) - length b.buckets)))

    -- The tower -------------------------------------------------------------------------------------------------------------------

    abbrev reached : Arena × (List ℕ × List Entry)
    reached = tower (added s) s.set (top_bit s.set) (take (added s + spare s) tares) (members_from work 0 (top_bit s.built + spare s)) (line work h)
        b.arena

    reached_is : reached ≡ (after b f built reach, ((made b f built reach).1, (q b f built reach).queue))
    unfolding added build_of build_over
    reached_is =
        let n : top_bit s.built + spare s ≡ top_bit s.built + length (tares_left_out b) = ap (λ (i : ℕ). top_bit s.built + i) spare_is in
        let empty : members_from work 0 (top_bit s.built + spare s) ≡ replicate (top_bit s.built + length (tares_left_out b)) [] =
        members_empty work 0 (top_bit s.built + spare s) (λ i low high. g.none i (omega (arith, within.0))) ∙ ap (λ (i : ℕ). replicate i []) n in
        ap (λ (ts : List ℕ). tower (added s) s.set (top_bit s.set) ts (members_from work 0 (top_bit s.built + spare s)) (line work h) b.arena) used_tares ∙
        (ap₂ (λ (mss : List (List ℕ)) (es : List Entry). tower (added s) s.set (top_bit s.set) (fresh ++ tares_left_out b) mss es b.arena) empty g.queue_is ∙
        tower_is b f built reach)

    abbrev e : St
    e = st store clauses (at m)

    abbrev bs : List ℕ
    bs = take s.buckets_used s.buckets

    begins : Carries e e b.arena
    begins = subst (λ (x : Marks). Carries (st store clauses (at x)) (st store clauses (at x)) b.arena) (sym g.marks_are) (entry s store clauses g.well)

    base_stored : Stores store m.records b.arena.records
    base_stored = record {
      image_is = ap (λ (i : ℕ). take (8 * i) store) records_is ∙ image_is s store clauses g.well;
      count_is = records_is;
    }

    module _ (halves : List ℕ) (eh : (rs : List Record) → Stores store m.records rs → halves ≡ map (former_half rs) bs)
        (store₁ work' : List ℕ) (m₁ : Held) (used head : ℕ)
        (tw : (c : List ℤ) → largest (line work h) < 2 ^ (top_bit s.built + spare s) →
        Makes (st store c (at m)) (st store₁ c m₁) (made_in work' used, line work' head)
        (tower (added s) s.set (top_bit s.set) (take (added s + spare s) tares) (members_from work 0 (top_bit s.built + spare s)) (line work h)))
        (long : length work' ≡ length work) (few : used ≤ added s + spare s) (lowers : List ℕ) (el : lowers ≡ made_in work' used) (below : ℕ) (eb : below ≡ get_or lowers 0 0) where
      abbrev new : List ℕ
      new = (made b f built reach).1

      abbrev d : ℕ
      d = get_or new 0 0

      powers : largest (line work h) < 2 ^ (top_bit s.built + spare s)
      unfolding build_of build_over
      powers =
          let more : 2 ^ top_bit s.built ≤ 2 ^ (top_bit s.built + spare s) = pow_mono {i = top_bit s.built} {j = top_bit s.built + spare s} (omega arith) in
          omega (arith, ap largest g.queue_is, largest_sort b.queue, waiting_below b f built, more)

      towered : Carries e (st store₁ clauses m₁) (after b f built reach) ×
          (Fits e (after b f built reach) → ◌≡◌ {A = List ℕ × List Entry} (made_in work' used, line work' head) (new, (q b f built reach).queue))
      towered =
          subst (λ (x : Arena × (List ℕ × List Entry)). Carries e (st store₁ clauses m₁) x.0 ×
          (Fits e x.0 → ◌≡◌ {A = List ℕ × List Entry} (made_in work' used, line work' head) x.1))
          reached_is ((tw clauses powers).go e b.arena begins)

      ready : Renewable bs e (st store₁ clauses m₁) m.records below halves b.arena.records d (after b f built reach)
      unfolding build_of build_over buckets_of
      ready = record {
        carries = towered.0;
        fits = fits_after b f built reach e;
        right = λ x. right b f built reach x.fresh_fit m.records below d halves records_is
            (eb ∙ (ap (λ (y : List ℕ). get_or y 0 0) el ∙ ap (λ (y : List ℕ × List Entry). get_or y.0 0 0) (towered.1 x))) (eh b.arena.records base_stored);
      }

      -- the room ended in the tower
      pub tower_ended : m₁.full ≡ true → Refines b e (st store₁ clauses m₁) work' None
      unfolding build_of build_over buckets_of
      tower_ended k = record {
        renews = subst (Renews bs e (st store₁ clauses m₁)) (sym (merged_is b f built reach)) (renew_full _ _ _ _ _ _ _ _ _ _ _ _ ready k);
        named = λ x. tt;
      }

      module _ (τ : St) (rn : (s₀ : List ℕ) (m₀ : Held) (before : List Record) (d : ℕ) (u : Arena) →
          Renewable bs (st s₀ clauses m₀) (st store₁ clauses m₁) m.records below halves before d u →
          Renews bs (st s₀ clauses m₀) τ (renew before bs d u)) where
        renewed : Renews b.buckets e τ (merge_structures b).arena
        unfolding build_of build_over buckets_of
        renewed = subst (Renews bs e τ) (sym (merged_is b f built reach)) (rn store (at m) b.arena.records d (after b f built reach) ready)

        -- the room ended as the old buckets were renewed
        pub renew_ended : Refines b e τ work' None
        renew_ended = record { renews = renewed; named = λ x. tt }

        module _ (marks : Marks) (buckets : List ℕ)
            (ek : (xs : List ℕ) → length xs ≡ s.buckets_used → s.buckets ≡ padded 0 20 xs → buckets ≡ padded 0 20 (xs ++ lowers)) where
          abbrev z : Structure
          z = record {
            marks = marks;
            head = head;
            tares = tares;
            tares_used = s.tares_used + many;
            buckets = buckets;
            buckets_used = s.buckets_used + used;
          }

          named : Fits e (after b f built reach) → Named work' z (merge_structures b)
          unfolding added build_of build_over buckets_of
          named x =
              let is : made_in work' used ≡ new = ap (λ (y : List ℕ × List Entry). y.0) (towered.1 x) in
              let count : length (made_in work' used) ≡ used = made_length work' used (omega (arith, few, within.1)) (omega (arith, long, g.long)) in
              record {
                slots = record {
                  tares_are = tares_are ∙ ap (padded 0 19) (sym (merged_tares b f built reach));
                  tares_many = omega (arith, ap length (merged_tares b f built reach), length-append fresh b.tares, rising_length (added s) b.arena.fresh, tares_count, em);
                  buckets_are =
                      ek bs buckets_count (sym g.well.laid.buckets_laid) ∙
                      (ap (λ (xs : List ℕ). padded 0 20 (bs ++ xs)) (el ∙ is) ∙ ap (padded 0 20) (sym (merged_buckets b f built reach)));
                  buckets_many = omega (arith, ap length (merged_buckets b f built reach), length-append b.buckets new, ap length is, count, buckets_count);
                };
                queue_is = ap (λ (y : List ℕ × List Entry). y.1) (towered.1 x) ∙ sym (merged_queue b f built reach);
              }

          pub merge_done : Refines b e τ work' (Some z)
          merge_done = record {
            renews = renewed;
            named = λ x. named (fits_after b f built reach e
                (subst (Fits e) (merged_is b f built reach) (fits_based _ e renewed.entry renewed.places renewed.based (merge_structures b).arena x)));
          }
