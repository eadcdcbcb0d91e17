-- What stands is reached with its own tares, buckets and queue.
use mathlib.Core.Path.{◌≡◌, sym, ap, ◌∙◌, subst}
use mathlib.Core.Bool.{false}
use mathlib.Core.List.{List, ◌++◌, map}
use Prim.Native.Nat.{ℕ, ◌+◌, ◌*◌, ◌-◌, ◌≤◌}
use native.Mathlib.Omega.{arith}
use lib.ListN.{length, take, drop}
use lib.Seq.{drop-append_seam}
use lib.IntN.{ℤ}
use Rattle.rules.specs.declared.State.{State}
use Rattle.rules.specs.Records.{Record, waiting, image_of}
use Rattle.rules.specs.Build.{Build, build_of, build_over}
use Rattle.rules.specs.Encode.{prepared, encode_outputs, divisor_above}
use Rattle.laws.specs.WellFormed.Plain.{WellFormed}
use Rattle.laws.specs.Records.Images.{image_append, drop_take}
use Rattle.laws.specs.Records.Words.{image_length}
use Rattle.std.specs.Prelude.{Option, Some, None, IfSome}
use Rattle.records.specs.Carries.{St, st, at, Fits, Carries}
use Rattle.encode_outputs.specs.declared.Range.{Range}
use Rattle.encode_outputs.specs.Taken.{entries_by, entries_at, whole}
use Rattle.build_begin.specs.declared.Structure.{Structure}
use Rattle.build_begin.specs.Answer.{structure_marks}
use Rattle.build_begin.specs.Named.{marks_at, with_marks, Slots}
use Rattle.build_begin.proofs.Begin.{entry, stored, count_is, tares_count, buckets_count}
use Rattle.encode_undo.specs.Aside.{Aside}
use Rattle.encode_case.specs.Case.{reaches}
use Rattle.encode_case.proofs.Ways.{stands}
use Rattle.refine_structure.proofs.Bases.{based_self}
use Rattle.encode_reach.specs.Reached.{standing, Reached}
use Rattle.encode_reach.proofs.Reaching.{reached, saved_by}

-- slots do not look at marks
pub marked_slots : (z : Structure) (c : Build) (x : Option Structure) → IfSome x (λ y. y ≡ with_marks z y.marks) → Slots z c → IfSome x (λ y. Slots y c)
marked_slots z c None e h = tt
marked_slots z c (Some y) e h =
    subst (λ (y : Structure). Slots y c) (sym e) (record {
      tares_are = h.tares_are;
      tares_many = h.tares_many;
      buckets_are = h.buckets_are;
      buckets_many = h.buckets_many;
    })

pub standing_tares : (s : State) (n : ℕ) (z : Structure) → z ≡ standing s n → s.tares_used ≤ 19 → z.tares_used ≤ 19
unfolding standing
standing_tares s n z e h = omega (arith, ap (λ (y : Structure). y.tares_used) e)

module _ (s : State) (store : List ℕ) (clauses : List ℤ) (w : WellFormed s store clauses) where
  abbrev b : Build
  b = build_of s store

  -- the state's own arrays
  pub own_slots : (n : ℕ) → Slots (standing s n) b
  unfolding standing build_of build_over
  own_slots n = record {
    tares_are = sym w.laid.tares_laid;
    tares_many = tares_count s store clauses w;
    buckets_are = sym w.laid.buckets_laid;
    buckets_many = buckets_count s store clauses w;
  }

  -- the words of what waits
  pub waiting_words : (n : ℕ) → n ≡ length b.arena.records → take (8 * (s.records - n)) (drop (8 * n) store) ≡ image_of (map waiting b.queue)
  waiting_words n e =
      let made : List Record = b.arena.records in
      let all : s.records ≡ length made + length b.queue = count_is s store clauses w in
      let sum : 8 * s.records ≡ 8 * n + 8 * (s.records - n) = omega arith in
      let front : length (image_of made) ≡ 8 * n = image_length made ∙ ap (λ (k : ℕ). 8 * k) (sym e) in
      sym (drop_take (8 * n) (8 * (s.records - n)) store) ∙
      (ap (λ (k : ℕ). drop (8 * n) (take k store)) (sym sum) ∙
      (ap (drop (8 * n)) ((stored s store clauses w).image_is ∙ image_append made (map waiting b.queue)) ∙
      (ap (λ (k : ℕ). drop k (image_of made ++ image_of (map waiting b.queue))) (sym front) ∙ drop-append_seam (image_of made) (image_of (map waiting b.queue)))))

  pub queue_by : (n : ℕ) (work : List ℕ) → n ≡ length b.arena.records → Aside s store work n →
      entries_at work (record { node = 1; weight = 2; apart = 8; many = s.records - n }) ≡ b.queue
  unfolding entries_at
  queue_by n work e a =
      let many : s.records - n ≡ length b.queue = omega (arith, count_is s store clauses w) in
      let words : take (8 * length b.queue) work ≡ image_of (map waiting b.queue) =
      ap (λ (k : ℕ). take (8 * k) work) (sym many) ∙ (a.words ∙ waiting_words n e) in
      ap (entries_by work 1 2 8) many ∙ saved_by b.queue work 0 words

  pub few_wait : (n : ℕ) → n ≡ length b.arena.records → (n ≤ s.records) × (s.records - n ≤ 256)
  few_wait n e = (omega (arith, count_is s store clauses w), omega (arith, count_is s store clauses w, w.formed.waiting_are.few))

  pub entered : (n : ℕ) → n ≡ length b.arena.records → Carries (st store clauses (at (marks_at s n))) (st store clauses (at (marks_at s n))) b.arena
  entered n e = rw e (entry s store clauses w)

  -- and it is reached
  pub stands_reached : (n : ℕ) (work s' : List ℕ) (c' : List ℤ) (range : Range) (z : Structure) (x : Option Structure) → n ≡ length b.arena.records → divisor_above b ≡ false → reaches b ≡ false →
      Aside s store work n → z ≡ standing s n → IfSome x (λ y. y ≡ with_marks z y.marks) →
      ((e : St) (p : Build) → Carries e (st store clauses (at z.marks)) p.arena →
      (Fits e p.arena → Slots z p × (entries_at work (record { node = 1; weight = 2; apart = 8; many = s.records - n }) ≡ p.queue)) →
      Carries e (st s' c' (structure_marks x)) (whole (encode_outputs p range.lo range.end))) →
      Reached b.buckets (st store clauses (at (marks_at s n))) (st s' c' (structure_marks x)) (encode_outputs (prepared b) range.lo range.end) x
  unfolding standing
  stands_reached n work s' c' range z x made d low a ez em finish =
      let slots : Slots z b = subst (λ (y : Structure). Slots y b) (sym ez) (own_slots n) in
      let start : Carries (st store clauses (at (marks_at s n))) (st store clauses (at z.marks)) b.arena =
      subst (λ (y : Structure). Carries (st store clauses (at (marks_at s n))) (st store clauses (at y.marks)) b.arena) (sym ez) (entered n made) in
      subst (λ (p : Build). Reached b.buckets (st store clauses (at (marks_at s n))) (st s' c' (structure_marks x)) (encode_outputs p range.lo range.end) x) (sym (stands b d low))
      (reached b.buckets (st store clauses (at (marks_at s n))) (st store clauses (at (marks_at s n))) (st s' c' (structure_marks x)) 0 (based_self _ _ 0) b range.lo range.end x (omega arith)
      (finish (st store clauses (at (marks_at s n))) b start (λ f. (slots, queue_by n work made a))) (λ f. marked_slots z b x em slots))
