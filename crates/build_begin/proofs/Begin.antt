-- A well formed build carries itself: its nodes and outputs, with what waits seen as free words.
use mathlib.Core.Path.{◌≡◌, refl, sym, ap, ◌∙◌, subst}
use mathlib.Core.Logic.{◌≢◌}
use mathlib.Core.List.{List, [], ◌++◌, map}
use Prim.Native.Nat.{ℕ, ◌+◌, ◌*◌, ◌≤◌, ◌<◌}
use native.Mathlib.Omega.{arith}
use lib.ListN.{length, length-append, length-map, get_or, take, drop}
use lib.Seq.{get_or-take, take-append_seam, take_at}
use lib.IntN.{ℤ}
use Rattle.rules.specs.declared.State.{State}
use Rattle.rules.specs.Lists.{all}
use Rattle.rules.specs.Numbers.{capacity}
use Rattle.rules.specs.Records.{Record, waiting, image_of, records_of}
use Rattle.rules.specs.Build.{Build, records, clause_total, clause_mark, clause_words, build_over, build_of, held, tares_of, buckets_of, root}
use Rattle.rules.specs.WellFormed.{known}
use Rattle.laws.specs.Lists.Facts.{facts_all}
use Rattle.laws.specs.Records.Words.{image_of_records}
use Rattle.laws.specs.Records.Images.{records_more}
use Rattle.laws.specs.WellFormed.Whole.{records_length}
use Rattle.laws.specs.WellFormed.Plain.{WellFormed}
use Rattle.laws.specs.WellFormed.ToPlain.{slots_count}
use Rattle.records.specs.Carries.{St, st, at, Carries, Lent, read_arena, Stores, peak}
use Rattle.records.proofs.Entry.{begins}
use Rattle.records.proofs.Small.{peak_sound}
use Rattle.records_waiting.proofs.Whole.{readable}
use Rattle.build_begin.specs.Named.{marks_at}

module _ (s : State) (store : List ℕ) (clauses : List ℤ) (w : WellFormed s store clauses) where
  abbrev pub b : Build
  b = build_of s store

  abbrev pub made : List Record
  made = b.arena.records

  abbrev pub n : ℕ
  n = length made

  -- the records of the store are the nodes and outputs, then what waits
  pub held_is : records_of store s.records ≡ made ++ map waiting b.queue
  unfolding held build_of records
  held_is = w.laid.waiting_last

  pub all_count : length (records b) ≡ s.records
  unfolding records
  all_count = sym (ap length held_is) ∙ records_length store s.records

  pub count_is : s.records ≡ n + length b.queue
  count_is = sym (records_length store s.records) ∙ (ap length held_is ∙ (length-append made (map waiting b.queue) ∙
      ap (λ (k : ℕ). n + k) (length-map b.queue waiting)))

  pub made_is : records_of store n ≡ made
  made_is =
      let rest : List Record = records_of (drop (8 * n) store) (length b.queue) in
      let whole : records_of store n ++ rest ≡ made ++ map waiting b.queue =
      sym (records_more store n (length b.queue)) ∙ (ap (records_of store) (sym count_is) ∙ held_is) in
      sym (take_at (records_of store n) rest n (records_length store n)) ∙ (ap (take n) whole ∙ take-append_seam made (map waiting b.queue))

  -- the entry of an encode
  abbrev pub e : St
  e = st store clauses (at (marks_at s n))

  inside : 8 * n ≤ length store
  unfolding capacity
  inside = omega (arith, w.records_within, count_is)

  places : n ≤ 4294967296
  unfolding capacity
  places = omega (arith, w.records_within, count_is)

  pub image_is : take (8 * n) store ≡ image_of made
  image_is =
      sym (image_of_records store n (ap (λ rs. all known rs) made_is ∙ facts_all known (λ r k. k) made w.formed.all_known)) ∙ ap image_of made_is

  lent : Lent e
  unfolding marks_at build_of build_over clause_total clause_mark clause_words
  lent = record {
    image = image_is ∙ ap image_of (sym made_is);
    records_in = inside;
    words_in = w.words_within;
    fresh_in = w.formed.fresh_few;
    count_in = omega (arith, w.formed.clauses_few);
    places_in = places;
    sizes_in = subst (λ (rs : List Record). peak rs < 4294967296) (sym made_is) (peak_sound made w.formed.sound places);
    not_full = refl;
  }

  pub entry : Carries e e b.arena
  unfolding marks_at read_arena build_of build_over
  entry = subst (λ (rs : List Record). Carries e e (record { records = rs; fresh = s.fresh; clauses = [] })) made_is (begins e lent)

  pub stored : Stores store s.records (made ++ map waiting b.queue)
  unfolding held
  stored = subst (Stores store s.records) held_is (readable s store clauses w).stores

  -- the state's own arrays
  pub tares_count : s.tares_used ≡ length b.tares
  unfolding build_of build_over tares_of
  tares_count = sym (slots_count 19 s.tares_used s.tares w.laid.tares_few w.laid.tares_laid)

  pub buckets_count : s.buckets_used ≡ length b.buckets
  unfolding build_of build_over buckets_of
  buckets_count = sym (slots_count 20 s.buckets_used s.buckets w.laid.buckets_few w.laid.buckets_laid)

  module _ (built : s.built ≢ 0) where
    some_bucket : 1 ≤ s.buckets_used
    unfolding build_of build_over
    some_bucket = omega (arith, buckets_count, (w.formed.if_built built).some)

    pub root_is : get_or s.buckets 0 0 ≡ root b
    unfolding root build_of build_over buckets_of
    root_is = sym (get_or-take s.buckets_used s.buckets 0 0 some_bucket)
