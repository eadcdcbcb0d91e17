-- The tower of a refinement is the rule's new segment: what it leads to, and where it fits.
use mathlib.Core.Path.{◌≡◌, refl, sym, ap, ap₂, ◌∙◌, subst}
use mathlib.Core.Logic.{◌≢◌}
use mathlib.Core.Bool.{Bool, true, false}
use mathlib.Core.List.{List, [], ◌∷◌, ◌++◌, map, reverse}
use Prim.Native.Nat.{ℕ, ◌+◌, ◌-◌, ◌^◌, ◌≤◌, ◌<◌}
use native.Mathlib.Omega.{arith}
use lib.Dec.{eqb}
use Rattle.std.specs.Prelude.{Option}
use Rattle.std.specs.List.{slice_get}
use Rattle.std.specs.Option.{unwrap_or}
use Rattle.std.proofs.lemmas.Option.{unwrap_or-slice_get}
use lib.ListN.{length, get_or, take, drop, replicate, length-replicate, replicate-append-replicate}
use lib.Seq.{drop-append-le, take-append_seam}
use borrow.Author.Tests.{eqb-true, eqb-false}
use Rattle.rules.specs.Lists.{sort, in_turn}
use Rattle.rules.specs.Records.{Node, Entry, Record, node, node_at, outputs}
use Rattle.rules.specs.Totalizer.{Arena}
use Rattle.rules.specs.Build.{Build, restructured, with_arena, largest, some_wait}
use Rattle.rules.specs.Queue.{heavier, Sorting, queue_run, gathered}
use Rattle.rules.specs.Buckets.{buckets_over}
use Rattle.rules.specs.Refinement.{relink, former_half, extend_bucket, tares_left_out, patched, merge_structures}
use Rattle.laws.specs.Lists.Facts.{All_map, occurs, occurs_here, occurs_other, rising_length}
use Rattle.laws.specs.Records.Places.{place}
use Rattle.laws.specs.WellFormed.Plain.{Sound, Linked, Built, Formed}
use Rattle.laws.specs.Totalizer.Grows.{Grown, grown_then, grown_length, grown_place}
use Rattle.laws.specs.Queue.Runs.{largest_sort}
use Rattle.laws.specs.Numbers.Powers.{top_bit_least}
use Rattle.laws.specs.Refinement.Relinks.{linked_once, linked_rest}
use Rattle.laws.specs.Buckets.Towers.{Tower}
use Rattle.preserve.specs.Given.{set_positive, waiting_below, buckets_there, buckets_inside}
use Rattle.preserve.specs.Gathered.{Gathered, begun, gathered_made}
use Rattle.preserve.specs.Refinement.{p, end, k, q, wait, mss, new_tares, built_tower}
use Rattle.records.specs.Carries.{St, written, Fits, with_records}
use Rattle.records.proofs.Grow.{fits_less}
use Rattle.records.proofs.Small.{peak_sound}
use Rattle.build_line.specs.Work.{made_in}
use Rattle.build_queue.proofs.Gathering.{gathered_more}
use Rattle.build_tower.specs.Rule.{tower}
use Rattle.refine_links.proofs.Renewing.{relink_length}
use Rattle.refine_outputs.proofs.Extending.{buckets_grow}
use Rattle.refine_structure.specs.Refined.{renew, Right}

-- the buckets made as a slice, and the first of them
pub made_slice : (ws : List ℕ) (used : ℕ) → used ≤ 2132 → take (2132 - (2132 - used)) (drop (2132 - used) ws) ≡ made_in ws used
unfolding made_in
made_slice ws used h = let n : 2132 - (2132 - used) ≡ used = omega arith in rw n refl

pub first_made : (xs : List ℕ) (o : Option ℕ) (x : ℕ) → o ≡ slice_get xs 0 → x ≡ unwrap_or o 0 → x ≡ get_or xs 0 0
first_made xs o x eo ex = ex ∙ (ap (λ (p : Option ℕ). unwrap_or p 0) eo ∙ unwrap_or-slice_get xs 0 0)

-- no bucket of a chain stands twice
pub chain_once : (at : ℕ → Node) (pl : ℕ → Bool) → Sound at pl → (w : Bool) (bs : List ℕ) → Linked at w bs → (n : ℕ) → occurs n bs ≤ 1
unfolding occurs
chain_once at pl s w [] h n = omega arith
chain_once at pl s w (b ∷ bs) h n = go (eqb n b) refl (chain_once at pl s w bs (linked_rest at w b bs h) n)
  where
    go : (x : Bool) → eqb n b ≡ x → occurs n bs ≤ 1 → occurs n (b ∷ bs) ≤ 1
    go true e ih =
        let is : n ≡ b = eqb-true n b e in
        let none : occurs n bs ≡ 0 = ap (λ (i : ℕ). occurs i bs) is ∙ linked_once at pl s w b bs h in
        omega (arith, occurs_here n b bs is)
    go false e ih = omega (arith, occurs_other n b bs (eqb-false n b e))

module _ (b : Build) (f : Formed b) (built : b.built ≢ 0) (reach : b.set ≤ largest b.queue) where
  abbrev base : List Record
  base = b.arena.records

  abbrev lows : ℕ
  lows = p b f built reach

  abbrev highs : ℕ
  highs = end b f built reach

  abbrev many : ℕ
  many = k b f built reach

  abbrev sorted : Sorting
  sorted = q b f built reach

  abbrev pub tares : List ℕ
  tares = new_tares b f built reach ++ tares_left_out b

  abbrev own : ℕ
  own = length (tares_left_out b)

  -- the records and the buckets of the new segment
  abbrev pub made : List Record × List ℕ
  made = buckets_over (wait b f built reach) sorted.records [] tares (mss b f built reach)

  -- the arena before the old buckets are renewed
  abbrev pub after : Arena
  after = record { records = made.0; fresh = b.arena.fresh + many; clauses = b.arena.clauses }

  pub finer : lows ≤ highs
  finer =
      let u : Built b = f.if_built built in
      top_bit_least lows b.built (omega (arith, f.set_power, u.coarser))

  gathers : Gathered b highs (λ q. Unit {0})
  gathers = gathered_made b f highs (buckets_inside b f) (waiting_below b f built) reach (λ q. Unit {0}) (λ q ok e h. tt) tt

  -- the queue run over more empty buckets
  run_is : queue_run (largest (sort heavier b.queue)) b.set (begun b (highs + own)) ≡
      record { records = sorted.records; members = sorted.members ++ replicate own []; queue = sorted.queue }
  unfolding gathered
  run_is =
      let first : Sorting = begun b highs in
      let low : largest (sort heavier b.queue) < 2 ^ length first.members = subst (λ (n : ℕ). largest (sort heavier b.queue) < 2 ^ n) (sym (length-replicate {A = List ℕ} highs []))
      (omega (arith, largest_sort b.queue, waiting_below b f built)) in
      ap₂ (λ (n : ℕ) (ms : List (List ℕ)). queue_run n b.set (record { records = base; members = ms; queue = sort heavier b.queue }))
      (largest_sort b.queue) (sym (replicate-append-replicate {A = List ℕ} highs own [])) ∙
      gathered_more (largest b.queue) b.set (replicate own []) first (set_positive b f) low

  pub tower_is : tower many b.set lows tares (replicate (highs + own) []) (sort heavier b.queue) b.arena ≡ (after, (made.1, sorted.queue))
  unfolding tower
  tower_is =
      let G : Sorting → Arena × (List ℕ × List Entry) = λ z.
      let r : List Record × List ℕ = buckets_over (some_wait z.queue) z.records [] tares (drop lows z.members) in
      (record { records = r.0; fresh = b.arena.fresh + many; clauses = b.arena.clauses }, (r.1, z.queue)) in
      let inside : lows ≤ length sorted.members = omega (arith, finer, gathers.gathers.count) in
      ap G run_is ∙
      ap (λ (ms : List (List ℕ)).
      let r : List Record × List ℕ = buckets_over (some_wait sorted.queue) sorted.records [] tares ms in
      (record { records = r.0; fresh = b.arena.fresh + many; clauses = b.arena.clauses }, (r.1, sorted.queue)))
      (drop-append-le lows sorted.members (replicate own []) inside)

  -- the refinement is this segment, renewed
  pub merged_is : (merge_structures b).arena ≡ renew base b.buckets (get_or made.1 0 0) after
  unfolding merge_structures with_arena restructured patched renew with_records
  merged_is =
      ap (λ (n : ℕ). in_turn (extend_bucket base) (record {
        records = relink made.0 (get_or made.1 0 0) (reverse b.buckets);
        fresh = b.arena.fresh + n;
        clauses = b.arena.clauses;
      }) (reverse b.buckets)) (rising_length many b.arena.fresh)

  module _ (room : after.fresh ≤ 1000000001) where
    built_up : Tower (wait b f built reach) b.buckets sorted.records (length sorted.records) [] (mss b f built reach) made
    built_up = built_tower b f built reach (omega (arith, rising_length many b.arena.fresh))

    grown : Grown base made.0
    grown = grown_then base sorted.records made.0 gathers.gathers.grown built_up.grown

    front : take (length base) made.0 ≡ base
    front = ap (take (length base)) grown.is_new ∙ take-append_seam base (map node grown.new)

    pub right : (old below d : ℕ) (halves : List ℕ) → old ≡ length base → below ≡ d → halves ≡ map (former_half base) b.buckets →
        Right b.buckets old below halves base d after
    right old below d halves eo ed eh = record {
      there = All_map (grown_place base made.0 grown) b.buckets (buckets_there b f);
      once = chain_once (node_at base) (place base) f.sound (some_wait b.queue) b.buckets (f.if_built built).linked;
      enough = omega (arith, grown_length base made.0 grown);
      same = ap (λ (n : ℕ). outputs (take n made.0)) eo ∙ ap outputs front;
      halves_are = eh;
      below_is = ed;
    }

  -- where the refinement fits, so does the segment: its nodes go by rule
  pub fits_after : (e : St) → Fits e (renew base b.buckets (get_or made.1 0 0) after) → Fits e after
  unfolding renew with_records written
  fits_after e h =
      let linked : Arena = with_records after (relink made.0 (get_or made.1 0 0) (reverse b.buckets)) in
      let g : Fits e linked = fits_less e linked (renew base b.buckets (get_or made.1 0 0) after) (buckets_grow base (reverse b.buckets) linked) h in
      let same : length (relink made.0 (get_or made.1 0 0) (reverse b.buckets)) ≡ length made.0 = relink_length made.0 (get_or made.1 0 0) (reverse b.buckets) in
      let places : length made.0 ≤ 4294967296 = omega (arith, g.places_fit) in
      record {
        records_fit = omega (arith, g.records_fit);
        words_fit = g.words_fit;
        fresh_fit = g.fresh_fit;
        places_fit = places;
        sizes_fit = peak_sound made.0 (built_up g.fresh_fit).grown.sound places;
      }

  pub merged_tares : (merge_structures b).tares ≡ new_tares b f built reach ++ b.tares
  unfolding merge_structures with_arena restructured patched
  merged_tares = refl

  pub merged_buckets : (merge_structures b).buckets ≡ b.buckets ++ made.1
  unfolding merge_structures with_arena restructured patched
  merged_buckets = refl

  pub merged_queue : (merge_structures b).queue ≡ sorted.queue
  unfolding merge_structures with_arena restructured patched
  merged_queue = refl
