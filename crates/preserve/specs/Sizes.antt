-- The sizes that follow from well formed: of any build, of the queue at every step, and of what encode reaches.
use Rattle.std.specs.Prelude.{◌≡◌, refl, ◌≢◌, Bool, true, false, List, [], map, ℕ, zero, suc, ◌*◌, ◌^◌, ◌≤◌, ◌<◌, eqb, length, get_or, ℤ}
use Rattle.std.proofs.Common.{sym, subst, arith, pow_pos, eqb-true}
use Rattle.std.proofs.lemmas.Bool.{eqb-false}
use Rattle.rules.specs.declared.State.{State}
use Rattle.rules.specs.Lists.{total}
use Rattle.rules.specs.Digits.{bit_length, digits, top_bit}
use Rattle.rules.specs.Records.{join, Entry, Record, node_at, left_link, outputs}
use Rattle.rules.specs.Build.{Build, restructured, largest, build_of}
use Rattle.rules.specs.Queue.{Sorting, queue_run}
use Rattle.rules.specs.Encode.{encode_refusal, encode}
use Rattle.rules.specs.Buckets.{build_structure}
use Rattle.rules.specs.Refinement.{patched}
use Rattle.laws.specs.Lists.Facts.{All, All_map}
use Rattle.laws.specs.Numbers.Powers.{below_digits, digits_top, top_bit_below}
use Rattle.laws.specs.Records.Places.{place, place_inside}
use Rattle.laws.specs.WellFormed.Plain.{Built, Formed}
use Rattle.laws.specs.Totalizer.Heights.{heights_below}
use Rattle.laws.specs.WellFormed.ToClauses.{power_within, tares_within_19, buckets_within_20}
use Rattle.laws.specs.Totalizer.Merges.{maxima}
use Rattle.laws.specs.Queue.Runs.{largest_all, steps_keep}
use Rattle.laws.specs.Queue.Gathers.{Gathers, gathers_step, gathers_waits, gathers_members}
use Rattle.laws.specs.Queue.Fills.{gathers_start}
use Rattle.preserve.specs.Gathered.{begun}
use Rattle.preserve.specs.FirstBuild.{first_formed}
use Rattle.preserve.specs.RefinementWhole.{patched_refined}
use Rattle.preserve.specs.Given.{Ahead, set_positive, weights_few, waiting_below, buckets_inside}
use Rattle.preserve.specs.Encodes.{fresh_ahead, ahead_of, Accepted, accepted, reaches_formed}

top_bit_zero : top_bit 0 ≡ 0
unfolding top_bit digits bit_length
top_bit_zero = refl

-- the sizes of a build
pub record Sized (b : Build) : Type 0 where
  pub tares_19 : length b.tares ≤ 19
  pub buckets_20 : length b.buckets ≤ 20
  pub waiting_256 : length b.queue ≤ 256
  pub waiting_maxima_256 : total (map (λ (e : Entry). (node_at b.arena.records e.node).maximum) b.queue) ≤ 256
  pub maxima_513 : (n : ℕ) → (node_at b.arena.records n).maximum ≤ 513
  pub lefts_257 : All (λ n. (node_at b.arena.records (left_link (node_at b.arena.records n).kind)).maximum ≤ 257) b.buckets
  pub heights_within : (n : ℕ) → place b.arena.records n ≡ true → (node_at b.arena.records n).height < length b.arena.records
  pub links_within : (n : ℕ) (half : Bool) (l r : ℕ) → (node_at b.arena.records n).kind ≡ join half l r →
      (l < length b.arena.records) × (r < length b.arena.records)
  pub buckets_within : All (λ n. n < length b.arena.records) b.buckets
  pub entries_within : All (λ e. e.node < length b.arena.records) b.queue
  pub outputs_within : All (λ o. o.node < length b.arena.records) (outputs b.arena.records)

bucket_lefts : (b : Build) → Formed b → All (λ n. (node_at b.arena.records
    (left_link (node_at b.arena.records n).kind)).maximum ≤ 257) b.buckets
bucket_lefts b f = go (eqb b.built 0) refl
  where
    go : (t : Bool) → eqb b.built 0 ≡ t → All (λ n. (node_at b.arena.records
        (left_link (node_at b.arena.records n).kind)).maximum ≤ 257) b.buckets
    go true e = subst (λ (t : List ℕ). All (λ n. (node_at b.arena.records (left_link (node_at b.arena.records n).kind)).maximum ≤ 257)
        t) (sym (f.if_unbuilt (eqb-true b.built 0 e)).no_bucket) tt
    go false e = (f.if_built (eqb-false b.built 0 e)).lefts

-- a well formed build has them
pub formed_sized : (b : Build) → Formed b → Sized b
formed_sized b f =
    let rs : List Record = b.arena.records in
    record {
      tares_19 = tares_within_19 b f;
      buckets_20 = buckets_within_20 b f;
      waiting_256 = f.waiting_are.few;
      waiting_maxima_256 = f.waiting_are.maxima_few;
      maxima_513 = λ n. (f.sound n).within;
      lefts_257 = bucket_lefts b f;
      heights_within = heights_below rs f.sound;
      links_within = λ n half l r k. let (a, c) = (f.sound n).links_are half l r k in (place_inside rs l a, place_inside rs r c);
      buckets_within = buckets_inside b f;
      entries_within = All_map (λ e p. place_inside rs e.node p) b.queue f.waiting_are.nodes_wait;
      outputs_within = All_map (λ o v. place_inside rs o.node v.named) (outputs rs) f.defined.valued;
    }

-- what an accepted encode reaches has them
pub encode_sized : (s : State) (store : List ℕ) (clauses : List ℤ) (work : List ℕ) (lo end : ℕ) →
    encode_refusal s store clauses work lo end ≡ 0 → fresh_ahead s store ≡ true → Sized (encode (build_of s store) lo end)
encode_sized s store clauses work lo end e h =
    let a : Accepted s store clauses lo end = accepted s store clauses work lo end e in
    formed_sized (encode (build_of s store) lo end) (reaches_formed s store clauses lo end a (ahead_of s store clauses a.well h)).0

-- so have a first build and a refinement on the way
pub first_sized : (b : Build) → Formed b → b.built ≡ 0 → 2 ≤ b.inputs → b.set ≤ largest b.queue → Ahead b →
    (build_structure b).arena.fresh ≤ 1000000001 → Sized (build_structure b)
unfolding build_structure restructured
first_sized b f z two reach ahead few = formed_sized (build_structure b) (first_formed b f z two reach few ahead)

pub patched_sized : (b : Build) → Formed b → b.built ≢ 0 → b.set ≤ largest b.queue → Ahead b →
    (patched b).arena.fresh ≤ 1000000001 → Sized (patched b)
unfolding patched restructured
patched_sized b f built reach ahead few = formed_sized (patched b) (patched_refined b f built reach ahead few).formed

-- the sizes of the queue's work
pub record QueueSized (q : Sorting) : Type 0 where
  pub waiting_256 : length q.queue ≤ 256
  pub waiting_maxima_256 : total (map (λ (e : Entry). (node_at q.records e.node).maximum) q.queue) ≤ 256
  pub members_256 : (k : ℕ) → length (get_or q.members k []) ≤ 256
  pub members_maxima_256 : (k : ℕ) → maxima q.records (get_or q.members k []) ≤ 256
  pub maxima_513 : (n : ℕ) → (node_at q.records n).maximum ≤ 513
  pub heights_within : (n : ℕ) → place q.records n ≡ true → (node_at q.records n).height < length q.records

-- it has them after any number of steps, with n buckets that reach the largest weight
pub queue_sized : (b : Build) (n f : ℕ) → Formed b → largest b.queue < 2 ^ n → QueueSized (queue_run f b.set (begun b n))
queue_sized b n f h powers =
    let most : ℕ = largest b.queue in
    let positive : 1 ≤ b.set = set_positive b h in
    let few : most ≤ 1048575 = weights_few b h in
    let start : Gathers b.arena.records b.buckets n most (begun b n) =
    gathers_start b.arena.records b.buckets n most b.queue h.sound h.spares h.waiting_are h.entries_spare
    (largest_all b.queue most (omega arith)) in
    let g : Gathers b.arena.records b.buckets n most (queue_run f b.set (begun b n)) =
    steps_keep (Gathers b.arena.records b.buckets n most) b.set
    (λ q g i. gathers_step b.arena.records b.buckets n most (buckets_inside b h) powers q g (omega arith)) f (begun b n) start in
    let q : Sorting = queue_run f b.set (begun b n) in
    record {
      waiting_256 = (gathers_waits b.arena.records b.buckets n most q few g).few;
      waiting_maxima_256 = (gathers_waits b.arena.records b.buckets n most q few g).maxima_few;
      members_256 = λ k. (gathers_members b.arena.records b.buckets n most q g k).0;
      members_maxima_256 = λ k. (gathers_members b.arena.records b.buckets n most q g k).1;
      maxima_513 = λ m. (g.grown.sound m).within;
      heights_within = heights_below q.records g.grown.sound;
    }

-- a first build has as many buckets as the largest weight has digits
pub first_queue_sized : (b : Build) (f : ℕ) → Formed b → QueueSized (queue_run f b.set (begun b (digits (largest b.queue))))
first_queue_sized b f h = queue_sized b (digits (largest b.queue)) f h (below_digits (largest b.queue))

-- a refinement as many as the built divisor's power
pub refinement_queue_sized : (b : Build) (f : ℕ) → Formed b → b.built ≢ 0 →
    QueueSized (queue_run f b.set (begun b (top_bit b.built)))
refinement_queue_sized b f h n = queue_sized b (top_bit b.built) f h (waiting_below b h n)

-- and these are at most 20 and 19
pub first_powers_20 : (b : Build) → Formed b → digits (largest b.queue) ≤ 20
first_powers_20 b f = go (largest b.queue) (weights_few b f)
  where
    go : (w : ℕ) → w ≤ 1048575 → digits w ≤ 20
    go zero h = omega (arith, digits_top 0, top_bit_zero)
    go (suc w) h = omega (arith, digits_top (suc w), top_bit_below 20 (suc w) (omega arith) (omega arith))

within_divisor : (d w : ℕ) → 0 < w → d * w ≤ 524288 → d ≤ 524288
within_divisor d zero h k = absurd (omega arith)
within_divisor d (suc w) h k = omega arith

pub refinement_powers_19 : (b : Build) → Formed b → b.built ≢ 0 → top_bit b.built ≤ 19
refinement_powers_19 b f n =
    let u : Built b = f.if_built n in
    let few : b.built ≤ 524288 = within_divisor b.built (2 ^ length b.tares) (pow_pos (length b.tares)) u.times_weight in
    power_within (top_bit b.built) (omega (arith, u.power))
