-- The tower of a first build is document 01's first build.
use mathlib.Core.Path.{◌≡◌, refl, sym, ap, ap₂, ◌∙◌, subst}
use mathlib.Core.Bool.{true}
use mathlib.Core.List.{List, [], ◌++◌}
use Prim.Native.Nat.{ℕ, ◌+◌, ◌-◌, ◌^◌, ◌≤◌, ◌<◌}
use native.Mathlib.Omega.{arith}
use lib.ListN.{length, take, drop, replicate}
use Rattle.rules.specs.declared.State.{State}
use Rattle.rules.specs.Lists.{sort, rising, padded}
use Rattle.rules.specs.Digits.{digits, top_bit}
use Rattle.rules.specs.Records.{Entry}
use Rattle.rules.specs.Totalizer.{Arena}
use Rattle.rules.specs.Build.{Build, restructured, build_of, build_over, largest, some_wait}
use Rattle.rules.specs.Queue.{heavier, Sorting, queue_run, gathered}
use Rattle.rules.specs.Buckets.{buckets_over, build_structure}
use Rattle.laws.specs.Lists.Facts.{All, All_rising, rising_length}
use Rattle.laws.specs.Numbers.Powers.{below_digits, digits_top, top_bit_mono}
use Rattle.laws.specs.Queue.Runs.{largest_sort}
use Rattle.laws.specs.Records.Images.{padded_front}
use Rattle.preserve.specs.Given.{set_positive, weights_few}
use Rattle.preserve.specs.Sizes.{first_powers_20}
use Rattle.records.specs.Carries.{St, marks_of, Fits, Carries, Makes}
use Rattle.records.proofs.Step.{makes_any}
use Rattle.build_line.specs.Work.{line, members_from, made_in}
use Rattle.build_queue.specs.Queued.{Queued}
use Rattle.build_queue.proofs.Members.{members_empty}
use Rattle.build_queue.proofs.Waiting.{queued_start}
use Rattle.build_buckets.proofs.Words.{made_length}
use Rattle.build_tower.specs.Rule.{tower}
use Rattle.build_begin.specs.declared.Structure.{Structure}
use Rattle.build_begin.specs.Named.{Named}
use Rattle.build_first.specs.Ready.{Ready}

-- the first build by its fuel and its count of new numbers
whole : Build → ℕ → ℕ → Arena × (List ℕ × List Entry)
whole b fuel taken =
    let p : ℕ = top_bit b.set in
    let l : ℕ = digits (largest b.queue) in
    let q : Sorting = queue_run fuel b.set (record { records = b.arena.records; members = replicate l []; queue = sort heavier b.queue }) in
    let (rs, buckets) = buckets_over (some_wait q.queue) q.records [] (rising (l - 1 - p) b.arena.fresh) (drop p q.members) in
    (record { records = rs; fresh = b.arena.fresh + taken; clauses = b.arena.clauses }, (buckets, q.queue))

-- the new tares stand first in their array
tares_front : (k fresh : ℕ) (xs : List ℕ) → xs ≡ padded 0 19 (rising k fresh) → take k xs ≡ rising k fresh
tares_front k fresh xs e = ap₂ (λ (n : ℕ) (ys : List ℕ). take n ys) (sym (rising_length k fresh)) e ∙ padded_front 0 19 (rising k fresh)

pub tares_count : (k fresh : ℕ) (xs : List ℕ) → xs ≡ padded 0 19 (rising k fresh) → k ≡ length (take k xs)
tares_count k fresh xs e = sym (ap length (tares_front k fresh xs e) ∙ rising_length k fresh)

module _ (b : Build) (ws : List ℕ) (h : ℕ) (r : Ready b ws h) where
  abbrev p : ℕ
  p = top_bit b.set

  abbrev l : ℕ
  l = digits (largest b.queue)

  abbrev k : ℕ
  k = l - 1 - p

  first_is : tower k b.set p (rising k b.arena.fresh) (replicate l []) (sort heavier b.queue) b.arena ≡
      ((build_structure b).arena, ((build_structure b).buckets, (build_structure b).queue))
  unfolding tower whole build_structure restructured gathered
  first_is = ap₂ (whole b) (largest_sort b.queue) (sym (rising_length k b.arena.fresh))

  pub low : p < l
  low = omega (arith, digits_top (largest b.queue), top_bit_mono b.set (largest b.queue) (set_positive b r.formed) r.reach)

  pub powers : l ≤ 20
  powers = first_powers_20 b r.formed

  pub largest_is : largest (line ws h) ≡ largest b.queue
  largest_is = ap largest r.queue_is ∙ largest_sort b.queue

  pub reaches : largest (line ws h) < 2 ^ l
  reaches = omega (arith, largest_is, below_digits (largest b.queue))

  pub queue_ready : Queued ws h
  queue_ready =
      queued_start ws h b.queue r.long r.head r.queue_is r.formed.waiting_are.few (omega (arith, weights_few b r.formed)) r.none

  pub tares_low : (xs : List ℕ) (fresh : ℕ) → xs ≡ padded 0 19 (rising k fresh) → fresh + k ≤ 1000000001 → All (λ t. t < 2147483648) (take k xs)
  tares_low xs fresh e few =
      subst (λ (ts : List ℕ). All (λ t. t < 2147483648) ts) (sym (tares_front k fresh xs e)) (All_rising (λ t. t < 2147483648) k fresh (λ i a c. omega arith))

  pub first_built : (σ τ e : St) (us tares : List ℕ) (z : Structure) (used : ℕ) → used ≤ 20 → 13312 ≤ length us → tares ≡ padded 0 19 (rising k b.arena.fresh) →
      z.tares ≡ tares → z.tares_used ≡ k → z.buckets ≡ padded 0 20 (made_in us used) → z.buckets_used ≡ used →
      Makes σ τ (made_in us used, line us z.head) (tower k b.set p (take k tares) (members_from ws 0 l) (line ws h)) →
      Carries e σ b.arena → Carries e τ (build_structure b).arena × (Fits e (build_structure b).arena → Named us z (build_structure b))
  unfolding build_structure restructured
  first_built σ τ e us tares z used few long et ez en eb eu made carried =
      let same : tower k b.set p (take k tares) (members_from ws 0 l) (line ws h) b.arena ≡
      ((build_structure b).arena, ((build_structure b).buckets, (build_structure b).queue)) =
      ap₂ (λ (ts : List ℕ) (x : List (List ℕ) × List Entry). tower k b.set p ts x.0 x.1 b.arena) (tares_front k b.arena.fresh tares et)
      (ap₂ (λ (ms : List (List ℕ)) (q : List Entry). (ms, q)) (members_empty ws 0 l (λ i a c. r.none i (omega (arith, powers)))) r.queue_is) ∙ first_is in
      let out : Carries e τ (build_structure b).arena × (Fits e (build_structure b).arena → ◌≡◌ {A = List ℕ × List Entry} (made_in us used, line us z.head) ((build_structure b).buckets, (build_structure b).queue)) =
      subst (λ (x : Arena × (List ℕ × List Entry)). Carries e τ x.0 × (Fits e x.0 → ◌≡◌ {A = List ℕ × List Entry} (made_in us used, line us z.head) x.1)) same (made.go e b.arena carried) in (
        out.0,
        λ f. let named = out.1 f in
            let buckets : made_in us used ≡ (build_structure b).buckets = ap (λ (x : List ℕ × List Entry). x.0) named in
            record {
              slots = record {
                tares_are = ez ∙ et;
                tares_many = en ∙ sym (rising_length k b.arena.fresh);
                buckets_are = eb ∙ ap (padded 0 20) buckets;
                buckets_many = eu ∙ (sym (made_length us used few long) ∙ ap length buckets);
              };
              queue_is = ap (λ (x : List ℕ × List Entry). x.1) named;
            },
      )

-- The same by what the code computes -------------------------------------------------------------------------------------------------

-- the powers of the buckets: from the divisor's top bit t up to the bit length d of the largest weight
pub record Powers (s : State) (store ws : List ℕ) (h d t : ℕ) : Type 0 where
  pub ready : Ready (build_of s store) ws h
  pub end_is : d ≡ digits (largest (build_of s store).queue)
  pub low_is : t ≡ top_bit s.set
  pub some : t < d
  pub few : d ≤ 20

pub powers_from : (s : State) (store ws : List ℕ) (h : ℕ) → Ready (build_of s store) ws h → (most d t : ℕ) → most ≡ largest (line ws h) → d ≡ digits most → t ≡ top_bit s.set →
    Powers s store ws h d t
unfolding build_of build_over
powers_from s store ws h r most d t em ed et =
    let end : d ≡ digits (largest (build_of s store).queue) = ed ∙ ap digits (em ∙ largest_is (build_of s store) ws h r) in
    record {
      ready = r;
      end_is = end;
      low_is = et;
      some = omega (arith, end, et, low (build_of s store) ws h r);
      few = omega (arith, end, first_powers_20 (build_of s store) r.formed);
    }

module _ (s : State) (store ws : List ℕ) (h d t : ℕ) (x : Powers s store ws h d t) where
  abbrev b : Build
  b = build_of s store

  k_is : d - 1 - t ≡ digits (largest b.queue) - 1 - top_bit b.set
  unfolding build_of build_over
  k_is = ap₂ (λ (x y : ℕ). x - 1 - y) x.end_is x.low_is

  pub fresh_room : (fresh : ℕ) → fresh ≡ s.fresh → fresh + (d - 1 - t) < 4294967296
  unfolding build_of build_over
  fresh_room fresh e = omega (arith, x.ready.formed.fresh_few, x.few)

  pub tower_ready : (fresh : ℕ) (tares : List ℕ) → tares ≡ padded 0 19 (rising (d - 1 - t) fresh) → Queued ws h × (1 ≤ s.set) × (t ≤ d) × (d ≤ 20) ×
      (fresh + (d - 1 - t) ≤ 1000000001 → All (λ x. x < 2147483648) (take (d - 1 - t) tares))
  unfolding build_of build_over
  tower_ready fresh tares e = (
    queue_ready b ws h x.ready,
    set_positive b x.ready.formed,
    omega (arith, x.some),
    x.few,
    λ few. subst (λ (k : ℕ). All (λ x. x < 2147483648) (take k tares)) (sym k_is)
        (tares_low b ws h x.ready tares fresh (e ∙ ap (λ (k : ℕ). padded 0 19 (rising k fresh)) k_is) (omega (arith, few, k_is))),
  )

  pub line_low : largest (line ws h) < 2 ^ d
  line_low = subst (λ (n : ℕ). largest (line ws h) < 2 ^ n) (sym x.end_is) (reaches b ws h x.ready)

  pub built : (σ τ e : St) (us tares : List ℕ) (z : Structure) (used fresh : ℕ) → fresh ≡ s.fresh → t + used ≤ d → 13312 ≤ length us →
      tares ≡ padded 0 19 (rising (d - 1 - t) fresh) → z.tares ≡ tares → z.tares_used ≡ d - 1 - t → z.buckets ≡ padded 0 20 (made_in us used) → z.buckets_used ≡ used →
      Makes σ τ (made_in us used, line us z.head) (tower (d - 1 - t) s.set t (take (d - 1 - t) tares) (members_from ws 0 d) (line ws h)) →
      Carries e σ b.arena → Carries e τ (build_structure b).arena × (Fits e (build_structure b).arena → Named us z (build_structure b))
  unfolding build_of build_over
  built σ τ e us tares z used fresh ef few long et' ez en eb eu made carried =
      let k : ℕ = digits (largest b.queue) - 1 - top_bit b.set in
      let made' : Makes σ τ (made_in us used, line us z.head)
      (tower k b.set (top_bit b.set) (take k tares) (members_from ws 0 (digits (largest b.queue))) (line ws h)) =
      subst (λ (x : ℕ × ℕ). Makes σ τ (made_in us used, line us z.head) (tower (x.0 - 1 - x.1) s.set x.1 (take (x.0 - 1 - x.1) tares) (members_from ws 0 x.0) (line ws h)))
      (ap₂ (λ (x y : ℕ). (x, y)) x.end_is x.low_is) made in
      first_built b ws h x.ready σ τ e us tares z used (omega (arith, few, x.few)) long
      (et' ∙ ap₂ (λ (n f : ℕ). padded 0 19 (rising n f)) k_is ef) ez (en ∙ k_is) eb eu made' carried

  -- the room ended
  pub ended : (σ τ e : St) (us tares : List ℕ) (y : List ℕ × List Entry) (fresh : ℕ) → fresh ≡ s.fresh → length us ≡ length ws → 13312 ≤ length ws →
      tares ≡ padded 0 19 (rising (d - 1 - t) fresh) → (marks_of τ).full ≡ true →
      Makes σ τ y (tower (d - 1 - t) s.set t (take (d - 1 - t) tares) (members_from ws 0 d) (line ws h)) →
      Carries e σ b.arena → Carries e τ (build_structure b).arena × (Fits e (build_structure b).arena → Unit {0})
  unfolding made_in
  ended σ τ e us tares y fresh ef same long et' k made carried =
      let z : Structure = record {
        marks = record { records = 0; words = 0; fresh = 0; clauses = 0 };
        head = 0;
        tares = tares;
        tares_used = d - 1 - t;
        buckets = padded 0 20 (made_in us 0);
        buckets_used = 0;
      } in
      let whole = tower (d - 1 - t) s.set t (take (d - 1 - t) tares) (members_from ws 0 d) (line ws h) in
      let all = built σ τ e us tares z 0 fresh ef (omega (arith, x.some)) (omega (arith, same, long)) et' refl refl refl refl (makes_any σ τ y (made_in us 0, line us 0) whole k made) carried in
      (all.0, λ f. tt)

-- the buckets made, behind none
pub made_slots : (us xs : List ℕ) (used : ℕ) → used ≤ 20 →
    ((ys : List ℕ) → length ys ≡ 0 → replicate 20 0 ≡ padded 0 20 ys → xs ≡ padded 0 20 (ys ++ take (2132 - (2132 - used)) (drop (2132 - used) us))) →
    xs ≡ padded 0 20 (made_in us used)
unfolding made_in padded
made_slots us xs used few e =
    let n : 2132 - (2132 - used) ≡ used = omega arith in
    e [] refl refl ∙ ap (λ (k : ℕ). padded 0 20 (take k (drop (2132 - used) us))) n
