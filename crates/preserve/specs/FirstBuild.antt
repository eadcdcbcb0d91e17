-- A first build leaves a build that is well formed.
use Rattle.std.specs.Prelude.{◌≡◌, refl, ◌⊎◌, true, get_or, take, drop, pos}
use Rattle.std.proofs.Common.{sym, ◌∙◌, inl, inr, arith, pow-add, length-drop, length-take, take-suc, take_all, get_or-drop}
use Rattle.std.proofs.Math.Path.{ap, ap₂, subst}
use Rattle.std.proofs.Math.Bool.{not}
use mathlib.Core.List.{List, [], ◌∷◌, ◌++◌, map, append-nil}
use Prim.Native.Nat.{ℕ, suc, ◌+◌, ◌*◌, ◌-◌, ◌^◌, ◌≤◌, ◌<◌}
use Rattle.std.proofs.Math.Pow.{pow_pos, pow_mono}
use Rattle.std.proofs.Math.ListN.{length}
use Rattle.std.proofs.lemmas.List.{length-map}
use Rattle.rules.specs.Lists.{total, rising}
use Rattle.rules.specs.Numbers.{lawful}
use Rattle.rules.specs.Digits.{digits, top_bit}
use Rattle.rules.specs.Records.{Node, Output, Entry, Record, waits, node_at, outputs}
use Rattle.rules.specs.Build.{Build, restructured, clause_total, clause_mark, largest, some_wait}
use Rattle.rules.specs.Queue.{heavier, Sorting, gathered}
use Rattle.rules.specs.Buckets.{buckets_over, build_structure}
use Rattle.rules.specs.WellFormed.{known}
use Rattle.laws.specs.Lists.Facts.{All, All_map, All_first, All_second, All_drop, rising_length, total_append, occurs, All_source}
use Rattle.laws.specs.Numbers.Powers.{below_digits, digits_top, top_bit_least, top_bit_below}
use Rattle.laws.specs.Lists.Sorts.{All_sort, length_sort}
use Rattle.laws.specs.Records.Places.{place, place_inside, leaf_place}
use Rattle.laws.specs.WellFormed.Plain.{Sound, Defined, Taken, variables_of, Unbuilt, Formed}
use Rattle.laws.specs.Totalizer.Grows.{Grown, grown_then, grown_at, grown_outputs, grown_all}
use Rattle.laws.specs.Queue.Gathers.{gathers_waits}
use Rattle.laws.specs.Queue.Fills.{All_empty}
use Rattle.laws.specs.Queue.Several.{Lone, Busy, held_from, busy_step}
use Rattle.laws.specs.Buckets.Towers.{Fit}
use Rattle.laws.specs.Buckets.First.{Topped, topped}
use Rattle.laws.specs.Lists.Pigeons.{all_below}
use Rattle.laws.specs.WellFormed.Keeps.{rises_grown, defined_rises, waits_grown, variables_same, taken_tares}
use Rattle.preserve.specs.Given.{Ahead, set_positive, weights_few, buckets_inside, fresh_lawful}
use Rattle.preserve.specs.Gathered.{begun, Gathered, gathered_made, members_fit}

split_last : {A : Type 0} (xs : List A) (n : ℕ) (d : A) → length xs ≡ suc n → xs ≡ take n xs ++ (get_or xs n d ∷ [])
split_last xs n d h = sym (take_all (suc n) xs (omega arith)) ∙ take-suc xs n d (omega arith)

module _ (b : Build) (f : Formed b) (z : b.built ≡ 0) (two : 2 ≤ b.inputs) (reach : b.set ≤ largest b.queue) where
  abbrev p : ℕ
  p = top_bit b.set

  abbrev most : ℕ
  most = largest b.queue

  abbrev n : ℕ
  n = digits most

  abbrev base : List Record
  base = b.arena.records

  u : Unbuilt b
  u = f.if_unbuilt z

  set_is : 2 ^ p ≡ b.set
  set_is = sym f.set_power

  -- each entry is an input, so its node is a leaf of maximum 1
  entries_one : All (λ e. 1 ≤ (node_at base e.node).maximum) b.queue
  entries_one =
      All_source (λ i. 1 ≤ (node_at base i).maximum) (λ (e : Entry). e.node) b.queue
      (All_map (λ i (h : i < b.inputs). let (x, k) = f.inputs_first i h in omega (arith, ((f.sound i).leaf_is x k).1))
      (map (λ (e : Entry). e.node) b.queue)
      (all_below b.inputs (map (λ (e : Entry). e.node) b.queue) (length-map b.queue (λ (e : Entry). e.node) ∙ u.count)
      u.each_waits))

  busy_start : Busy p (begun b n)
  busy_start = record {
    each = All_sort heavier (λ e. 1 ≤ (node_at base e.node).maximum) b.queue entries_one;
    members_each = All_empty (λ m. 1 ≤ (node_at base m).maximum) n;
    busy = inl (omega (arith, length_sort heavier b.queue, u.count));
  }

  gathered_first : Gathered b n (Busy p)
  gathered_first =
      gathered_made b f n (buckets_inside b f) (below_digits most) reach (Busy p)
      (λ q ok e h. busy_step base b.buckets n most (buckets_inside b f) (below_digits most) p q ok e (omega (arith, set_is))) busy_start

  abbrev q : Sorting
  q = gathered b n

  top_low : p ≤ top_bit most
  top_low = top_bit_least p most (omega (arith, set_is))

  abbrev k : ℕ
  k = n - 1 - p

  k_is : p + k ≡ top_bit most
  k_is = omega (arith, top_low, digits_top most)

  abbrev mss : List (List ℕ)
  mss = drop p q.members

  count_is : length mss ≡ suc k
  count_is = omega (arith, length-drop p q.members, gathered_first.gathers.count, top_low, digits_top most)

  abbrev init : List (List ℕ)
  init = take k mss

  abbrev top : List ℕ
  top = get_or mss k []

  parts : mss ≡ init ++ (top ∷ [])
  parts = split_last mss k [] count_is

  init_count : length init ≡ k
  init_count = omega (arith, length-take k mss, count_is)

  top_is : top ≡ get_or q.members (top_bit most) []
  top_is = get_or-drop p q.members k [] ∙ ap (λ i. get_or q.members i []) k_is

  -- a fact of the members of every bucket
  of_parts : (P : List ℕ → Type 0) → All P q.members → All P init × P top
  of_parts P h =
      let split : All P (init ++ (top ∷ [])) = subst (λ (t : List (List ℕ)). All P t) parts (All_drop P p q.members h) in
      (All_first P init (top ∷ []) split, (All_second P init (top ∷ []) split).0)

  abbrev FitHere : List ℕ → Type 0
  FitHere = Fit q.records (length q.records) []

  fits : All FitHere q.members
  unfolding occurs
  fits =
      All_map {P = Fit q.records (length q.records) b.buckets} {Q = Fit q.records (length q.records) []}
      (λ ms h. record { there = h.there; old = h.old; avoid = All_map (λ m x. refl) ms h.old; few = h.few }) q.members
      (members_fit base b.buckets n most q gathered_first.gathers)

  abbrev tares : List ℕ
  tares = rising k b.arena.fresh

  left_over : (2 ≤ length q.queue + (total (map length init) + length top)) ⊎ ((q.queue ≡ []) × All (Lone (node_at q.records)) top)
  unfolding total
  left_over = go gathered_first.extra.busy
    where
      sum : held_from p q.members ≡ total (map length init) + length top
      sum = ap (λ (t : List (List ℕ)). total (map length t)) parts ∙ (total_append length init (top ∷ []) ∙ omega arith)

      go : (2 ≤ length q.queue + held_from p q.members) ⊎
          ((q.queue ≡ []) × All (λ ms. All (Lone (node_at q.records)) ms) (drop p q.members)) →
          (2 ≤ length q.queue + (total (map length init) + length top)) ⊎ ((q.queue ≡ []) × All (Lone (node_at q.records)) top)
      go (inl h) = inl (omega (arith, sum))
      go (inr h) = inr (
        h.0,
        (All_second (λ ms. All (Lone (node_at q.records)) ms) init (top ∷ [])
            (subst (λ (t : List (List ℕ)). All (λ ms. All (Lone (node_at q.records)) ms) t) parts h.1)).0,
      )

  module _ (room : b.arena.fresh + length tares ≤ 1000000001) where
    laws : All (λ t. lawful (pos t) ≡ true) tares
    laws = fresh_lawful b k f (omega (arith, rising_length k b.arena.fresh))

    stands : Topped q.records q.queue (suc k) (buckets_over (some_wait q.queue) q.records [] tares mss)
    stands = go top refl
      where
        filled : 1 ≤ length top
        filled = rw top_is gathered_first.filled

        go : (t : List ℕ) → top ≡ t → Topped q.records q.queue (suc k) (buckets_over (some_wait q.queue) q.records [] tares mss)
        go [] e = absurd (omega (arith, filled, ap length e))
        go (m ∷ ms) e =
            let each : All (λ ms. All (λ x. 1 ≤ (node_at q.records x).maximum) ms) init ×
            All (λ x. 1 ≤ (node_at q.records x).maximum) top =
            of_parts (λ ms. All (λ x. 1 ≤ (node_at q.records x).maximum) ms) gathered_first.extra.members_each in
            let fit : All FitHere init × FitHere top = of_parts FitHere fits in
            let h : Topped q.records q.queue (suc (length init))
            (buckets_over (some_wait q.queue) q.records [] tares (init ++ ((m ∷ ms) ∷ []))) =
            topped q.records q.queue init m ms tares gathered_first.gathers.grown.sound fit.0 (subst FitHere e fit.1) laws
            (init_count ∙ sym (rising_length k b.arena.fresh))
            (subst (λ (t : List ℕ). All (λ x. 1 ≤ (node_at q.records x).maximum) t) e each.1) gathered_first.gathers.queue_there
            (subst (λ (t : List ℕ). (2 ≤ length q.queue + (total (map length init) + length t)) ⊎
            ((q.queue ≡ []) × All (Lone (node_at q.records)) t)) e left_over) in
            let whole : init ++ ((m ∷ ms) ∷ []) ≡ mss = ap (λ (t : List ℕ). init ++ (t ∷ [])) (sym e) ∙ sym parts in
            subst (λ (j : ℕ). Topped q.records q.queue (suc j) (buckets_over (some_wait q.queue) q.records [] tares mss))
            init_count
            (subst (λ (t : List (List ℕ)). Topped q.records q.queue (suc (length init))
            (buckets_over (some_wait q.queue) q.records [] tares t)) whole h)

    -- the inputs' leaves stay
    input_same : (r : List Record × List ℕ) → Topped q.records q.queue (suc k) r → (i : ℕ) → i < b.inputs →
        node_at r.0 i ≡ node_at base i
    input_same r t i h =
        let (x, e) = f.inputs_first i h in
        grown_at base r.0 (grown_then base q.records r.0 gathered_first.gathers.grown t.grown) i
        (place_inside base i (leaf_place base i x e))

    -- its nodes are sound
    pub first_sound : Sound (node_at (build_structure b).arena.records) (place (build_structure b).arena.records)
    unfolding build_structure restructured
    first_sound = stands.standing.sound

    module _ (ahead : Ahead b) where
      -- the build over what stands
      over : (r : List Record × List ℕ) → Topped q.records q.queue (suc k) r →
          Formed (restructured b b.set tares r.1 q.queue
          (record { records = r.0; fresh = b.arena.fresh + length tares; clauses = b.arena.clauses }))
      unfolding restructured clause_total clause_mark known waits
      over r t =
          let g : Grown base r.0 = grown_then base q.records r.0 gathered_first.gathers.grown t.grown in
          let outs : outputs r.0 ≡ outputs base = grown_outputs base r.0 g in
          let ns : List ℕ = map (λ (o : Output). o.number) (outputs base) in
          let vars : variables_of (node_at r.0) b.inputs ≡ variables_of (node_at base) b.inputs =
          variables_same (node_at base) (node_at r.0) b.inputs (input_same r t) in
          let count : length tares ≡ k = rising_length k b.arena.fresh in
          let taken : Taken (variables_of (node_at base) b.inputs) (b.arena.fresh + k) (ns ++ (tares ++ [])) =
          taken_tares (variables_of (node_at base) b.inputs) ns [] b.arena.fresh k
          (subst (λ (t : List ℕ). Taken (variables_of (node_at base) b.inputs) b.arena.fresh (ns ++ t)) u.no_tare f.taken)
          ahead in
          let low_set : 1 ≤ b.set = set_positive b f in
          let weight_few : most ≤ 1048575 = weights_few b f in
          record {
            all_known = grown_all (λ r. known r ≡ true) (λ n. refl) base r.0 g f.all_known;
            none_waits = grown_all (λ r. not (waits r) ≡ true) (λ n. refl) base r.0 g f.none_waits;
            first_low = f.first_low;
            first_high = omega (arith, f.first_high);
            fresh_few = room;
            clauses_few = f.clauses_few;
            inputs_few = f.inputs_few;
            inputs_first = λ i h. ((f.inputs_first i h).0, ap (λ (x : Node). x.kind) (input_same r t i h) ∙ (f.inputs_first i h).1);
            sound = t.standing.sound;
            defined = subst (λ (os : List Output). Defined (node_at r.0) (place r.0) os) (sym outs)
                (defined_rises (node_at base) (node_at r.0) (place base) (place r.0) (outputs base) (rises_grown base r.0 g)
                f.defined);
            taken =
                subst (λ (vs : List ℕ). Taken vs (b.arena.fresh + length tares) (map (λ (o : Output). o.number) (outputs r.0) ++ tares))
                (sym vars)
                (subst (λ (os : List Output). Taken (variables_of (node_at base) b.inputs) (b.arena.fresh + length tares)
                (map (λ (o : Output). o.number) os ++ tares)) (sym outs)
                (subst (λ (j : ℕ). Taken (variables_of (node_at base) b.inputs) (b.arena.fresh + j) (ns ++ tares)) (sym count)
                (subst (λ (t : List ℕ). Taken (variables_of (node_at base) b.inputs) (b.arena.fresh + k) (ns ++ t)) (append-nil tares)
                taken)));
            waiting_are = waits_grown q.records r.0 q.queue t.grown
                (gathers_waits base b.buckets n most q weight_few gathered_first.gathers);
            spares = t.standing.spares;
            entries_spare = t.free;
            set_power = f.set_power;
            if_unbuilt = λ e. absurd (omega arith);
            if_built = λ ne. record {
              two = two;
              power = f.set_power;
              coarser = omega arith;
              times_weight = weight;
              some = t.some;
              few = omega (arith, t.many, count);
              linked = t.standing.linked;
              lefts = t.standing.lefts;
              below_built = gathered_first.low;
            };
          }
        where
          weight : b.set * 2 ^ length tares ≤ 524288
          weight =
              let count : length tares ≡ k = rising_length k b.arena.fresh in
              let whole : b.set * 2 ^ length tares ≡ 2 ^ top_bit most = ap₂ (λ x y. x * 2 ^ y) (sym set_is) count ∙
              (sym (pow-add 2 p k) ∙ ap (λ j. 2 ^ j) k_is) in
              let positive : 1 ≤ most = omega (arith, set_is, pow_pos p) in
              let low : top_bit most < 20 = top_bit_below 20 most positive (omega (arith, weights_few b f)) in
              omega (arith, whole, pow_mono {i = top_bit most} {j = 19} (omega arith))

      -- a first build leaves a well formed build
      pub first_formed : Formed (build_structure b)
      unfolding build_structure
      first_formed = over (buckets_over (some_wait q.queue) q.records [] tares mss) stands

      ahead_over : (r : List Record × List ℕ) → Topped q.records q.queue (suc k) r →
          All (λ v. v < b.arena.fresh + length tares) (variables_of (node_at r.0) b.inputs)
      ahead_over r t =
          subst (λ (vs : List ℕ). All (λ v. v < b.arena.fresh + length tares) vs)
          (sym (variables_same (node_at base) (node_at r.0) b.inputs (input_same r t)))
          (All_map (λ v (h : v < b.arena.fresh). omega arith) (variables_of (node_at base) b.inputs) ahead)

      -- its next fresh number is above every input variable
      pub first_ahead : Ahead (build_structure b)
      unfolding build_structure restructured
      first_ahead = ahead_over (buckets_over (some_wait q.queue) q.records [] tares mss) stands
