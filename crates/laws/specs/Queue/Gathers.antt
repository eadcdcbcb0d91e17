-- What the queue keeps while it fills the buckets.
use Rattle.std.specs.Prelude.{◌≡◌, Bool, List, [], ◌∷◌, ◌++◌, map, length, get_or, set}
use Rattle.std.proofs.Math.Path.{refl, ap}
use Rattle.std.proofs.Common.{◌∙◌, arith, length-set}
use Rattle.std.proofs.Math.Bool.{true, cond}
use Prim.Native.Nat.{ℕ, zero, suc, ◌+◌, ◌-◌, ◌^◌, ◌≤◌, ◌<◌}
use Rattle.std.proofs.Math.Dec.{leb}
use Rattle.std.proofs.lemmas.List.{length-map}
use borrow.Author.Tests.{le-leb}
use Rattle.rules.specs.Lists.{total}
use Rattle.rules.specs.Digits.{top_bit}
use Rattle.rules.specs.Records.{Node, Entry, Record, node_at}
use Rattle.rules.specs.Totalizer.{merge}
use Rattle.rules.specs.Build.{largest}
use Rattle.rules.specs.Queue.{run, others, requeue, Sorting, queue_step}
use Rattle.laws.specs.Lists.Facts.{All, All_map, All_append, All_get_or, All_set, All_image, length_total, occurs}
use Rattle.laws.specs.Numbers.Powers.{top_bit_within, top_bit_below}
use Rattle.laws.specs.Records.Places.{place, place_inside}
use Rattle.laws.specs.WellFormed.Plain.{Spares, Waits}
use Rattle.laws.specs.Totalizer.Grows.{Grown, grown_then, grown_length, grown_at, grown_place}
use Rattle.laws.specs.Totalizer.Merges.{maxima, Merged, Crowned, merge_made}
use Rattle.laws.specs.Queue.Runs.{all_largest, run_some, run_all, others_all, requeue_all}
use Rattle.laws.specs.Queue.Loads.{heavy, load, nodes_of, heavy_all, run_load, load_step}

-- what holds of the queue's work at every step: over the records `base`, sparing the places of `A`, with n buckets and weights up to `most`
pub record Gathers (base : List Record) (A : List ℕ) (n most : ℕ) (q : Sorting) : Type 0 where
  pub grown : Grown base q.records
  pub count : length q.members ≡ n
  pub members_there : All (λ ms. All (λ m. place q.records m ≡ true) ms) q.members
  pub members_avoid : All (λ ms. All (λ m. occurs m A ≡ 0) ms) q.members
  pub spared : Spares (node_at q.records) A
  pub queue_there : All (λ e. place q.records e.node ≡ true) q.queue
  pub queue_avoid : All (λ e. occurs e.node A ≡ 0) q.queue
  pub weights : All (λ e. (1 ≤ e.weight) × (e.weight ≤ most)) q.queue
  pub maxima_few : (k : ℕ) → load (λ m. (node_at q.records m).maximum) k q.members q.queue ≤ 256
  pub members_few : (k : ℕ) → load (λ m. 1) k q.members q.queue ≤ 256

-- the waiting entries are at most 256, their maxima add to at most 256
pub gathers_waits : (base : List Record) (A : List ℕ) (n most : ℕ) (q : Sorting) → most ≤ 1048575 → Gathers base A n most q →
    Waits (node_at q.records) (place q.records) q.queue
unfolding load
gathers_waits base A n most q few g =
    let ones : All (λ e. 1 ≤ e.weight) q.queue = All_map (λ e h. h.0) q.queue g.weights in
    record {
      nodes_wait = g.queue_there;
      few = omega (arith, length_total q.queue, heavy_all (λ m. 1) q.queue ones, g.members_few 0);
      maxima_few = omega (arith, heavy_all (λ m. (node_at q.records m).maximum) q.queue ones, g.maxima_few 0);
      weights = All_map (λ e (h : (1 ≤ e.weight) × (e.weight ≤ most)). (h.0, omega arith)) q.queue g.weights;
    }

-- the members of a bucket are at most 256, and their maxima add to at most 256
pub gathers_members : (base : List Record) (A : List ℕ) (n most : ℕ) (q : Sorting) → Gathers base A n most q → (k : ℕ) →
    (length (get_or q.members k []) ≤ 256) × (maxima q.records (get_or q.members k []) ≤ 256)
unfolding load
gathers_members base A n most q g k =
    (omega (arith, length_total (get_or q.members k []), g.members_few k), omega (arith, g.maxima_few k))

-- one member more in bucket k
pub total_set : {A : Type 0} (f : A → ℕ) (xs : List A) (k : ℕ) (x d : A) → k < length xs →
    total (map f (set xs k x)) + f (get_or xs k d) ≡ total (map f xs) + f x
unfolding total
total_set f [] k x d h = absurd (omega arith)
total_set f (y ∷ ys) zero x d h = omega arith
total_set f (y ∷ ys) (suc k) x d h = omega (arith, total_set f ys k x d (omega arith))

module _ (base : List Record) (A : List ℕ) (n most : ℕ) (inside : All (λ a. a < length base) A) (powers : most < 2 ^ n) where
  module _ (q : Sorting) (g : Gathers base A n most q) (w : ℕ) (positive : 1 ≤ w) (is : largest q.queue ≡ w) where
    abbrev pub taken : List ℕ
    taken = nodes_of (run w q.queue)

    taken_there : All (λ m. place q.records m ≡ true) taken
    taken_there = All_image (λ m. place q.records m ≡ true) (λ (e : Entry). e.node) (run w q.queue)
        (run_all (λ e. place q.records e.node ≡ true) w q.queue g.queue_there)

    taken_avoid : All (λ m. occurs m A ≡ 0) taken
    taken_avoid = All_image (λ m. occurs m A ≡ 0) (λ (e : Entry). e.node) (run w q.queue)
        (run_all (λ e. occurs e.node A ≡ 0) w q.queue g.queue_avoid)

    pub taken_some : 1 ≤ length taken
    taken_some = omega (arith, run_some q.queue w positive is, length-map (run w q.queue) (λ (e : Entry). e.node))

    w_most : w ≤ most
    w_most = omega (arith, all_largest q.queue most (All_map (λ e h. h.1) q.queue g.weights))

    pub top_inside : top_bit w < length q.members
    top_inside = omega (arith, g.count, top_bit_below n w positive (omega (arith, w_most)))

    pub taken_few : maxima q.records taken ≤ 256
    unfolding load
    taken_few =
        let f : ℕ → ℕ = λ m. (node_at q.records m).maximum in
        let reached : leb (2 ^ top_bit w) w ≡ true = le-leb _ _ (top_bit_within w positive) in
        let all : total (map (heavy f (top_bit w)) q.queue) ≡ maxima q.records taken + total
        (map (heavy f (top_bit w)) (others w q.queue)) =
        run_load f q.queue w (top_bit w) ∙
        ap (λ (b : Bool). cond b (maxima q.records taken) 0 + total (map (heavy f (top_bit w)) (others w q.queue))) reached in
        omega (arith, g.maxima_few (top_bit w))

    pub made : Merged q.records taken (merge q.records taken) ×
        (2 ≤ length taken → Crowned q.records taken (merge q.records taken))
    made = merge_made q.records taken g.grown.sound taken_there taken_some (omega (arith, taken_few))

    -- a step over the merged node, whatever merged it
    step_over : (r : List Record × ℕ) → Merged q.records taken r → Gathers base A n most (record {
      records = r.0;
      members = set q.members (top_bit w) (get_or q.members (top_bit w) [] ++ (r.1 ∷ []));
      queue = requeue (others w q.queue) r.1 (w - 2 ^ top_bit w);
    })
    step_over r m =
        let k : ℕ = top_bit w in
        let below : All (λ a. a < length q.records) A =
        All_map (λ a (h : a < length base). omega (arith, grown_length base q.records g.grown)) A inside in
        let spared : Spares (node_at r.0) A × (occurs r.1 A ≡ 0) = m.spared A below taken_avoid g.spared in
        let there : All (λ ms. All (λ m. place r.0 m ≡ true) ms) q.members =
        All_map (λ ms h. All_map (grown_place q.records r.0 m.grown) ms h) q.members g.members_there in
        let same : (x : ℕ) → place q.records x ≡ true → (node_at r.0 x).maximum ≡ (node_at q.records x).maximum =
        λ x p. ap (λ (y : Node). y.maximum) (grown_at q.records r.0 m.grown x (place_inside q.records x p)) in
        record {
          grown = grown_then base q.records r.0 g.grown m.grown;
          count = length-set q.members k _ ∙ g.count;
          members_there =
              All_set (λ ms. All (λ m. place r.0 m ≡ true) ms) q.members k (get_or q.members k [] ++ (r.1 ∷ [])) there
              (All_append (λ m. place r.0 m ≡ true) (get_or q.members k []) (r.1 ∷ [])
              (All_get_or (λ ms. All (λ m. place r.0 m ≡ true) ms) q.members k [] there tt) (m.there, tt));
          members_avoid =
              All_set (λ ms. All (λ m. occurs m A ≡ 0) ms) q.members k (get_or q.members k [] ++ (r.1 ∷ [])) g.members_avoid
              (All_append (λ m. occurs m A ≡ 0) (get_or q.members k []) (r.1 ∷ [])
              (All_get_or (λ ms. All (λ m. occurs m A ≡ 0) ms) q.members k [] g.members_avoid tt) (spared.1, tt));
          spared = spared.0;
          queue_there =
              requeue_all (λ e. place r.0 e.node ≡ true) (others w q.queue) r.1 (w - 2 ^ k)
              (others_all (λ e. place r.0 e.node ≡ true) w q.queue
              (All_map (λ e p. grown_place q.records r.0 m.grown e.node p) q.queue g.queue_there)) (λ i. m.there);
          queue_avoid =
              requeue_all (λ e. occurs e.node A ≡ 0) (others w q.queue) r.1 (w - 2 ^ k)
              (others_all (λ e. occurs e.node A ≡ 0) w q.queue g.queue_avoid) (λ i. spared.1);
          weights =
              requeue_all (λ e. (1 ≤ e.weight) × (e.weight ≤ most)) (others w q.queue) r.1 (w - 2 ^ k)
              (others_all (λ e. (1 ≤ e.weight) × (e.weight ≤ most)) w q.queue g.weights) (λ i. (i, omega (arith, w_most)));
          maxima_few = λ j. omega (
            arith,
            g.maxima_few j,
            load_step (λ m. (node_at q.records m).maximum) (λ m. (node_at r.0 m).maximum) q.members q.queue w r.1 positive
                top_inside
                (All_map (λ ms h. All_map same ms h) q.members g.members_there)
                (All_map (λ e p. same e.node p) q.queue g.queue_there) (le_of m.sum_is) j,
          );
          members_few = λ j. omega (
            arith,
            g.members_few j,
            load_step (λ m. 1) (λ m. 1) q.members q.queue w r.1 positive top_inside
                (All_map (λ ms h. All_map (λ x p. refl) ms h) q.members g.members_there)
                (All_map (λ e p. refl) q.queue g.queue_there) (omega (arith, taken_some, length_total taken)) j,
          );
        }
      where
        le_of : {a b : ℕ} → a ≡ b → a ≤ b
        le_of e = omega arith

  -- a step of the queue
  pub gathers_step : (q : Sorting) → Gathers base A n most q → 1 ≤ largest q.queue →
      Gathers base A n most (queue_step (largest q.queue) q)
  unfolding queue_step
  gathers_step q g positive = step_over q g (largest q.queue) positive refl _ (made q g (largest q.queue) positive refl).0
