-- How the queue begins, and that it fills the bucket of its largest weight.
use Rattle.std.specs.Prelude.{◌≡◌, ◌⊎◌, Bool, true, false, cond, eqb, leb, get_or, set, replicate}
use Rattle.std.proofs.Math.Path.{refl}
use Rattle.std.proofs.Common.{ap, inl, inr, arith, get_or-set_same, get_or-set_other, eqb-true}
use mathlib.Core.List.{List, [], ◌∷◌, ◌++◌, map}
use Prim.Native.Nat.{ℕ, zero, suc, ◌+◌, ◌^◌, ◌≤◌, ◌<◌}
use Rattle.std.proofs.Math.ListN.{length, length-append}
use Rattle.std.proofs.lemmas.List.{length-replicate}
use Rattle.std.proofs.lemmas.Bool.{eqb-false}
use Rattle.rules.specs.Lists.{total, sort}
use Rattle.rules.specs.Digits.{top_bit}
use Rattle.rules.specs.Records.{Entry, Record, node_at}
use Rattle.rules.specs.Totalizer.{merge}
use Rattle.rules.specs.Build.{largest}
use Rattle.rules.specs.Queue.{heavier, run, Sorting, queue_step}
use Rattle.laws.specs.Lists.Facts.{All, All_make, total_le, length_total, occurs, All_zip}
use Rattle.laws.specs.Lists.Sorts.{All_sort, total_sort}
use Rattle.laws.specs.Records.Places.{place}
use Rattle.laws.specs.WellFormed.Plain.{Sound, Spares, Waits}
use Rattle.laws.specs.Totalizer.Grows.{grown_self}
use Rattle.laws.specs.Queue.Loads.{heavy, load, nodes_of}
use Rattle.laws.specs.Queue.Gathers.{Gathers, top_inside}

pub get_or_empty : (n k : ℕ) → ◌≡◌ {A = List ℕ} (get_or (replicate n []) k []) []
get_or_empty zero k = refl
get_or_empty (suc n) zero = refl
get_or_empty (suc n) (suc k) = get_or_empty n k

-- empty buckets have members of any kind
pub All_empty : (P : ℕ → Type 0) (n : ℕ) → All (λ ms. All P ms) (replicate n [])
All_empty P zero = tt
All_empty P (suc n) = (tt, All_empty P n)

pub heavy_most : (g : ℕ → ℕ) (k : ℕ) (e : Entry) → heavy g k e ≤ g e.node
unfolding heavy
heavy_most g k e = go (leb (2 ^ k) e.weight)
  where
    go : (b : Bool) → cond b (g e.node) 0 ≤ g e.node
    go true = omega arith
    go false = omega arith

-- before the first step: empty buckets, what waits sorted
pub gathers_start : (rs : List Record) (A : List ℕ) (n most : ℕ) (q : List Entry) → Sound (node_at rs) (place rs) → Spares (node_at rs) A →
    Waits (node_at rs) (place rs) q →
    All (λ e. occurs e.node A ≡ 0) q → All (λ e. e.weight ≤ most) q →
    Gathers rs A n most (record { records = rs; members = replicate n []; queue = sort heavier q })
unfolding load total
gathers_start rs A n most q sound spares waits avoid bound = record {
  grown = grown_self rs sound;
  count = length-replicate n [];
  members_there = All_empty (λ m. place rs m ≡ true) n;
  members_avoid = All_empty (λ m. occurs m A ≡ 0) n;
  spared = spares;
  queue_there = All_sort heavier (λ e. place rs e.node ≡ true) q waits.nodes_wait;
  queue_avoid = All_sort heavier (λ e. occurs e.node A ≡ 0) q avoid;
  weights = All_sort heavier (λ e. (1 ≤ e.weight) × (e.weight ≤ most)) q
      (All_zip {P = λ e. (1 ≤ e.weight) × (e.weight ≤ 1048575)} {Q = λ e. e.weight ≤ most} (λ e h k. (h.0, k)) q waits.weights
      bound);
  maxima_few = λ k. few (λ m. (node_at rs m).maximum) k waits.maxima_few;
  members_few = λ k. few (λ m. 1) k (omega (arith, length_total q, waits.few));
}
  where
    few : (g : ℕ → ℕ) (k : ℕ) → total (map (λ (e : Entry). g e.node) q) ≤ 256 →
        total (map g (get_or (replicate n []) k [])) + total (map (heavy g k) (sort heavier q)) ≤ 256
    few g k h =
        let none : total (map g (get_or (replicate n []) k [])) ≡ 0 = ap (λ (ms : List ℕ). total (map g ms)) (get_or_empty n k) in
        omega (
          arith,
          none,
          total_sort heavier (heavy g k) q,
          total_le (heavy g k) (λ (e : Entry). g e.node) q (All_make (λ e. heavy g k e ≤ g e.node) (heavy_most g k) q),
        )

-- a bucket that has a member keeps it
put_some : (members : List (List ℕ)) (j k m : ℕ) → j < length members → 1 ≤ length (get_or members k []) →
    1 ≤ length (get_or (set members j (get_or members j [] ++ (m ∷ []))) k [])
put_some members j k m h i = go (eqb k j) refl
  where
    go : (b : Bool) → eqb k j ≡ b → 1 ≤ length (get_or (set members j (get_or members j [] ++ (m ∷ []))) k [])
    go true e = rw (eqb-true k j e) (rw (get_or-set_same members j (get_or members j [] ++ (m ∷ [])) [] h)
        (omega (arith, length-append (get_or members j []) (m ∷ []))))
    go false e = rw (get_or-set_other members j k (get_or members j [] ++ (m ∷ [])) [] (eqb-false k j e)) i

module _ (base : List Record) (A : List ℕ) (n most : ℕ) (inside : All (λ a. a < length base) A) (powers : most < 2 ^ n) (p : ℕ) where
  -- a step fills the bucket of its weight
  pub fills_step : (q : Sorting) → Gathers base A n most q → (k : ℕ) → 1 ≤ largest q.queue → (k ≡ top_bit (largest q.queue)) ⊎
      (1 ≤ length (get_or q.members k [])) →
      1 ≤ length (get_or (queue_step (largest q.queue) q).members k [])
  unfolding queue_step
  fills_step q g k positive (inl e) =
      let w : ℕ = largest q.queue in
      let there : top_bit w < length q.members = top_inside base A n most inside powers q g w positive refl in
      let m : ℕ = (merge q.records (nodes_of (run w q.queue))).1 in
      rw e (rw (get_or-set_same q.members (top_bit w) (get_or q.members (top_bit w) [] ++ (m ∷ [])) [] there)
      (omega (arith, length-append (get_or q.members (top_bit w) []) (m ∷ []))))
  fills_step q g k positive (inr h) =
      put_some q.members (top_bit (largest q.queue)) k (merge q.records (nodes_of (run (largest q.queue) q.queue))).1
      (top_inside base A n most inside powers q g (largest q.queue) positive refl) h
