-- What the queue of a well formed build leaves: members that fit their buckets, and what still waits.
use Rattle.std.specs.Prelude.{◌≡◌, ◌⊎◌, true, List, [], get_or, replicate}
use Rattle.std.proofs.Common.{sym, ap, arith}
use Rattle.std.proofs.Math.Logic.{inl, inr}
use Prim.Native.Nat.{ℕ, ◌^◌, ◌≤◌, ◌<◌}
use Rattle.std.proofs.Math.ListN.{length}
use Rattle.rules.specs.Lists.{sort}
use Rattle.rules.specs.Digits.{top_bit}
use Rattle.rules.specs.Records.{Entry, Record}
use Rattle.rules.specs.Build.{Build, largest}
use Rattle.rules.specs.Queue.{heavier, Sorting, queue_step, queue_run, gathered}
use Rattle.laws.specs.Lists.Facts.{All, All_map, occurs, All_zip}
use Rattle.laws.specs.Records.Places.{place, place_inside}
use Rattle.laws.specs.WellFormed.Plain.{Formed}
use Rattle.laws.specs.Queue.Runs.{largest_all, largest_sort, run_keeps}
use Rattle.laws.specs.Queue.Gathers.{Gathers, gathers_step, gathers_members}
use Rattle.laws.specs.Queue.Fills.{gathers_start, fills_step}
use Rattle.laws.specs.Totalizer.Merges.{maxima}
use Rattle.laws.specs.Buckets.Towers.{Fit}
use Rattle.laws.specs.WellFormed.Keeps.{All_places}
use Rattle.preserve.specs.Given.{set_positive}

-- the queue before its first step
abbrev pub begun : Build → ℕ → Sorting
begun b n = record { records = b.arena.records; members = replicate n []; queue = sort heavier b.queue }

-- what it leaves
pub record Gathered (b : Build) (n : ℕ) (E : Sorting → Type 0) : Type 0 where
  pub gathers : Gathers b.arena.records b.buckets n (largest b.queue) (gathered b n)
  pub filled : 1 ≤ length (get_or (gathered b n).members (top_bit (largest b.queue)) [])
  pub low : All (λ e. e.weight < b.set) (gathered b n).queue
  pub extra : E (gathered b n)

module _ (b : Build) (f : Formed b) (n : ℕ) (inside : All (λ a. a < length b.arena.records) b.buckets)
    (powers : largest b.queue < 2 ^ n) (reach : b.set ≤ largest b.queue) where
  abbrev Ok : Sorting → Type 0
  Ok q = Gathers b.arena.records b.buckets n (largest b.queue) q

  -- what every step keeps, the whole keeps
  pub gathered_made : (E : Sorting → Type 0) → ((q : Sorting) → Ok q → E q → b.set ≤ largest q.queue →
      E (queue_step (largest q.queue) q)) → E (begun b n) → Gathered b n E
  unfolding gathered
  gathered_made E step first =
      let positive : 1 ≤ b.set = set_positive b f in
      let top : ℕ = top_bit (largest b.queue) in
      let start : Ok (begun b n) =
      gathers_start b.arena.records b.buckets n (largest b.queue) b.queue f.sound f.spares f.waiting_are
      f.entries_spare (largest_all b.queue (largest b.queue) (omega arith)) in
      let (kept, low) =
      run_keeps (λ q. Ok q × ((largest q.queue ≡ largest b.queue) ⊎
      (1 ≤ length (get_or q.members (top_bit (largest b.queue)) []))) × E q) b.set positive
      (λ q h i. next positive q h i) (largest b.queue) (begun b n) (omega (arith, largest_sort b.queue))
      (start, inl (largest_sort b.queue), first) in
      record {
        gathers = kept.0;
        filled = ended (queue_run (largest b.queue) b.set (begun b n)) kept.1 low;
        low = below (queue_run (largest b.queue) b.set (begun b n)).queue low;
        extra = kept.2;
      }
    where
      next : 1 ≤ b.set → (q : Sorting) → Ok q × ((largest q.queue ≡ largest b.queue) ⊎
          (1 ≤ length (get_or q.members (top_bit (largest b.queue)) []))) × E q → b.set ≤ largest q.queue →
          Ok (queue_step (largest q.queue) q) × ((largest (queue_step (largest q.queue) q).queue ≡ largest b.queue) ⊎
          (1 ≤ length (get_or (queue_step (largest q.queue) q).members (top_bit (largest b.queue)) []))) ×
          E (queue_step (largest q.queue) q)
      next positive q (ok, fill, e) i = (
        gathers_step b.arena.records b.buckets n (largest b.queue) inside powers q ok (omega arith),
        inr (fills_step b.arena.records b.buckets n (largest b.queue) inside powers 0 q ok (top_bit (largest b.queue))
            (omega arith) (same fill)),
        step q ok e i,
      )
        where
          same : (largest q.queue ≡ largest b.queue) ⊎ (1 ≤ length (get_or q.members (top_bit (largest b.queue)) [])) →
              (top_bit (largest b.queue) ≡ top_bit (largest q.queue)) ⊎
              (1 ≤ length (get_or q.members (top_bit (largest b.queue)) []))
          same (inl e) = inl (ap top_bit (sym e))
          same (inr h) = inr h

      below : (es : List Entry) → largest es < b.set → All (λ e. e.weight < b.set) es
      below es h = All_map (λ e (k : e.weight ≤ largest es). omega arith) es (largest_all es (largest es) (omega arith))

      ended : (q : Sorting) → (largest q.queue ≡ largest b.queue) ⊎
          (1 ≤ length (get_or q.members (top_bit (largest b.queue)) [])) → largest q.queue < b.set →
          1 ≤ length (get_or q.members (top_bit (largest b.queue)) [])
      ended q (inl e) h = absurd (omega arith)
      ended q (inr h) k = h

-- the members of every bucket fit
pub members_fit : (base : List Record) (A : List ℕ) (n most : ℕ) (q : Sorting) → Gathers base A n most q →
    All (Fit q.records (length q.records) A) q.members
members_fit base A n most q g =
    All_zip {P = λ ms. All (λ m. place q.records m ≡ true) ms} {Q = λ ms. All (λ m. occurs m A ≡ 0) ms × (maxima q.records ms ≤ 256)}
    (λ ms there rest. record { there = there; old = All_map (place_inside q.records) ms there; avoid = rest.0; few = rest.1 })
    q.members g.members_there
    (All_zip {P = λ ms. All (λ m. occurs m A ≡ 0) ms} (λ ms out few. (out, few)) q.members g.members_avoid
    (All_places (λ ms. maxima q.records ms ≤ 256) [] q.members (λ k i. (gathers_members base A n most q g k).1)))
