-- Numbers taken, the queue run, the buckets made: together the rule of a tower.
use mathlib.Core.Path.{◌≡◌, refl, sym, ap, ap₂, ◌∙◌, subst}
use mathlib.Core.Bool.{Bool, true, false}
use mathlib.Core.List.{List, [], ◌∷◌, ◌++◌}
use Prim.Native.Nat.{ℕ, zero, suc, ◌+◌, ◌-◌, ◌≤◌, ◌<◌, max}
use native.Mathlib.Omega.{arith}
use lib.Dec.{ltb}
use borrow.Rule.Slice.PartMut.{put_mid, post_of, same_len_mid}
use lib.ListN.{length, get_or, take, drop, replicate, length-drop, get_or-append}
use lib.Seq.{length-take-le, get_or-take, get_or-append-add}
use Rattle.std.proofs.lemmas.List.{get_or-replicate, length-replicate}
use Rattle.rules.specs.Records.{Entry}
use Rattle.rules.specs.Totalizer.{Arena}
use Rattle.rules.specs.Build.{largest, some_wait}
use Rattle.rules.specs.Queue.{queue_run}
use Rattle.rules.specs.Buckets.{buckets_over}
use Rattle.records.specs.Carries.{St, marks_of, Steps, Makes, on_records, with_records}
use Rattle.records.proofs.Grow.{Grows, grows_trans}
use Rattle.records.proofs.Step.{stop, makes_then, makes_same, makes_full, makes_any}
use Rattle.records_append.specs.Fresh.{with_numbers}
use borrow.Author.Tests.{ltb-true, ltb-false}
use Rattle.build_line.specs.Work.{line, line_from, count_at}
use Rattle.build_queue.specs.Queued.{sorting}
use Rattle.build_queue.proofs.Gathering.{queue_run_grows}
use Rattle.build_buckets.proofs.Growth.{buckets_over_grows}
use Rattle.build_tower.specs.Rule.{tower}

-- the buckets over what was gathered, and what still waits
over : ℕ → List ℕ → List (List ℕ) × List Entry → Arena → Arena × (List ℕ × List Entry)
over p tares x t =
    let r : Arena × List ℕ = on_records (λ rs. buckets_over (some_wait x.1) rs [] tares (drop p x.0)) t in
    (r.0, (r.1, x.1))

-- the queue, then the buckets
gathering : ℕ → ℕ → List ℕ → List (List ℕ) → List Entry → Arena → Arena × (List ℕ × List Entry)
gathering d p tares mss es t =
    let g : Arena × (List (List ℕ) × List Entry) = sorting (queue_run (largest es) d) (mss, es) t in
    over p tares g.1 g.0

over_grows : (p : ℕ) (tares : List ℕ) (x : List (List ℕ) × List Entry) (t : Arena) → Grows t (over p tares x t).0
unfolding over
over_grows p tares x t = buckets_over_grows (some_wait x.1) [] tares (drop p x.0) t

gathering_grows : (d p : ℕ) (tares : List ℕ) (mss : List (List ℕ)) (es : List Entry) (t : Arena) → Grows t (gathering d p tares mss es t).0
unfolding gathering
gathering_grows d p tares mss es t =
    let g : Arena × (List (List ℕ) × List Entry) = sorting (queue_run (largest es) d) (mss, es) t in
    grows_trans t g.0 (over p tares g.1 g.0).0 (queue_run_grows (largest es) d (mss, es) t) (over_grows p tares g.1 g.0)

tower_is : (taken d p : ℕ) (tares : List ℕ) (mss : List (List ℕ)) (es : List Entry) (t : Arena) →
    gathering d p tares mss es (with_numbers taken t) ≡ tower taken d p tares mss es t
unfolding gathering over tower sorting on_records with_records with_numbers
tower_is taken d p tares mss es t = refl

-- something waits where the line is not empty
module _ (taken d p : ℕ) (tares : List ℕ) (mss : List (List ℕ)) (es : List Entry) where
  numbered : Arena → Arena × (List ℕ × List Entry)
  numbered t = gathering d p tares mss es (with_numbers taken t)

  pub tower_full : (σ τ : St) (y : List ℕ × List Entry) → Steps σ τ (with_numbers taken) → (marks_of τ).full ≡ true → Makes σ τ y (tower taken d p tares mss es)
  tower_full σ τ y s k =
      makes_same σ τ y (λ t. gathering d p tares mss es (with_numbers taken t)) (tower taken d p tares mss es) (tower_is taken d p tares mss es)
      (makes_full σ τ y (λ t. gathering d p tares mss es (with_numbers taken t)) k (record {
        go = λ e t h. (stop τ (λ u. (gathering d p tares mss es u).0) (gathering_grows d p tares mss es) k).go e (with_numbers taken t) (s.go e t h);
      }))

  pub tower_made : (σ τ υ ω : St) (x : List (List ℕ) × List Entry) (wait : Bool) (ms : List (List ℕ)) (bs : List ℕ) (q : List Entry) → Steps σ τ (with_numbers taken) →
      Makes τ υ x (sorting (queue_run (largest es) d) (mss, es)) → wait ≡ some_wait x.1 → ms ≡ drop p x.0 → q ≡ x.1 →
      Makes υ ω bs (on_records (λ rs. buckets_over wait rs [] tares ms)) → Makes σ ω (bs, q) (tower taken d p tares mss es)
  unfolding over gathering
  tower_made σ τ υ ω x wait ms bs q s g ew em eq b =
      let b' : Makes υ ω (bs, q) (over p tares x) = rw eq (record {
        go = λ e t h. let a = (subst (λ (z : Bool × List (List ℕ)). Makes υ ω bs (on_records (λ rs. buckets_over z.0 rs [] tares z.1))) (ap₂ (λ (i : Bool) (j : List (List ℕ)). (i, j)) ew em) b).go e t h in
            (a.0, λ f. ap (λ (ys : List ℕ). (ys, x.1)) (a.1 f));
      }) in
      let both : Makes τ ω (bs, q) (gathering d p tares mss es) =
      makes_then τ υ ω x (bs, q) (sorting (queue_run (largest es) d) (mss, es)) (over p tares) (over_grows p tares) g b' in
      makes_same σ ω (bs, q) (λ t. gathering d p tares mss es (with_numbers taken t)) (tower taken d p tares mss es) (tower_is taken d p tares mss es)
      (record { go = λ e t h. both.go e (with_numbers taken t) (s.go e t h) })

  -- the room ended in the queue's run
  pub tower_run_ended : (σ τ υ : St) (x : List (List ℕ) × List Entry) (y : List ℕ × List Entry) → Steps σ τ (with_numbers taken) →
      Makes τ υ x (sorting (queue_run (largest es) d) (mss, es)) → (marks_of υ).full ≡ true → Makes σ υ y (tower taken d p tares mss es)
  tower_run_ended σ τ υ x y s g k =
      let f : Arena → Arena × List ℕ = on_records (λ rs. buckets_over (some_wait x.1) rs [] tares (drop p x.0)) in
      makes_any σ υ ([], x.1) y (tower taken d p tares mss es) k
      (tower_made σ τ υ υ x (some_wait x.1) (drop p x.0) [] x.1 s g refl refl refl
      (makes_full υ υ [] f k (stop υ (λ t. (f t).0) (buckets_over_grows (some_wait x.1) [] tares (drop p x.0)) k)))

-- The counts set to 0 ------------------------------------------------------------------------------------------------------------

module _ (ws ys : List ℕ) (long : 13312 ≤ length ws) (zeros : ys ≡ replicate (length (take 20 (drop 2048 ws))) 0) where
  many : length (take 20 (drop 2048 ws)) ≡ 20
  many = length-take-le 20 (drop 2048 ws) (omega (arith, length-drop 2048 ws))

  pub cleared_length : length (put_mid 2048 20 ws ys) ≡ length ws
  cleared_length = same_len_mid 2048 20 ws ys (ap length zeros ∙ length-replicate (length (take 20 (drop 2048 ws))) 0)

  pub cleared : (k : ℕ) → k < 20 → count_at (put_mid 2048 20 ws ys) k ≡ 0
  unfolding count_at
  cleared k h =
      let rest : List ℕ = post_of 2048 20 ws in
      let front : length (take 2048 ws) ≡ 2048 = length-take-le 2048 ws (omega arith) in
      let all : ys ≡ replicate 20 0 = zeros ∙ ap (λ (n : ℕ). replicate n 0) many in
      ap (λ (n : ℕ). get_or (put_mid 2048 20 ws ys) (n + k) 0) (sym front) ∙
      (get_or-append-add (take 2048 ws) (ys ++ rest) k 0 ∙
      (ap (λ (zs : List ℕ). get_or (zs ++ rest) k 0) all ∙
      (get_or-append (replicate 20 0) rest 0 k (omega arith) ∙ get_or-replicate {A = ℕ} 20 k 0 0 h)))

-- something waits where the line begins before its end
pub waits_where : (ws : List ℕ) (h : ℕ) (b : Bool) → b ≡ ltb h 512 → b ≡ some_wait (line ws h)
unfolding line line_from some_wait
waits_where ws h b e = e ∙ go (512 - h) refl (ltb h 512) refl
  where
    go : (k : ℕ) → 512 - h ≡ k → (t : Bool) → ltb h 512 ≡ t → t ≡ some_wait (line_from ws h k)
    go zero p true q = absurd (omega (arith, ltb-true h 512 q))
    go zero p false q = refl
    go (suc k) p true q = refl
    go (suc k) p false q = absurd (omega (arith, ltb-false h 512 q))

-- a line within the first words is kept where they are
pub line_kept : (ws vs : List ℕ) (h : ℕ) → take 1024 vs ≡ take 1024 ws → line vs h ≡ line ws h
unfolding line line_from
line_kept ws vs h e = go (512 - h) h (omega arith)
  where
    same : (i : ℕ) → i < 1024 → get_or vs i 0 ≡ get_or ws i 0
    same i p = sym (get_or-take 1024 vs i 0 p) ∙ (ap (λ (xs : List ℕ). get_or xs i 0) e ∙ get_or-take 1024 ws i 0 p)

    go : (k h : ℕ) → h + k ≤ max 512 h → line_from vs h k ≡ line_from ws h k
    go zero h p = refl
    go (suc k) h p =
        ap₂ (λ (x : Entry) (xs : List Entry). x ∷ xs)
        (ap₂ (λ (a b : ℕ). record { node = a; weight = b }) (same h (omega arith)) (same (512 + h) (omega arith))) (go k (suc h) (omega arith))
