-- The queue as a list: largest weights, runs of equal weight, what a step leaves, and fuel that is enough.
use Rattle.std.specs.Prelude.{◌≡◌, refl, ◌≢◌, Bool, true, false, not, cond, List, [], ◌∷◌, map, ℕ, zero, suc, ◌+◌, ◌-◌, ◌^◌, ◌≤◌, ◌<◌, eqb, ltb, length, replicate}
use Rattle.std.proofs.Common.{sym, ◌∙◌, arith, le_of_lt, lt_of_lt_of_le, lt_of_le_of_lt, pow_pos, ltb-true, ltb-false, lt-ltb, le-ltb, eqb-true}
use Rattle.std.proofs.lemmas.Bool.{eqb-false}
use Rattle.rules.specs.Lists.{keep, sort, total}
use Rattle.rules.specs.Digits.{top_bit}
use Rattle.rules.specs.Records.{Entry, Record, node_at}
use Rattle.rules.specs.Totalizer.{merge}
use Rattle.rules.specs.Build.{Build, largest, some_wait}
use Rattle.rules.specs.Buckets.{lower}
use Rattle.rules.specs.Queue.{heavier, run, others, requeue, Sorting, queue_step, queue_run, gathered}
use Rattle.laws.specs.Lists.Facts.{All, All_map, All_keep, total_keep}
use Rattle.laws.specs.Lists.Sorts.{Order, All_insert, All_sort, total_insert, total_sort}

-- heavier entries come first, lower members come first
pub heavier_order : Order heavier
unfolding heavier
heavier_order = record {
  one_way = λ x y e. le-ltb _ _ (le_of_lt (ltb-true y.weight x.weight e));
  apart = λ e x y p q. lt-ltb _ _ (lt_of_le_of_lt (ltb-false x.weight y.weight q) (ltb-true x.weight e.weight p));
}

pub lower_order : (rs : List Record) → Order (lower rs)
unfolding lower
lower_order rs = record {
  one_way = λ x y e. le-ltb _ _ (le_of_lt (ltb-true (node_at rs x).maximum (node_at rs y).maximum e));
  apart = λ e x y p q. lt-ltb _ _ (lt_of_lt_of_le (ltb-true (node_at rs e).maximum (node_at rs x).maximum p)
      (ltb-false (node_at rs y).maximum (node_at rs x).maximum q));
}

-- a sum is 0 exactly if each part is
pub total_zero : {A : Type 0} (f : A → ℕ) (xs : List A) → total (map f xs) ≡ 0 → All (λ x. f x ≡ 0) xs
unfolding total
total_zero f [] h = tt
total_zero f (x ∷ xs) h = (omega arith, total_zero f xs (omega arith))

pub zero_total : {A : Type 0} (f : A → ℕ) (xs : List A) → All (λ x. f x ≡ 0) xs → total (map f xs) ≡ 0
unfolding total
zero_total f [] h = refl
zero_total f (x ∷ xs) h = omega (arith, h.0, zero_total f xs h.1)

-- all weights are at most the largest
pub largest_all : (es : List Entry) (b : ℕ) → largest es ≤ b → All (λ e. e.weight ≤ b) es
unfolding largest
largest_all [] b h = tt
largest_all (e ∷ es) b h = (omega arith, largest_all es b (omega arith))

-- something waits where a weight is at least 1
pub some_waits : (es : List Entry) → 1 ≤ largest es → some_wait es ≡ true
unfolding some_wait largest
some_waits [] h = absurd (omega arith)
some_waits (e ∷ es) h = refl

pub all_largest : (es : List Entry) (b : ℕ) → All (λ e. e.weight ≤ b) es → largest es ≤ b
unfolding largest
all_largest [] b h = omega arith
all_largest (e ∷ es) b h = omega (arith, h.0, all_largest es b h.1)

-- sorting keeps the largest
pub largest_sort : (es : List Entry) → largest (sort heavier es) ≡ largest es
largest_sort es =
    let at_most : largest (sort heavier es) ≤ largest es =
    all_largest (sort heavier es) (largest es) (All_sort heavier (λ e. e.weight ≤ largest es) es
    (largest_all es (largest es) (omega arith))) in
    let b : ℕ = largest (sort heavier es) in
    let over : Entry → ℕ = λ e. e.weight - b in
    let none : All (λ e. over e ≡ 0) (sort heavier es) =
    All_map (λ e (h : e.weight ≤ b). omega arith) (sort heavier es) (largest_all (sort heavier es) b (omega arith)) in
    let none' : All (λ e. over e ≡ 0) es = total_zero over es (sym (total_sort heavier over es) ∙ zero_total over (sort heavier es) none) in
    let at_least : largest es ≤ b = all_largest es b (All_map (λ e (h : over e ≡ 0). omega arith) es none') in
    omega arith

-- the largest weight is some entry's
pub run_some : (es : List Entry) (w : ℕ) → 1 ≤ w → largest es ≡ w → 1 ≤ length (run w es)
unfolding largest run keep
run_some [] w p h = absurd (omega arith)
run_some (e ∷ es) w p h = go (eqb e.weight w) refl (run_some es w p)
  where
    go : (b : Bool) → eqb e.weight w ≡ b → (largest es ≡ w → 1 ≤ length (run w es)) → 1 ≤ length (cond b (e ∷ run w es) (run w es))
    go true q ih = omega arith
    go false q ih =
        let ne : e.weight ≢ w = eqb-false e.weight w q in
        ih (omega arith)

-- a run has one weight
pub run_weight : (w : ℕ) (es : List Entry) → All (λ e. e.weight ≡ w) (run w es)
unfolding run keep
run_weight w [] = tt
run_weight w (e ∷ es) = go (eqb e.weight w) refl (run_weight w es)
  where
    go : (b : Bool) → eqb e.weight w ≡ b → All (λ e. e.weight ≡ w) (run w es) →
        All (λ e. e.weight ≡ w) (cond b (e ∷ run w es) (run w es))
    go true q ih = (eqb-true e.weight w q, ih)
    go false q ih = ih

-- the others have less than the largest
pub others_less : (w : ℕ) (es : List Entry) → All (λ e. e.weight ≤ w) es → All (λ e. e.weight < w) (others w es)
unfolding others keep
others_less w [] h = tt
others_less w (e ∷ es) h = go (eqb e.weight w) refl (others_less w es h.1)
  where
    go : (b : Bool) → eqb e.weight w ≡ b → All (λ e. e.weight < w) (others w es) →
        All (λ e. e.weight < w) (cond (not b) (e ∷ others w es) (others w es))
    go true q ih = ih
    go false q ih =
        let ne : e.weight ≢ w = eqb-false e.weight w q in
        let le : e.weight ≤ w = h.0 in
        (omega arith, ih)

-- a run and the others add to all
pub run_others : (f : Entry → ℕ) (w : ℕ) (es : List Entry) → total (map f es) ≡ total (map f (run w es)) + total (map f (others w es))
unfolding run others
run_others f w es = total_keep f (λ e. eqb e.weight w) es

pub run_all : (P : Entry → Type 0) (w : ℕ) (es : List Entry) → All P es → All P (run w es)
unfolding run
run_all P w es h = All_keep P (λ e. eqb e.weight w) es h

pub others_all : (P : Entry → Type 0) (w : ℕ) (es : List Entry) → All P es → All P (others w es)
unfolding others
others_all P w es h = All_keep P (λ e. not (eqb e.weight w)) es h

-- what is queued again
pub requeue_all : (P : Entry → Type 0) (es : List Entry) (n w : ℕ) → All P es → (1 ≤ w → P (record { node = n; weight = w })) →
    All P (requeue es n w)
unfolding requeue
requeue_all P es n zero h k = h
requeue_all P es n (suc w) h k = All_insert heavier P es (record { node = n; weight = suc w }) h (k (omega arith))

pub requeue_total : (f : Entry → ℕ) (es : List Entry) (n w : ℕ) →
    total (map f (requeue es n w)) ≤ f (record { node = n; weight = w }) + total (map f es)
unfolding requeue
requeue_total f es n zero = omega arith
requeue_total f es n (suc w) = omega (arith, total_insert heavier f es (record { node = n; weight = suc w }))

-- a step leaves lower weights
pub step_less : (q : Sorting) (w : ℕ) → 1 ≤ w → largest q.queue ≡ w → largest (queue_step w q).queue < w
unfolding queue_step
step_less q w p h =
    let (rs, m) = merge q.records (map (λ (e : Entry). e.node) (run w q.queue)) in
    let lows : All (λ e. e.weight < w) (requeue (others w q.queue) m (w - 2 ^ top_bit w)) =
    requeue_all (λ e. e.weight < w) (others w q.queue) m (w - 2 ^ top_bit w)
    (others_less w q.queue (largest_all q.queue w (omega arith))) (λ k. omega (arith, pow_pos (top_bit w))) in
    let at_most : largest (requeue (others w q.queue) m (w - 2 ^ top_bit w)) ≤ w - 1 =
    all_largest (requeue (others w q.queue) m (w - 2 ^ top_bit w)) (w - 1)
    (All_map (λ e (k : e.weight < w). omega arith) (requeue (others w q.queue) m (w - 2 ^ top_bit w)) lows) in
    omega arith

-- what each step keeps, the run keeps; afterwards every weight is below the divisor
pub run_keeps : (P : Sorting → Type 0) (d : ℕ) → 1 ≤ d →
    ((q : Sorting) → P q → d ≤ largest q.queue → P (queue_step (largest q.queue) q)) →
    (f : ℕ) (q : Sorting) → largest q.queue ≤ f → P q → P (queue_run f d q) × (largest (queue_run f d q).queue < d)
unfolding queue_run
run_keeps P d pos step zero q h p = (p, omega arith)
run_keeps P d pos step (suc f) q h p = go (ltb (largest q.queue) d) refl (run_keeps P d pos step f (queue_step (largest q.queue) q))
  where
    go : (b : Bool) → ltb (largest q.queue) d ≡ b →
        (largest (queue_step (largest q.queue) q).queue ≤ f → P (queue_step (largest q.queue) q) →
        P (queue_run f d (queue_step (largest q.queue) q)) ×
        (largest (queue_run f d (queue_step (largest q.queue) q)).queue < d)) →
        P (elim b [ true ↦ q | false ↦ queue_run f d (queue_step (largest q.queue) q) ]) ×
        (largest (elim b as (λ x. Sorting) [ true ↦ q | false ↦ queue_run f d (queue_step (largest q.queue) q) ]).queue < d)
    go true e ih = (p, ltb-true _ _ e)
    go false e ih =
        let reach : d ≤ largest q.queue = ltb-false _ _ e in
        ih (omega (arith, step_less q (largest q.queue) (omega arith) refl)) (step q p reach)

-- where every weight is below the divisor nothing is done
pub run_stops : (d f : ℕ) (q : Sorting) → largest q.queue < d → queue_run f d q ≡ q
unfolding queue_run
run_stops d zero q h = refl
run_stops d (suc f) q h = rw (lt-ltb (largest q.queue) d h, queue_run) refl

-- any fuel that is at least the largest weight runs the same
pub run_fuel : (d : ℕ) → 1 ≤ d → (f g : ℕ) (q : Sorting) → largest q.queue ≤ f → largest q.queue ≤ g →
    queue_run f d q ≡ queue_run g d q
unfolding queue_run
run_fuel d pos zero zero q h k = refl
run_fuel d pos zero (suc g) q h k = sym (run_stops d (suc g) q (omega arith))
run_fuel d pos (suc f) zero q h k = run_stops d (suc f) q (omega arith)
run_fuel d pos (suc f) (suc g) q h k = go (ltb (largest q.queue) d) refl (run_fuel d pos f g (queue_step (largest q.queue) q))
  where
    go : (b : Bool) → ltb (largest q.queue) d ≡ b →
        (largest (queue_step (largest q.queue) q).queue ≤ f → largest (queue_step (largest q.queue) q).queue ≤ g →
        queue_run f d (queue_step (largest q.queue) q) ≡ queue_run g d (queue_step (largest q.queue) q)) →
        ◌≡◌ {A = Sorting} (elim b [ true ↦ q | false ↦ queue_run f d (queue_step (largest q.queue) q) ])
        (elim b [ true ↦ q | false ↦ queue_run g d (queue_step (largest q.queue) q) ])
    go true e ih = refl
    go false e ih =
        let reach : d ≤ largest q.queue = ltb-false _ _ e in
        let less : largest (queue_step (largest q.queue) q).queue < largest q.queue =
        step_less q (largest q.queue) (omega arith) refl in
        ih (omega arith) (omega arith)

pub requeue_more : (f : Entry → ℕ) (es : List Entry) (n w : ℕ) → total (map f es) ≤ total (map f (requeue es n w))
unfolding requeue
requeue_more f es n zero = omega arith
requeue_more f es n (suc w) = omega (arith, total_insert heavier f es (record { node = n; weight = suc w }))

-- what each step keeps holds after any number of steps
pub steps_keep : (P : Sorting → Type 0) (d : ℕ) → ((q : Sorting) → P q → d ≤ largest q.queue → P (queue_step (largest q.queue) q)) →
    (f : ℕ) (q : Sorting) → P q → P (queue_run f d q)
unfolding queue_run
steps_keep P d step zero q p = p
steps_keep P d step (suc f) q p = go (ltb (largest q.queue) d) refl (steps_keep P d step f (queue_step (largest q.queue) q))
  where
    go : (b : Bool) → ltb (largest q.queue) d ≡ b →
        (P (queue_step (largest q.queue) q) → P (queue_run f d (queue_step (largest q.queue) q))) →
        P (elim b [ true ↦ q | false ↦ queue_run f d (queue_step (largest q.queue) q) ])
    go true e ih = p
    go false e ih = ih (step q p (ltb-false _ _ e))

-- what the queue leaves is below the set divisor
pub gathered_low : (b : Build) (n : ℕ) → 1 ≤ b.set → largest (gathered b n).queue < b.set
unfolding gathered
gathered_low b n positive =
    let q : Sorting = record { records = b.arena.records; members = replicate n []; queue = sort heavier b.queue } in
    (run_keeps (λ q. Unit {0}) b.set positive (λ q p h. tt) (largest b.queue) q (omega (arith, largest_sort b.queue)) tt).1
