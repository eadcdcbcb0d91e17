-- What a well formed build gives to those who build on it.
use Rattle.std.specs.Prelude.{◌≡◌, refl, ◌≢◌, Bool, true, false, List, [], ◌∷◌, ◌++◌, map, ℕ, zero, suc, ◌+◌, ◌-◌, ◌^◌, ◌≤◌, ◌<◌, eqb, length, pos}
use Rattle.std.proofs.Common.{sym, subst, arith, pow_pos, eqb-true}
use Rattle.std.proofs.lemmas.Bool.{eqb-false}
use Rattle.rules.specs.Lists.{rising}
use Rattle.rules.specs.Numbers.{lawful}
use Rattle.rules.specs.Digits.{top_bit}
use Rattle.rules.specs.Records.{Node, Output, node_at, outputs}
use Rattle.rules.specs.Build.{Build, largest, some_wait}
use Rattle.laws.specs.Lists.Facts.{All, All_map, All_zip, All_second, All_rising}
use Rattle.laws.specs.Records.Places.{place, place_inside, join_place}
use Rattle.laws.specs.WellFormed.Plain.{variables_of, Taken, Built, Formed}
use Rattle.laws.specs.Queue.Runs.{all_largest}
use Rattle.laws.specs.Refinement.Relinks.{linked_joins}
use Rattle.laws.specs.WellFormed.Keeps.{lawful_number}

-- the next fresh number is above every input variable
abbrev pub Ahead : Build → Type 0
Ahead b = All (λ v. v < b.arena.fresh) (variables_of (node_at b.arena.records) b.inputs)

-- the set divisor is at least 1
pub set_positive : (b : Build) → Formed b → 1 ≤ b.set
set_positive b f = rw f.set_power (omega (arith, pow_pos (top_bit b.set)))

-- the largest waiting weight is at most 1,048,575
pub weights_few : (b : Build) → Formed b → largest b.queue ≤ 1048575
weights_few b f = all_largest b.queue 1048575 (All_map (λ e h. h.1) b.queue f.waiting_are.weights)

-- and once built below the built divisor
pub waiting_below : (b : Build) → Formed b → b.built ≢ 0 → largest b.queue < 2 ^ top_bit b.built
waiting_below b f n =
    let u : Built b = f.if_built n in
    let low : largest b.queue ≤ b.built - 1 =
    all_largest b.queue (b.built - 1) (All_map (λ e (h : e.weight < b.built). omega arith) b.queue u.below_built) in
    omega (arith, u.power, pow_pos (top_bit b.built))

-- buckets are nodes
pub buckets_there : (b : Build) → Formed b → All (λ n. place b.arena.records n ≡ true) b.buckets
buckets_there b f = go (eqb b.built 0) refl
  where
    go : (t : Bool) → eqb b.built 0 ≡ t → All (λ n. place b.arena.records n ≡ true) b.buckets
    go true e = subst (λ (t : List ℕ). All (λ n. place b.arena.records n ≡ true) t)
        (sym (f.if_unbuilt (eqb-true b.built 0 e)).no_bucket) tt
    go false e =
        All_map (λ n (half, l, r, k). join_place b.arena.records n half l r k) b.buckets
        (linked_joins (node_at b.arena.records) (some_wait b.queue) b.buckets (f.if_built (eqb-false b.built 0 e)).linked)

pub buckets_inside : (b : Build) → Formed b → All (λ n. n < length b.arena.records) b.buckets
buckets_inside b f = All_map (place_inside b.arena.records) b.buckets (buckets_there b f)

-- where there is an input every number is positive
numbers_positive : (vs ns : List ℕ) (fresh : ℕ) → 1 ≤ length vs → Taken vs fresh ns → All (λ n. 1 ≤ n) ns
numbers_positive [] ns fresh h t = absurd (omega arith)
numbers_positive (v ∷ vs) ns fresh h t =
    All_map (λ n (k : All (λ v. v < n) (v ∷ vs)). let low : v < n = k.0 in omega arith) ns t.above_inputs

variables_some : (at : ℕ → Node) (n : ℕ) → 1 ≤ n → 1 ≤ length (variables_of at n)
unfolding rising
variables_some at zero h = absurd (omega arith)
variables_some at (suc n) h = omega arith

pub taken_positive : (b : Build) → Formed b → 1 ≤ b.inputs →
    All (λ n. 1 ≤ n) (map (λ (o : Output). o.number) (outputs b.arena.records) ++ b.tares)
taken_positive b f some =
    let at : ℕ → Node = node_at b.arena.records in
    numbers_positive (variables_of at b.inputs) _ b.arena.fresh (variables_some at b.inputs some) f.taken

-- the tares make lawful literals
pub tares_lawful : (b : Build) → Formed b → 1 ≤ b.inputs → All (λ t. lawful (pos t) ≡ true) b.tares
tares_lawful b f some =
    let ns : List ℕ = map (λ (o : Output). o.number) (outputs b.arena.records) in
    All_zip {P = λ n. 1 ≤ n} {Q = λ n. n < b.arena.fresh} (λ t low high. lawful_number t low (omega (arith, f.fresh_few))) b.tares
    (All_second (λ n. 1 ≤ n) ns b.tares (taken_positive b f some))
    (All_second (λ n. n < b.arena.fresh) ns b.tares f.taken.below_fresh)

-- and so do fresh numbers as far as they go
pub fresh_lawful : (b : Build) (k : ℕ) → Formed b → b.arena.fresh + k ≤ 1000000001 →
    All (λ t. lawful (pos t) ≡ true) (rising k b.arena.fresh)
fresh_lawful b k f room =
    let low : 1 ≤ b.arena.fresh = omega (arith, f.first_low, f.first_high) in
    All_rising (λ t. lawful (pos t) ≡ true) k b.arena.fresh (λ i a c. lawful_number i (omega arith) (omega arith))
