-- A first build, a refinement and encode's outputs keep the clauses meaning what the outputs say.
use Rattle.std.specs.Prelude.{◌≡◌, refl, ◌≢◌, Bool, true, false, cond, ℕ, suc, ◌+◌, ◌-◌, ◌≤◌, ◌<◌, eqb, length, drop, ℤ, pos, nat_abs}
use Rattle.std.proofs.Common.{sym, ap, ◌∙◌, subst, arith}
use mathlib.Core.List.{List, [], ◌∷◌, ◌++◌, map, reverse, reverse-cons}
use Rattle.rules.specs.Lists.{rising, in_turn}
use Rattle.rules.specs.Digits.{digits, top_bit}
use Rattle.rules.specs.Records.{Node, Output, Record, node_at, outputs}
use Rattle.rules.specs.Totalizer.{Arena, define, define_output}
use Rattle.rules.specs.Build.{Build, restructured, largest, some_wait}
use Rattle.rules.specs.Queue.{Sorting, gathered}
use Rattle.rules.specs.Buckets.{build_structure}
use Rattle.laws.specs.Lists.Facts.{All, All_map, All_self, All_rising, All_source, rising_length, occurs, occurs_append, occurs_here, occurs_more}
use Rattle.laws.specs.Records.Places.{place, place_inside}
use Rattle.laws.specs.WellFormed.Plain.{Sound}
use Rattle.preserve.specs.Gathered.{begun}
use Rattle.guarantee.specs.Meaning.Derived.{every}
use Rattle.guarantee.specs.Meaning.Defining.{Told, Over, Defines, define_defines, over_defines, defines_self, defines_then}
use Rattle.guarantee.specs.Counting.Sums.{Begins, begins_at, begins_then}
use Rattle.guarantee.specs.Counting.Queues.{run_begins}
use Rattle.guarantee.specs.Counting.Buckets.{over_begins}
use Rattle.guarantee.specs.Meaning.Keeping.{told_more}
use Rattle.guarantee.specs.Counting.Leaves.{Leaves, run_keeps, over_keeps}

-- a number that does not stand in a list differs from each that does
pub occurs_apart : (n : ℕ) (xs : List ℕ) → occurs n xs ≡ 0 → All (λ x. n ≢ x) xs
occurs_apart n [] h = tt
occurs_apart n (x ∷ xs) h = (λ e. omega (arith, h, occurs_here n x xs e), occurs_apart n xs (omega (arith, h, occurs_more n x xs)))

-- of two lists with no number twice, each of the second is apart from the first
pub once_apart : (xs ys : List ℕ) → ((n : ℕ) → occurs n (xs ++ ys) ≤ 1) → All (λ y. All (λ x. y ≢ x) xs) ys
once_apart xs ys once =
    All_map (λ y h. occurs_apart y xs (omega (arith, once y, occurs_append y xs ys))) ys (All_self ys)

-- a literal whose variable is taken before `fresh` and is no output's number
abbrev pub Free : ℕ → List Output → ℤ → Type 0
Free fresh os x = (nat_abs x < fresh) × All (λ o. nat_abs x ≢ o.number) os

module _ (s : Arena) (told : Told every s) where
  -- leaves that stand are free, and stay so
  pub free_leaves : (fresh : ℕ) → s.fresh ≤ fresh → Leaves (Free fresh (outputs s.records)) s.records
  free_leaves fresh h n x e =
      let low : nat_abs x < s.fresh = told.leaves_low n x e in
      (omega arith, All_map (λ o k. k.apart n x e) (outputs s.records) told.means.claims)

  -- fresh tares are
  pub free_fresh : (k : ℕ) → All (λ u. Free (s.fresh + k) (outputs s.records) (pos u)) (rising k s.fresh)
  free_fresh k = All_rising (λ u. Free (s.fresh + k) (outputs s.records) (pos u)) k s.fresh (λ u a c. (omega arith, All_map (λ o h. λ e. omega arith) (outputs s.records) told.numbers_low))

  -- tares that stand are
  pub free_tares : (tares : List ℕ) (fresh : ℕ) → s.fresh ≤ fresh → All (λ u. u < s.fresh) tares → ((n : ℕ) → occurs n (map (λ (o : Output). o.number) (outputs s.records) ++ tares) ≤ 1) →
      All (λ u. Free fresh (outputs s.records) (pos u)) tares
  free_tares tares fresh h low once =
      zip tares low (once_apart (map (λ (o : Output). o.number) (outputs s.records)) tares once)
    where
      zip : (ts : List ℕ) → All (λ u. u < s.fresh) ts → All (λ y. All (λ x. y ≢ x) (map (λ (o : Output). o.number) (outputs s.records))) ts → All (λ u. Free fresh (outputs s.records) (pos u)) ts
      zip [] a c = tt
      zip (u ∷ ts) a c = ((omega (arith, a.0), All_source (λ x. u ≢ x) (λ (o : Output). o.number) (outputs s.records) c.0), zip ts a.1 c.1)

-- a first build only adds nodes
pub first_told : (b : Build) → Sound (node_at b.arena.records) (place b.arena.records) → outputs (build_structure b).arena.records ≡ outputs b.arena.records →
    Told every b.arena → Told every (build_structure b).arena
unfolding build_structure restructured gathered
first_told b sound same told =
    told_more s s' sound (λ n h. begins_at old s'.records begins n (place_inside old n h)) same refl (omega arith)
    (over_keeps P wait q.records [] tares mss tares_free (run_keeps P (largest b.queue) b.set (begun b n) (free_leaves s told (s.fresh + length tares) (omega arith)))) told
  where
    s : Arena
    s = b.arena

    old : List Record
    old = s.records

    n : ℕ
    n = digits (largest b.queue)

    q : Sorting
    q = gathered b n

    wait : Bool
    wait = some_wait q.queue

    tares : List ℕ
    tares = rising (n - 1 - top_bit b.set) s.fresh

    mss : List (List ℕ)
    mss = drop (top_bit b.set) q.members

    s' : Arena
    s' = (build_structure b).arena

    P : ℤ → Type 0
    P x = Free (s.fresh + length tares) (outputs old) x

    tares_free : All (λ u. P (pos u)) tares
    tares_free = subst (λ (k : ℕ). All (λ u. Free (s.fresh + k) (outputs old) (pos u)) tares) (sym (rising_length (n - 1 - top_bit b.set) s.fresh)) (free_fresh s told (n - 1 - top_bit b.set))

    begins : Begins old s'.records
    begins = begins_then old q.records s'.records (run_begins (largest b.queue) b.set (begun b n)) (over_begins wait q.records [] tares mss)

-- outputs of a node, defined one after another
pub outputs_told : (at : ℕ → Node) (there : ℕ → Bool) (nodes : Sound at there) (root : ℕ) (vs : List ℕ) → All (λ v. (1 ≤ v) × (v ≤ (at root).maximum)) vs → (s : Arena) → Over every at there nodes s →
    Defines every at there nodes s (in_turn (λ s v. define_output s root v) s vs)
unfolding in_turn define_output
outputs_told at there nodes root [] a s ov = defines_self every at there nodes s ov
outputs_told at there nodes root (v ∷ vs) a s ov =
    let h : (node_at s.records root).height ≡ (at root).height = ap (λ (f : ℕ → Node). (f root).height) ov.nodes_are in
    let t : Arena = define (node_at s.records root).height s root v in
    let d : Defines every at there nodes s t = (define_defines every at there nodes (node_at s.records root).height s root v ov (omega arith) a.0.0 a.0.1).0 in
    defines_then every at there nodes s t (in_turn (λ s v. define_output s root v) t vs) d (outputs_told at there nodes root vs a.1 t (over_defines every at there nodes s t ov d))

pub occurs_reverse : (n : ℕ) (xs : List ℕ) → occurs n (reverse xs) ≡ occurs n xs
unfolding occurs
occurs_reverse n [] = refl
occurs_reverse n (x ∷ xs) =
    ap (occurs n) (reverse-cons x xs) ∙ (occurs_append n (reverse xs) (x ∷ []) ∙ go (eqb n x) (occurs_reverse n xs))
  where
    go : (b : Bool) → occurs n (reverse xs) ≡ occurs n xs → occurs n (reverse xs) + cond b 1 0 ≡ cond b (suc (occurs n xs)) (occurs n xs)
    go true ih = omega arith
    go false ih = omega arith
