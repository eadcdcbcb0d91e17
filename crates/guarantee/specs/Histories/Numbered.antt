-- The numbers taken: each is a tare's or an output's, so there are as many as tares and outputs.
use Rattle.std.specs.Prelude.{◌≡◌, ◌≢◌, Bool, List, [], ◌∷◌, reverse, ℕ, ◌+◌, ◌-◌, ◌≤◌, leb, ltb, length, drop, ℤ}
use Rattle.std.proofs.Math.Path.{refl}
use Rattle.std.proofs.Common.{ap, ◌∙◌, arith, length-append}
use Rattle.std.proofs.Math.Bool.{true, false}
use borrow.Author.Tests.{eqb-true, ltb-false}
use Rattle.rules.specs.Lists.{in_turn, rising}
use Rattle.rules.specs.Digits.{digits, top_bit}
use Rattle.rules.specs.Records.{Record, output, node_at, outputs}
use Rattle.rules.specs.Totalizer.{Arena, write, take_number, define_output}
use Rattle.rules.specs.Build.{Build, restructured, with_arena, unbuilt, root, largest, some_wait}
use Rattle.rules.specs.Queue.{Sorting, gathered}
use Rattle.rules.specs.Buckets.{build_structure}
use Rattle.rules.specs.Refinement.{patched, merge_structures, extend_bucket}
use Rattle.rules.specs.Start.{new_build}
use Rattle.rules.specs.Encode.{prepared, root_values, encode_outputs, nothing_asked, encode}
use Rattle.laws.specs.Lists.Facts.{neither}
use Rattle.laws.specs.Records.Places.{outputs_append}
use Rattle.laws.specs.Totalizer.Defines.{define_keeps, extend_bucket_keeps}
use Rattle.preserve.specs.Starts.{no_outputs}
use Rattle.preserve.specs.Gathered.{begun}
use Rattle.preserve.specs.Sets.{set_to}
use Rattle.preserve.specs.Encodes.{still_built, prepared_cases, encode_fresh}
use Rattle.guarantee.specs.Counting.Sums.{begins_then, begins_outputs}
use Rattle.guarantee.specs.Counting.Queues.{run_begins}
use Rattle.guarantee.specs.Counting.Buckets.{over_begins}
use Rattle.guarantee.specs.Refinement.Keeps.{patched_outputs}
use Rattle.guarantee.specs.Histories.Worlds.{Leads, here, then_set, then_encode, World, refine_reach, refine_room}
use Rattle.guarantee.specs.Histories.Reached.{leads_world}

-- as many numbers are taken as there are tares and outputs
abbrev pub Numbered : Build → Type 0
Numbered b = b.arena.fresh ≡ b.first + (length b.tares + length (outputs b.arena.records))

-- the next number is k and as many as there are outputs
abbrev Level : ℕ → Arena → Type 0
Level k s = s.fresh ≡ k + length (outputs s.records)

level_write : (k : ℕ) (half : Bool) (l r number : ℕ) (ps : List (ℕ × ℕ)) (s : Arena) → Level k s → Level k (write half l r number ps s)
unfolding write
level_write k half l r number ps s h = h

level_take : (k n v : ℕ) (s : Arena) → Level k s → Level k (take_number n v s)
unfolding take_number outputs
level_take k n v s h =
    let one : List Record = output (record { node = n; value = v; number = s.fresh }) ∷ [] in
    omega (arith, h, ap length (outputs_append s.records one), length-append (outputs s.records) (outputs one))

-- outputs defined one after another
level_outputs : (k n : ℕ) (vs : List ℕ) (s : Arena) → Level k s → Level k (in_turn (λ s v. define_output s n v) s vs)
unfolding in_turn define_output
level_outputs k n [] s h = h
level_outputs k n (v ∷ vs) s h =
    level_outputs k n vs (define_output s n v) (define_keeps (Level k) (level_write k) (level_take k) (node_at s.records n).height s n v h)

-- old outputs extended
level_extended : (k : ℕ) (old : List Record) (bs : List ℕ) (s : Arena) → Level k s → Level k (in_turn (extend_bucket old) s bs)
unfolding in_turn
level_extended k old [] s h = h
level_extended k old (n ∷ bs) s h = level_extended k old bs (extend_bucket old s n) (extend_bucket_keeps (Level k) (level_write k) (level_take k) old s n h)

-- a first build adds nodes and no output
first_outputs : (b : Build) → outputs (build_structure b).arena.records ≡ outputs b.arena.records
unfolding build_structure restructured gathered
first_outputs b =
    let n : ℕ = digits (largest b.queue) in
    let q : Sorting = gathered b n in
    let tares : List ℕ = rising (n - 1 - top_bit b.set) b.arena.fresh in
    let mss : List (List ℕ) = drop (top_bit b.set) q.members in
    let rs : List Record = (build_structure b).arena.records in
    begins_outputs b.arena.records rs
    (begins_then b.arena.records q.records rs (run_begins (largest b.queue) b.set (begun b n)) (over_begins (some_wait q.queue) q.records [] tares mss))

-- the tares of a first build are the numbers that it takes
first_numbered : (b : Build) → b.tares ≡ [] → Numbered b → Numbered (build_structure b)
unfolding build_structure restructured
first_numbered b none h = omega (arith, h, ap length none, ap length (first_outputs b))

-- those of a refinement are the ones that it takes and the old ones
refined_numbered : (b : Build) → outputs (patched b).arena.records ≡ outputs b.arena.records → Numbered b → Numbered (merge_structures b)
unfolding merge_structures patched with_arena restructured
refined_numbered b same h =
    let c : Build = patched b in
    let fresh : List ℕ = rising (top_bit b.built - top_bit b.set) b.arena.fresh in
    let k : ℕ = b.first + length c.tares in
    let level : Level k c.arena = omega (arith, h, length-append fresh b.tares, ap length same) in
    omega (arith, level_extended k b.arena.records (reverse b.buckets) c.arena level)

outputs_numbered : (b : Build) (lo end : ℕ) → Numbered b → Numbered (encode_outputs b lo end)
unfolding encode_outputs with_arena restructured
outputs_numbered b lo end h =
    let k : ℕ = b.first + length b.tares in
    let level : Level k b.arena = omega arith in
    omega (arith, level_outputs k (root b) (root_values b lo end) b.arena level)

module _ (xs : List ℤ) (ws : List ℕ) (b : Build) (w : World xs ws b) (h : Numbered b) where
  prepared_numbered : 2 ≤ b.inputs → (prepared b).arena.fresh ≤ 1000000001 → Numbered (prepared b)
  unfolding unbuilt
  prepared_numbered two = prepared_cases (λ c. c.arena.fresh ≤ 1000000001 → Numbered c) b
      (λ e few. first_numbered b (w.formed.if_unbuilt (eqb-true b.built 0 e)).no_tare h)
      (λ e d few.
      let n : b.built ≢ 0 = still_built b e in
      refined_numbered b (patched_outputs b w.formed n (refine_reach xs ws b w two n d few) w.ahead w.told (refine_room xs ws b w two n d few)) h)
      (λ e d few. h)

  encode_numbered : (lo end : ℕ) → (encode b lo end).arena.fresh ≤ 1000000001 → Numbered (encode b lo end)
  unfolding encode nothing_asked
  encode_numbered lo end few = go (nothing_asked b lo end) refl few
    where
      go : (t : Bool) → nothing_asked b lo end ≡ t → (elim t as (λ x. Build) [ true ↦ b | false ↦ encode_outputs (prepared b) lo end ]).arena.fresh ≤ 1000000001 →
          Numbered (elim t [ true ↦ b | false ↦ encode_outputs (prepared b) lo end ])
      go true e few = h
      go false e few =
          let two : 2 ≤ b.inputs = ltb-false b.inputs 2 (neither (leb end lo) (ltb b.inputs 2) e).1 in
          outputs_numbered (prepared b) lo end (prepared_numbered two (omega (arith, encode_fresh (prepared b) lo end)))

-- what accepted calls lead to keeps it
pub leads_numbered : (xs : List ℤ) (ws : List ℕ) (b c : Build) → World xs ws b → Numbered b → Leads b c → Numbered c
unfolding set_to
leads_numbered xs ws b c w h here = h
leads_numbered xs ws b c w h (then_set {c = m} d l e k) = leads_numbered xs ws b m w h l
leads_numbered xs ws b c w h (then_encode {c = m} lo end l e k) = encode_numbered xs ws m (leads_world xs ws b m w l) (leads_numbered xs ws b m w h l) lo end k

-- and a start has it
pub new_numbered : (xs : List ℤ) (ws : List ℕ) (first : ℕ) → Numbered (new_build xs ws first)
unfolding new_build
new_numbered xs ws first = omega (arith, ap length (no_outputs xs))

-- the first number that start was given stays
encode_first : (b : Build) (lo end : ℕ) → (encode b lo end).first ≡ b.first
unfolding encode encode_outputs build_structure merge_structures patched with_arena restructured
encode_first b lo end = go (nothing_asked b lo end)
  where
    prepared_first : (prepared b).first ≡ b.first
    prepared_first = prepared_cases (λ c. c.first ≡ b.first) b (λ e. refl) (λ e d. refl) (λ e d. refl)

    go : (t : Bool) → (elim t as (λ x. Build) [ true ↦ b | false ↦ encode_outputs (prepared b) lo end ]).first ≡ b.first
    go true = refl
    go false = prepared_first

pub leads_first : (b c : Build) → Leads b c → c.first ≡ b.first
unfolding set_to
leads_first b c here = refl
leads_first b c (then_set {c = m} d l e k) = leads_first b m l
leads_first b c (then_encode {c = m} lo end l e k) = encode_first m lo end ∙ leads_first b m l
