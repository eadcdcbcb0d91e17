-- In every build that accepted calls reach, halved joins are buckets; where nothing waits the last bucket is none.
use Rattle.std.specs.Prelude.{◌≡◌, ◌≢◌, Bool, not, ◌&&◌, ℕ, zero, suc, ◌+◌, ◌-◌, ◌≤◌, ◌<◌, leb, get_or, drop, replicate, ℤ}
use Rattle.std.proofs.Math.Path.{refl, subst}
use Rattle.std.proofs.Common.{sym, ap, ◌∙◌, arith, length-append}
use Rattle.std.proofs.Math.Bool.{true, false}
use Rattle.std.proofs.lemmas.Bool.{false≢true}
use mathlib.Core.List.{List, [], ◌∷◌, ◌++◌, reverse, map}
use Rattle.std.proofs.Math.Dec.{ltb}
use Rattle.std.proofs.Math.ListN.{length}
use borrow.Author.Tests.{eqb-true, ltb-false}
use Rattle.rules.specs.Lists.{in_turn, rising}
use Rattle.rules.specs.Digits.{digits, top_bit}
use Rattle.rules.specs.Records.{Node, Output, Record, output, node_at, node_of, leaf_node, dummy_node}
use Rattle.rules.specs.Totalizer.{Arena, write, take_number, define_output}
use Rattle.rules.specs.Build.{Build, restructured, with_arena, unbuilt, root, largest, some_wait}
use Rattle.rules.specs.Queue.{Sorting, gathered}
use Rattle.rules.specs.Buckets.{buckets_over, build_structure}
use Rattle.rules.specs.Refinement.{relink, patched, merge_structures, extend_bucket}
use Rattle.rules.specs.Start.{new_build}
use Rattle.rules.specs.Encode.{prepared, root_values, encode_outputs, nothing_asked, encode, divisor_above}
use Rattle.laws.specs.Lists.Facts.{neither, All, All_map, All_zip, All_append, All_drop, All_self, occurs, occurs_append, occurs_none}
use Rattle.laws.specs.Records.Places.{place_inside}
use Rattle.laws.specs.Numbers.Powers.{below_digits}
use Rattle.laws.specs.Totalizer.Defines.{over_outputs, define_keeps, extend_bucket_keeps}
use Rattle.laws.specs.WellFormed.Plain.{Formed}
use Rattle.laws.specs.WellFormed.Keeps.{All_reverse}
use Rattle.preserve.specs.Starts.{leaves}
use Rattle.preserve.specs.Sets.{set_to}
use Rattle.preserve.specs.Given.{waiting_below, buckets_inside}
use Rattle.preserve.specs.Gathered.{begun, Gathered, gathered_made}
use Rattle.preserve.specs.Refinement.{built_tower, held}
use Rattle.preserve.specs.Encodes.{still_built, prepared_cases, encode_fresh}
use Rattle.guarantee.specs.Counting.Sums.{begins_length}
use Rattle.guarantee.specs.Counting.Queues.{run_begins}
use Rattle.guarantee.specs.Counting.Halves.{is_halved, halved, Halves, Among, run_halves, over_halves, relink_halves}
use Rattle.guarantee.specs.Counting.Lowest.{LastPlain, Members, last_append, over_last, relink_last}
use Rattle.guarantee.specs.Refinement.Whole.{q, wait, fresh_tares, own, mss}
use Rattle.guarantee.specs.Histories.Clauses.{occurs_reverse}
use Rattle.guarantee.specs.Histories.Worlds.{Leads, here, then_set, then_encode, World, refine_reach, refine_room}
use Rattle.guarantee.specs.Histories.Reached.{leads_world}

pub record Plain (b : Build) : Type 0 where
  pub among : (n : ℕ) → halved b.arena.records n ≡ true → 1 ≤ occurs n b.buckets
  pub last : some_wait b.queue ≡ false → LastPlain b.arena.records b.buckets

-- nodes as they were, and no fewer records
Steady : Arena → Arena → Type 0
Steady s t = (node_at t.records ≡ node_at s.records) × (length s.records ≤ length t.records)

steady_write : (s : Arena) (half : Bool) (l r number : ℕ) (ps : List (ℕ × ℕ)) (t : Arena) → Steady s t → Steady s (write half l r number ps t)
unfolding Steady write
steady_write s half l r number ps t h = h

steady_take : (s : Arena) (n v : ℕ) (t : Arena) → Steady s t → Steady s (take_number n v t)
unfolding Steady take_number
steady_take s n v t h =
    let one : List Output = record { node = n; value = v; number = t.fresh } ∷ [] in
    ((over_outputs t.records one).0 ∙ h.0, omega (arith, h.1, length-append t.records (map output one)))

steady_outputs : (s : Arena) (n : ℕ) (vs : List ℕ) (t : Arena) → Steady s t → Steady s (in_turn (λ s v. define_output s n v) t vs)
unfolding in_turn define_output
steady_outputs s n [] t h = h
steady_outputs s n (v ∷ vs) t h =
    steady_outputs s n vs (define_output t n v) (define_keeps (Steady s) (steady_write s) (steady_take s) (node_at t.records n).height t n v h)

steady_extended : (s : Arena) (old : List Record) (bs : List ℕ) (t : Arena) → Steady s t → Steady s (in_turn (extend_bucket old) t bs)
unfolding in_turn
steady_extended s old [] t h = h
steady_extended s old (n ∷ bs) t h = steady_extended s old bs (extend_bucket old t n) (extend_bucket_keeps (Steady s) (steady_write s) (steady_take s) old t n h)

last_steady : (rs rs' : List Record) → node_at rs' ≡ node_at rs → length rs ≤ length rs' → (bs : List ℕ) → LastPlain rs bs → LastPlain rs' bs
last_steady rs rs' e l [] h = tt
last_steady rs rs' e l (b ∷ []) h = (omega (arith, h.0, l), ap (λ (at : ℕ → Node). is_halved (at b).kind) e ∙ h.1)
last_steady rs rs' e l (b ∷ c ∷ bs) h = last_steady rs rs' e l (c ∷ bs) h

steady_plain : (b : Build) (t : Arena) → Steady b.arena t → Plain b → Plain (with_arena b t)
unfolding Steady with_arena restructured
steady_plain b t h p = record {
  among = λ n k. p.among n (ap (λ (at : ℕ → Node). is_halved (at n).kind) (sym h.0) ∙ k);
  last = λ w. last_steady b.arena.records t.records h.0 h.1 b.buckets (p.last w);
}

-- a tower over a gathered queue
module _ (b : Build) (n : ℕ) (p : Plain b) (made : Gathered b n (λ q. Unit {0})) (inside : All (λ a. a < length b.arena.records) b.buckets) where
  none_new : Halves (Among b.buckets []) b.arena.records
  unfolding occurs
  none_new i h = omega (arith, p.among i h)

  queued : Halves (Among b.buckets []) (gathered b n).records
  unfolding gathered
  queued = run_halves (Among b.buckets []) (largest b.queue) b.set (begun b n) none_new

  inside_queued : All (λ a. a < length (gathered b n).records) b.buckets
  unfolding gathered
  inside_queued = All_map (λ a h. omega (arith, begins_length b.arena.records (gathered b n).records (run_begins (largest b.queue) b.set (begun b n)))) b.buckets inside

  members : All (Members b.buckets (gathered b n).records) (gathered b n).members
  members =
      All_zip (λ ms there avoid. All_zip (λ m t a. (place_inside (gathered b n).records m t, a)) ms there avoid) (gathered b n).members made.gathers.members_there made.gathers.members_avoid

-- the first build
first_plain : (b : Build) → Formed b → b.built ≡ 0 → b.set ≤ largest b.queue → Plain b → Plain (build_structure b)
unfolding build_structure restructured
first_plain b f z reach p = record {
  among = λ i h. omega (arith, over_halves b.buckets (some_wait q.queue) q.records [] tares mss (queued b n p made inside) i h, ap (occurs i) no_bucket, none i);
  last = λ w.
      subst (λ (t : Bool). LastPlain (buckets_over t q.records [] tares mss).0 (buckets_over t q.records [] tares mss).1) (sym w)
      (over_last b.buckets q.records [] tares mss (inside_queued b n p made inside) (queued b n p made inside)
      (All_drop (Members b.buckets q.records) (top_bit b.set) q.members (members b n p made inside)) tt);
}
  where
    n : ℕ
    n = digits (largest b.queue)

    q : Sorting
    q = gathered b n

    tares : List ℕ
    tares = rising (n - 1 - top_bit b.set) b.arena.fresh

    mss : List (List ℕ)
    mss = drop (top_bit b.set) q.members

    no_bucket : b.buckets ≡ []
    no_bucket = (f.if_unbuilt z).no_bucket

    none : (i : ℕ) → occurs i [] ≡ 0
    none i = occurs_none (λ a. ⊥) i [] tt (λ h. h)

    inside : All (λ a. a < length b.arena.records) b.buckets
    inside = subst (All (λ a. a < length b.arena.records)) (sym no_bucket) tt

    made : Gathered b n (λ q. Unit {0})
    made = gathered_made b f n inside (below_digits (largest b.queue)) reach (λ q. Unit {0}) (λ q ok e h. tt) tt

-- new buckets below the old ones, which are linked anew
relinked_plain : (b : Build) (rs : List Record) (lower : List ℕ) → Halves (Among b.buckets lower) rs →
    (n : ℕ) → halved (relink rs (get_or lower 0 0) (reverse b.buckets)) n ≡ true → 1 ≤ occurs n (b.buckets ++ lower)
relinked_plain b rs lower old =
    relink_halves P rs (get_or lower 0 0) (reverse b.buckets)
    (All_reverse P b.buckets (All_map (λ n h. omega (arith, h, occurs_append n b.buckets lower)) b.buckets (All_self b.buckets)))
    (λ n h. omega (arith, old n h, occurs_append n b.buckets lower))
  where
    P : ℕ → Type 0
    P n = 1 ≤ occurs n (b.buckets ++ lower)

relinked_last : (b : Build) (rs : List Record) (lower : List ℕ) → 1 ≤ length lower → All (λ n. occurs n b.buckets ≡ 0) lower → LastPlain rs lower →
    LastPlain (relink rs (get_or lower 0 0) (reverse b.buckets)) (b.buckets ++ lower)
relinked_last b rs [] some apart h = absurd (omega arith)
relinked_last b rs (d ∷ ds) some apart h =
    last_append (relink rs d (reverse b.buckets)) b.buckets d ds
    (relink_last rs d (reverse b.buckets) (d ∷ ds) (All_map (λ n k. occurs_reverse n b.buckets ∙ k) (d ∷ ds) apart) h)

-- refinement
module _ (b : Build) (f : Formed b) (built : b.built ≢ 0) (reach : b.set ≤ largest b.queue) (p : Plain b)
    (room : b.arena.fresh + length (rising (top_bit b.built - top_bit b.set) b.arena.fresh) ≤ 1000000001) where
  n : ℕ
  n = top_bit b.built

  made : Gathered b n (λ q. Unit {0})
  unfolding n
  made = gathered_made b f n (buckets_inside b f) (waiting_below b f built) reach (λ q. Unit {0}) (λ q ok e h. tt) tt

  abbrev rs : List Record
  rs = (q b f built reach).records

  abbrev tares : List ℕ
  tares = fresh_tares b f built reach ++ own b f built reach

  abbrev result : List Record × List ℕ
  result = buckets_over (wait b f built reach) rs [] tares (mss b f built reach)

  some : 1 ≤ length result.1
  some = (built_tower b f built reach room).some (omega (arith, held b f built reach))

  apart : All (λ m. occurs m b.buckets ≡ 0) result.1
  unfolding n
  apart =
      All_map (λ m h. occurs_none (λ a. a < length rs) m b.buckets (inside_queued b n p made (buckets_inside b f)) (λ k. omega (arith, h, k)))
      result.1 (built_tower b f built reach room).fresh

  none : (k : ℕ) → All (Members b.buckets rs) (replicate k [])
  none zero = tt
  none (suc k) = (tt, none k)

  lowest : wait b f built reach ≡ false → LastPlain result.0 result.1
  unfolding n
  lowest w =
      subst (λ (t : Bool). LastPlain (buckets_over t rs [] tares (mss b f built reach)).0 (buckets_over t rs [] tares (mss b f built reach)).1) (sym w)
      (over_last b.buckets rs [] tares (mss b f built reach) (inside_queued b n p made (buckets_inside b f)) (queued b n p made (buckets_inside b f))
      (All_append (Members b.buckets rs) (drop (top_bit b.set) (q b f built reach).members) (replicate (length (own b f built reach)) [])
      (All_drop (Members b.buckets rs) (top_bit b.set) (q b f built reach).members (members b n p made (buckets_inside b f))) (none (length (own b f built reach)))) tt)

  patched_plain : Plain (patched b)
  unfolding patched restructured n
  patched_plain = record {
    among = relinked_plain b result.0 result.1 (over_halves b.buckets (wait b f built reach) rs [] tares (mss b f built reach) (queued b n p made (buckets_inside b f)));
    last = λ w. relinked_last b result.0 result.1 some apart (lowest w);
  }

  refined_plain : Plain (merge_structures b)
  unfolding merge_structures Steady
  refined_plain =
      steady_plain (patched b) (in_turn (extend_bucket b.arena.records) (patched b).arena (reverse b.buckets))
      (steady_extended (patched b).arena b.arena.records (reverse b.buckets) (patched b).arena (refl, omega arith)) patched_plain

module _ (xs : List ℤ) (ws : List ℕ) (b : Build) (w : World xs ws b) (p : Plain b) where
  prepared_plain : 2 ≤ b.inputs → divisor_above b ≡ false → (prepared b).arena.fresh ≤ 1000000001 → Plain (prepared b)
  unfolding unbuilt divisor_above
  prepared_plain two above = prepared_cases (λ c. c.arena.fresh ≤ 1000000001 → Plain c) b
      (λ e few.
      first_plain b w.formed (eqb-true b.built 0 e)
      (ltb-false (largest b.queue) b.set (ap (λ (t : Bool). t && ltb (largest b.queue) b.set) (sym e) ∙ above)) p)
      (λ e d few.
      let n : b.built ≢ 0 = still_built b e in
      refined_plain b w.formed n (refine_reach xs ws b w two n d few) p (refine_room xs ws b w two n d few))
      (λ e d few. p)

  encode_plain : (lo end : ℕ) → (not (nothing_asked b lo end) && divisor_above b) ≡ false → (encode b lo end).arena.fresh ≤ 1000000001 → Plain (encode b lo end)
  unfolding encode nothing_asked encode_outputs Steady
  encode_plain lo end ten few = go (nothing_asked b lo end) refl ten few
    where
      go : (t : Bool) → nothing_asked b lo end ≡ t → (not t && divisor_above b) ≡ false →
          (elim t as (λ x. Build) [ true ↦ b | false ↦ encode_outputs (prepared b) lo end ]).arena.fresh ≤ 1000000001 →
          Plain (elim t [ true ↦ b | false ↦ encode_outputs (prepared b) lo end ])
      go true e ten few = p
      go false e ten few =
          let two : 2 ≤ b.inputs = ltb-false b.inputs 2 (neither (leb end lo) (ltb b.inputs 2) e).1 in
          let c : Build = prepared b in
          steady_plain c (in_turn (λ s v. define_output s (root c) v) c.arena (root_values c lo end))
          (steady_outputs c.arena (root c) (root_values c lo end) c.arena (refl, omega arith)) (prepared_plain two ten (omega (arith, encode_fresh c lo end)))

-- what accepted calls lead to keeps it
pub leads_plain : (xs : List ℤ) (ws : List ℕ) (b c : Build) → World xs ws b → Plain b → Leads b c → Plain c
unfolding set_to
leads_plain xs ws b c w p here = p
leads_plain xs ws b c w p (then_set {c = m} d l e k) = let h : Plain m = leads_plain xs ws b m w p l in record { among = h.among; last = h.last }
leads_plain xs ws b c w p (then_encode {c = m} lo end l e k) = encode_plain xs ws m (leads_world xs ws b m w l) (leads_plain xs ws b m w p l) lo end e k

-- and a start has it: all its nodes are leaves
leaves_plain : (xs : List ℤ) (n : ℕ) → halved (leaves xs) n ≡ false
unfolding node_at node_of leaf_node dummy_node
leaves_plain [] n = refl
leaves_plain (x ∷ xs) zero = refl
leaves_plain (x ∷ xs) (suc n) = leaves_plain xs n

pub new_plain : (xs : List ℤ) (ws : List ℕ) (first : ℕ) → Plain (new_build xs ws first)
unfolding new_build
new_plain xs ws first = record { among = λ n h. absurd (false≢true (sym (leaves_plain xs n) ∙ h)); last = λ w. tt }
