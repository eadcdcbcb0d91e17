-- The tests of an encode by the words: what is asked, which case it is, what is already defined.
use mathlib.Core.Path.{◌≡◌, refl, sym, ap, ap₂, ◌∙◌}
use mathlib.Core.Logic.{◌≢◌}
use mathlib.Core.Bool.{Bool, true, false, cond, not, ◌&&◌, ◌||◌, false≢true}
use mathlib.Core.List.{List, [], ◌∷◌, ◌++◌, map, append-nil}
use Prim.Native.Nat.{ℕ, ◌≤◌, ◌<◌}
use native.Mathlib.Omega.{arith}
use lib.Dec.{eqb, leb, ltb}
use lib.ListN.{get_or}
use lib.IntN.{ℤ}
use borrow.Author.Tests.{eqb-true, eqb-false, eq-eqb, ne_eqb, leb-true, leb-false, le-leb, lt-leb, ltb-false, le-ltb, lt-ltb}
use Rattle.std.specs.Prelude.{Result, Ok, Err}
use Rattle.rules.specs.declared.State.{State}
use Rattle.rules.specs.declared.Refusal.{Refusal}
use Rattle.rules.specs.declared.Refusal.TheVariants.{DivisorAbove}
use Rattle.rules.specs.Lists.{all, in_turn, rising}
use Rattle.rules.specs.Records.{Node, Output, Record, waiting, node_at, outputs}
use Rattle.rules.specs.Totalizer.{Arena, number_in, number_of, define_output}
use Rattle.rules.specs.Build.{Build, build_of, build_over, unbuilt, largest, root, root_node, output_weight, with_arena, restructured}
use Rattle.rules.specs.Buckets.{build_structure}
use Rattle.rules.specs.Refinement.{patched, merge_structures}
use Rattle.rules.specs.Encode.{prepared, root_values, encode_outputs, nothing_asked, encode, nothing_done, divisor_above}
use Rattle.laws.specs.Lists.Facts.{neither}
use Rattle.laws.specs.Records.Places.{nodes_same, waiting_none, outputs_append, outputs_of_waiting}
use Rattle.preserve.specs.Given.{set_positive, waiting_below}
use Rattle.preserve.specs.Encodes.{root_join}
use Rattle.records.specs.Carries.{Stores}
use Rattle.build_begin.proofs.Begin.{stored, tares_count, root_is}
use Rattle.encode_outputs.specs.declared.Range.{Range}
use Rattle.encode_outputs.specs.declared.Outputs.{Outputs}
use Rattle.encode_outputs.specs.Values.{values, all_defined}
use Rattle.encode_case.specs.declared.Case.{Case}
use Rattle.encode_case.specs.Case.{reaches, case_of}
use Rattle.encode_case.specs.Call.{Begins}
use Rattle.encode_case.proofs.Ways.{first_way, refined_way, stands, stands_built, built_is, encode_way}
use Rattle.encode_case.proofs.Idle.{all_idle, some_taken}

pub asked_yes : (s : State) (lo end : ℕ) → end ≤ lo → (store : List ℕ) → leb end lo ≡ nothing_asked (build_of s store) lo end
unfolding nothing_asked build_of build_over
asked_yes s lo end h store = let yes : leb end lo ≡ true = le-leb end lo h in yes ∙ sym (ap (λ (t : Bool). t || ltb s.inputs 2) yes)

pub asked_by : (s : State) (lo end : ℕ) → lo < end → (store : List ℕ) → ltb s.inputs 2 ≡ nothing_asked (build_of s store) lo end
unfolding nothing_asked build_of build_over
asked_by s lo end h store = sym (ap (λ (t : Bool). t || ltb s.inputs 2) (lt-leb end lo h))

pub asked_range : (b : Build) (lo end : ℕ) → nothing_asked b lo end ≡ false → lo < end
unfolding nothing_asked
asked_range b lo end e = leb-false end lo (neither (leb end lo) (ltb b.inputs 2) e).0

pub asked_two : (b : Build) (lo end : ℕ) → nothing_asked b lo end ≡ false → 2 ≤ b.inputs
unfolding nothing_asked
asked_two b lo end e = ltb-false b.inputs 2 (neither (leb end lo) (ltb b.inputs 2) e).1

-- Which case it is ------------------------------------------------------------------------------------------------------------------

-- a case by its tests
case_by : (b : Build) (t u : Bool) → divisor_above b ≡ t → reaches b ≡ u → case_of b ≡ cond t (Err DivisorAbove) (Ok (record { due = u; built = cond u b.set b.built }))
unfolding case_of
case_by b t u p q =
    ap₂ (λ (x y : Bool). by x y) p q
  where
    by : Bool → Bool → Result Case Refusal
    by x y = cond x (Err DivisorAbove) (Ok (record { due = y; built = cond y b.set b.built }))

module _ (s : State) (store : List ℕ) (x : ℕ) (is : x ≡ largest (build_of s store).queue) where
  abbrev here : Build
  here = build_of s store

  pub case_due : s.set ≤ x → Ok (record { due = true; built = s.set }) ≡ case_of here
  unfolding reaches divisor_above build_of build_over
  case_due h =
      let low : ltb (largest here.queue) s.set ≡ false = le-ltb (largest here.queue) s.set (omega (arith, is)) in
      let up : leb s.set (largest here.queue) ≡ true = le-leb s.set (largest here.queue) (omega (arith, is)) in
      sym (case_by here false true (ap (λ (y : Bool). unbuilt here && y) low ∙ none (unbuilt here)) up)
    where
      none : (t : Bool) → (t && false) ≡ false
      none true = refl
      none false = refl

  module _ (h : x < s.set) where
    low : reaches here ≡ false
    unfolding reaches build_of build_over
    low = lt-leb s.set (largest here.queue) (omega (arith, is))

    above_by : (t : Bool) → eqb s.built 0 ≡ t → divisor_above here ≡ t
    unfolding divisor_above unbuilt build_of build_over
    above_by t e =
        let high : ltb (largest here.queue) s.set ≡ true = lt-ltb (largest here.queue) s.set (omega (arith, is)) in
        ap₂ (λ (y z : Bool). y && z) e high ∙ only t
      where
        only : (t : Bool) → (t && true) ≡ t
        only true = refl
        only false = refl

    pub case_above : s.built ≡ 0 → Err DivisorAbove ≡ case_of here
    case_above z = sym (case_by here true false (above_by true (eq-eqb s.built 0 z)) low)

    pub case_left : s.built ≢ 0 → Ok (record { due = false; built = s.built }) ≡ case_of here
    unfolding build_of build_over
    case_left z = sym (case_by here false false (above_by false (ne_eqb s.built 0 z)) low)

-- what a case says of the build
pub record Found (b : Build) (case : Case) : Type 0 where
  pub not_above : divisor_above b ≡ false
  pub due_is : case.due ≡ reaches b
  pub built_is : case.built ≡ cond (reaches b) b.set b.built

pub case_found : (b : Build) (case : Case) → Ok case ≡ case_of b → Found b case
case_found b case e = go (divisor_above b) refl
  where
    here : Case
    here = record { due = reaches b; built = cond (reaches b) b.set b.built }

    go : (t : Bool) → divisor_above b ≡ t → Found b case
    go true p = let no : Ok case ≡ Err DivisorAbove = e ∙ case_by b true (reaches b) p refl in absurd (cc)
    go false p =
        let same : Ok case ≡ Ok here = e ∙ case_by b false (reaches b) p refl in
        let is : case ≡ here = cc in
        record { not_above = p; due_is = ap (λ (c : Case). c.due) is; built_is = ap (λ (c : Case). c.built) is }

-- and what its refusal does
pub case_refused : (b : Build) (r : Refusal) → Err r ≡ case_of b → (r ≡ DivisorAbove) × (divisor_above b ≡ true)
case_refused b r e = go (divisor_above b) refl
  where
    here : Case
    here = record { due = reaches b; built = cond (reaches b) b.set b.built }

    go : (t : Bool) → divisor_above b ≡ t → (r ≡ DivisorAbove) × (divisor_above b ≡ true)
    go true p = let same : Err r ≡ Err DivisorAbove = e ∙ case_by b true (reaches b) p refl in (cc, p)
    go false p = let no : Err r ≡ Ok here = e ∙ case_by b false (reaches b) p refl in absurd (cc)

-- the largest waiting weight is at least the set divisor
pub reaches_least : (s : State) (store : List ℕ) → reaches (build_of s store) ≡ true → s.set ≤ largest (build_of s store).queue
unfolding reaches build_of build_over
reaches_least s store r = leb-true s.set (largest (build_of s store).queue) r

-- What is left to do ----------------------------------------------------------------------------------------------------------------

module _ (s : State) (store : List ℕ) (clauses : List ℤ) (range : Range) (begins : Begins s store clauses range) where
  abbrev b : Build
  b = build_of s store

  abbrev lo : ℕ
  lo = range.lo

  abbrev end : ℕ
  end = range.end

  module _ (r : reaches b ≡ true) where
    due_built : (t : Bool) → unbuilt b ≡ t → (prepared b).built ≡ s.set
    unfolding build_of build_over build_structure merge_structures patched with_arena restructured
    due_built true e = ap (λ (p : Build). p.built) (first_way b e)
    due_built false e = ap (λ (p : Build). p.built) (refined_way b e r)

    -- the built divisor changes
    built_other : s.built ≢ s.set
    unfolding reaches build_of build_over
    built_other e = go (eqb s.built 0) refl
      where
        go : (t : Bool) → eqb s.built 0 ≡ t → ⊥
        go true p = omega (arith, eqb-true s.built 0 p, set_positive b begins.well.formed, e)
        go false p =
            let n : s.built ≢ 0 = eqb-false s.built 0 p in
            omega (arith, waiting_below b begins.well.formed n, (begins.well.formed.if_built n).power, e, leb-true s.set (largest b.queue) r)

  -- the built divisor afterwards
  pub built_after : (case : Case) → Ok case ≡ case_of b → case.built ≡ (prepared b).built
  unfolding build_of build_over
  built_after case e = (case_found b case e).built_is ∙ go (reaches b) refl
    where
      go : (t : Bool) → reaches b ≡ t → cond t s.set s.built ≡ (prepared b).built
      go true r = sym (due_built r (unbuilt b) refl)
      go false r = ap (λ (p : Build). p.built) (sym (stands b begins.reached r))

  pub due_busy : reaches b ≡ true → false ≡ nothing_done b (encode b lo end)
  unfolding nothing_done build_of build_over encode_outputs with_arena restructured
  due_busy r =
      let same : (encode b lo end).built ≡ (prepared b).built = ap (λ (c : Build). c.built) (encode_way b (prepared b) lo end begins.asked refl) in
      sym (ap (λ (t : Bool). t && eqb s.fresh (encode b lo end).arena.fresh)
      (ne_eqb s.built (encode b lo end).built (λ e. built_other r (e ∙ (same ∙ due_built r (unbuilt b) refl)))))

  module _ (low : reaches b ≡ false) where
    built : s.built ≢ 0
    built = built_is s store (stands_built b begins.reached low)

    way : encode b lo end ≡ encode_outputs b lo end
    way = encode_way b b lo end begins.asked (stands b begins.reached low)

    rs : List Record
    rs = b.arena.records ++ map waiting b.queue

    at_is : node_at rs ≡ node_at b.arena.records
    unfolding rs
    at_is = nodes_same b.arena.records (map waiting b.queue) (waiting_none b.queue)

    number_is : (n v : ℕ) → number_of rs n v ≡ number_of b.arena.records n v
    unfolding number_of rs
    number_is n v =
        ap (λ (os : List Output). number_in os n v) (outputs_append b.arena.records (map waiting b.queue) ∙
        (ap (λ (os : List Output). outputs b.arena.records ++ os) (outputs_of_waiting b.queue) ∙ append-nil (outputs b.arena.records)))

    defined_is : (n : ℕ) (vs : List ℕ) → all_defined rs n vs ≡ all_defined b.arena.records n vs
    unfolding all_defined all
    defined_is n [] = refl
    defined_is n (v ∷ vs) = ap₂ (λ (x : ℕ) (y : Bool). not (eqb x 0) && y) (number_is n v) (defined_is n vs)

    fresh_is : (r : Bool) → all_defined b.arena.records (root b) (root_values b lo end) ≡ r → r ≡ nothing_done b (encode b lo end)
    unfolding nothing_done encode_outputs with_arena restructured build_of
    fresh_is r e =
        go r e ∙ ap (λ (c : Build). eqb b.built c.built && eqb b.arena.fresh c.arena.fresh) (sym way)
      where
        end_arena : Arena
        end_arena = in_turn (λ s v. define_output s (root b) v) b.arena (root_values b lo end)

        same : eqb b.built b.built ≡ true
        same = eq-eqb b.built b.built refl

        go : (r : Bool) → all_defined b.arena.records (root b) (root_values b lo end) ≡ r → r ≡ (eqb b.built b.built && eqb b.arena.fresh end_arena.fresh)
        go true e =
            sym (ap₂ (λ (x y : Bool). x && y) same
            (eq-eqb b.arena.fresh end_arena.fresh (ap (λ (t : Arena). t.fresh) (sym (all_idle b.arena (root b) (root_values b lo end) e)))))
        go false e =
            let (half, l, r, k) = root_join b begins.well.formed built in
            let up : 1 ≤ (node_at b.arena.records (root b)).height = omega (arith, (begins.well.formed.sound (root b)).height_is half l r k) in
            let more : b.arena.fresh < end_arena.fresh = some_taken b.arena (root b) half l r k up (root_values b lo end) e in
            sym (ap₂ (λ (x y : Bool). x && y) same (ne_eqb b.arena.fresh end_arena.fresh (λ q. omega arith)))

    values_are : values (node_at b.arena.records (root b)).maximum s.tares_used lo end ≡ root_values b lo end
    unfolding values root_values output_weight root_node
    values_are =
        ap (λ (k : ℕ). values (node_at b.arena.records (root b)).maximum k lo end) (tares_count s store clauses begins.well)

    pub idle_by : (r : Bool) (most : ℕ) (v : Outputs) → ((qs : List Record) → Stores store s.records qs → most ≡ (node_at qs (get_or s.buckets 0 0)).maximum) →
        rising v.many v.first ≡ values most s.tares_used lo end →
        ((qs : List Record) → Stores store s.records qs → r ≡ all_defined qs (get_or s.buckets 0 0) (rising v.many v.first)) → r ≡ nothing_done b (encode b lo end)
    unfolding rs
    idle_by r most v em ev er =
        let top : most ≡ (node_at b.arena.records (root b)).maximum =
        em rs (stored s store clauses begins.well) ∙ ap₂ (λ (at : ℕ → Node) (n : ℕ). (at n).maximum) at_is (root_is s store clauses begins.well built) in
        let vs : rising v.many v.first ≡ root_values b lo end = ev ∙ (ap (λ (k : ℕ). values k s.tares_used lo end) top ∙ values_are) in
        fresh_is r (sym (er rs (stored s store clauses begins.well) ∙ (defined_is (get_or s.buckets 0 0) (rising v.many v.first) ∙
        ap₂ (λ (n : ℕ) (us : List ℕ). all_defined b.arena.records n us) (root_is s store clauses begins.well built) vs)))

    -- then what is reached is what stands
    stands_whole : nothing_done b (encode b lo end) ≡ true → encode b lo end ≡ b
    unfolding encode_outputs with_arena restructured
    stands_whole e =
        way ∙ ap (with_arena b) (all_idle b.arena (root b) (root_values b lo end)
        (fresh_is (all_defined b.arena.records (root b) (root_values b lo end)) refl ∙ e))

  -- an encode with nothing to do reaches what it finds
  pub unchanged : nothing_done b (encode b lo end) ≡ true → encode b lo end ≡ b
  unchanged e = go (reaches b) refl
    where
      go : (t : Bool) → reaches b ≡ t → encode b lo end ≡ b
      go true r = absurd (false≢true (due_busy r ∙ e))
      go false r = stands_whole r e
