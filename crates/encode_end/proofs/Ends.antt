-- The order of encode's refusals, and what each end leaves.
use mathlib.Core.Path.{◌≡◌, refl, sym, ap, ap₂, ◌∙◌}
use mathlib.Core.Bool.{Bool, true, false, not, ◌&&◌, ◌||◌}
use mathlib.Core.List.{List, [], ◌∷◌}
use Prim.Native.Nat.{ℕ, suc, ◌+◌, ◌≤◌, ◌<◌}
use native.Mathlib.Omega.{arith}
use lib.Dec.{ltb}
use lib.ListN.{length}
use lib.IntN.{ℤ}
use borrow.Author.Tests.{le-ltb, lt-ltb}
use Rattle.rules.specs.declared.State.{State}
use Rattle.rules.specs.Numbers.{capacity, most_variable}
use Rattle.rules.specs.Refusals.{first_true}
use Rattle.rules.specs.Build.{records, clause_words, clause_mark, build_of, build_over}
use Rattle.rules.specs.WellFormed.{well_formed, not_well_formed}
use Rattle.rules.specs.Encode.{EncodeEnd, nothing_asked, nothing_done, work_short, divisor_above, no_room, encode_refusal, untouched, no_room_end, encoded_end, encode_end, encode_ub_change}
use Rattle.laws.specs.WellFormed.Plain.{WellFormed}
use Rattle.build_begin.proofs.Begin.{all_count}
use Rattle.encode_case.specs.Call.{Call, found, reached, ended}

module _ (k : Call) where
  formed : Bool
  formed = well_formed k.s k.store k.clauses

  -- the test of refusal 10
  tenth : Bool
  tenth = not (nothing_asked (found k) k.range.lo k.range.end) && divisor_above (found k)

  full : Bool
  full = no_room (reached k) k.store k.clauses

  -- nothing is written
  abbrev pub plain : ℕ → EncodeEnd
  plain n = untouched n k.s k.store k.clauses k.work

  end_by : ℕ → EncodeEnd
  end_by n = encode_end n k.s (found k) (reached k) k.store k.clauses k.work

  -- the tests by their results
  ends : (f w d r : Bool) → formed ≡ f → work_short k.work ≡ w → tenth ≡ d → full ≡ r → end_by (first_true ((12, not f) ∷ (6, w) ∷ (10, d) ∷ (7, r) ∷ [])) ≡ ended k
  unfolding formed tenth full end_by encode_ub_change encode_refusal not_well_formed
  ends f w d r pf pw pd pr =
      sym (ap₂ (λ (x y : Bool). end_by (first_true ((12, not x) ∷ (6, y) ∷ (10, tenth) ∷ (7, full) ∷ []))) pf pw ∙
      ap₂ (λ (x y : Bool). end_by (first_true ((12, not f) ∷ (6, w) ∷ (10, x) ∷ (7, y) ∷ []))) pd pr)

  pub refused_12 : well_formed k.s k.store k.clauses ≡ false → plain 12 ≡ ended k
  unfolding formed end_by first_true encode_end
  refused_12 p = ends false (work_short k.work) tenth full p refl refl refl

  pub refused_6 : well_formed k.s k.store k.clauses ≡ true → length k.work < 16384 → plain 6 ≡ ended k
  unfolding formed end_by first_true encode_end work_short
  refused_6 p h = ends true true tenth full p (lt-ltb (length k.work) 16384 h) refl refl

  module _ (good : well_formed k.s k.store k.clauses ≡ true) (long : 16384 ≤ length k.work) where
    not_short : work_short k.work ≡ false
    unfolding work_short
    not_short = le-ltb (length k.work) 16384 long

    pub refused_10 : nothing_asked (found k) k.range.lo k.range.end ≡ false → divisor_above (found k) ≡ true → plain 10 ≡ ended k
    unfolding formed tenth end_by first_true encode_end
    refused_10 a d = ends true false true full good not_short (ap₂ (λ (x y : Bool). not x && y) a d) refl

    module _ (d : (not (nothing_asked (found k) k.range.lo k.range.end) && divisor_above (found k)) ≡ false) where
      pub refused_7 : no_room (reached k) k.store k.clauses ≡ true → no_room_end k.s k.store k.clauses k.work ≡ ended k
      unfolding formed tenth full end_by first_true encode_end
      refused_7 r = ends true false false true good not_short d r

      accepted : no_room (reached k) k.store k.clauses ≡ false → end_by 0 ≡ ended k
      unfolding formed tenth full first_true
      accepted r = ends true false false false good not_short d r

      pub accepted_idle : no_room (reached k) k.store k.clauses ≡ false → nothing_done (found k) (reached k) ≡ true → plain 0 ≡ ended k
      unfolding end_by encode_end
      accepted_idle r n =
          sym (ap (λ (t : Bool). elim t [ true ↦ plain 0 | false ↦ encoded_end k.s (reached k) k.store k.clauses k.work ]) n) ∙ accepted r

      pub accepted_done : no_room (reached k) k.store k.clauses ≡ false → nothing_done (found k) (reached k) ≡ false →
          encoded_end k.s (reached k) k.store k.clauses k.work ≡ ended k
      unfolding end_by encode_end
      accepted_done r n =
          sym (ap (λ (t : Bool). elim t [ true ↦ plain 0 | false ↦ encoded_end k.s (reached k) k.store k.clauses k.work ]) n) ∙ accepted r

-- a well formed build has room for itself
pub self_room : (s : State) (store : List ℕ) (clauses : List ℤ) → WellFormed s store clauses → no_room (build_of s store) store clauses ≡ false
unfolding no_room clause_mark clause_words build_of build_over
self_room s store clauses w =
    let count : length (records (build_of s store)) ≡ s.records = all_count s store clauses w in
    ap₂ (λ (x y : Bool). (x || y) || ltb (suc most_variable) s.fresh)
    (le-ltb (capacity store) (length (records (build_of s store))) (omega (arith, count, w.records_within)))
    (le-ltb (length clauses) (s.words + 0) (omega (arith, w.words_within))) ∙ le-ltb (suc most_variable) s.fresh w.formed.fresh_few
