-- The groups together are the clauses of well formed.
use mathlib.Core.Path.{◌≡◌, refl, sym, ◌∙◌}
use mathlib.Core.Bool.{Bool, true, false, cond, ◌&&◌}
use mathlib.Core.List.{List, [], ◌∷◌, ◌++◌}
use Prim.Native.Nat.{ℕ, zero, suc}
use lib.Dec.{eqb}
use lib.ListN.{get_or, drop}
use Rattle.rules.specs.declared.State.{State}
use Rattle.rules.specs.Lists.{all}
use Rattle.rules.specs.Records.{Record}
use Rattle.rules.specs.WellFormed.{tares_within, buckets_within, kinds_known, maxima_within, links_spare_buckets, entries_spare_buckets, inputs_within, waiting_within, waiting_maxima_within, waiting_lawful, waiting_below_built, unbuilt_clauses, built_clauses, clauses_over}
use Rattle.laws.specs.Records.Words.{both}
use Rattle.laws.specs.Lists.Facts.{and_true}
use Rattle.check_well_formed.specs.Groups.{hold, state_right_clauses, state_right, numbered_clauses, numbered, waiting_few_clauses, waiting_few, built_numbers_clauses, built_numbers, built_right_clauses, built_right, unbuilt_right, records_hold_clauses, records_hold}
use Rattle.check_well_formed.proofs.Distinct.{all_append}
use Rattle.check_well_formed.proofs.Clauses.{held_at}
use Rattle.check_arrays.proofs.Walk.{same_truth}

-- the clauses past the first n hold too
hold_drop : (n : ℕ) (cs : List Bool) → hold cs ≡ true → hold (drop n cs) ≡ true
unfolding hold all
hold_drop zero cs e = e
hold_drop (suc n) [] e = refl
hold_drop (suc n) (c ∷ cs) e = hold_drop n cs (both c (hold cs) e).1

module _ (s : State) (rs : List Record) where
  -- what built and unbuilt mean
  when_split : (b : Bool) → hold (cond b (unbuilt_clauses s rs) (built_clauses s rs)) ≡ true →
      (cond b true (waiting_below_built s rs) ≡ true) × (cond b (unbuilt_right s rs) (built_right s rs) ≡ true)
  unfolding hold all unbuilt_right built_right built_right_clauses built_numbers built_numbers_clauses built_clauses
  when_split true e = (refl, e)
  when_split false e =
      let at : (i : ℕ) → get_or (built_clauses s rs) i true ≡ true = held_at (built_clauses s rs) e in (
        at 8,
        and_true (and_true (at 0) (and_true (at 1) (and_true (at 2) (and_true (at 3) (and_true (at 4) (and_true (at 5) refl))))))
            (and_true (at 6) (and_true (at 7) refl)),
      )

  when_join : (b : Bool) → cond b true (waiting_below_built s rs) ≡ true → cond b (unbuilt_right s rs) (built_right s rs) ≡ true →
      hold (cond b (unbuilt_clauses s rs) (built_clauses s rs)) ≡ true
  unfolding hold all unbuilt_right built_right built_right_clauses built_numbers built_numbers_clauses built_clauses
  when_join true w e = e
  when_join false w e =
      let at : (i : ℕ) → get_or (built_right_clauses s rs) i true ≡ true = held_at (built_right_clauses s rs) e in
      let of : (i : ℕ) → get_or (built_numbers_clauses s) i true ≡ true = held_at (built_numbers_clauses s) (at 0) in
      and_true (of 0) (and_true (of 1) (and_true (of 2) (and_true (of 3) (and_true (of 4) (and_true (of 5) (and_true (at 1) (and_true (at 2) (
      and_true w refl))))))))

  -- the clauses that follow those of built and unbuilt
  later : List Bool
  later =
      maxima_within rs ∷
      links_spare_buckets s rs ∷
      entries_spare_buckets s rs ∷
      inputs_within s ∷
      waiting_within rs ∷
      waiting_maxima_within rs ∷
      waiting_lawful rs ∷ []

  there : hold (clauses_over s rs) ≡ true → (state_right s && (kinds_known rs && records_hold s rs)) ≡ true
  unfolding hold all clauses_over later state_right state_right_clauses records_hold records_hold_clauses numbered numbered_clauses waiting_few waiting_few_clauses
  there e =
      let at : (i : ℕ) → get_or (clauses_over s rs) i true ≡ true = held_at (clauses_over s rs) e in
      let (when, more) = both (hold (cond (eqb s.built 0) (unbuilt_clauses s rs) (built_clauses s rs))) (hold later)
      (sym (all_append (λ c. c) (cond (eqb s.built 0) (unbuilt_clauses s rs) (built_clauses s rs)) later) ∙ hold_drop 20 (clauses_over s rs) e) in
      let of : (i : ℕ) → get_or later i true ≡ true = held_at later more in
      let (below, built) = when_split (eqb s.built 0) when in
      and_true
      (and_true (and_true (at 0) (at 1)) (and_true (at 2) (and_true (at 3) (and_true (at 4) (and_true (at 19) (and_true (of 3) refl))))))
      (and_true (at 5)
      (and_true (at 6)
      (and_true
      (and_true (at 7) (and_true (at 8) (and_true (at 9) (and_true (at 10) (and_true (at 11) (and_true (at 12) (and_true (at 13) (and_true (at 14) (
      and_true (at 15) (and_true (at 16) (and_true (at 17) (and_true (at 18) (and_true (of 0) (and_true (of 1) (and_true (of 2) (and_true (of 6) (
      and_true below refl)))))))))))))))))
      (and_true (and_true (of 4) (and_true (of 5) refl)) (and_true built refl)))))

  back : (state_right s && (kinds_known rs && records_hold s rs)) ≡ true → hold (clauses_over s rs) ≡ true
  unfolding hold all clauses_over later state_right state_right_clauses records_hold records_hold_clauses numbered numbered_clauses waiting_few waiting_few_clauses
  back e =
      let (first, more) = both (state_right s) (kinds_known rs && records_hold s rs) e in
      let (known, records) = both (kinds_known rs) (records_hold s rs) more in
      let st : (i : ℕ) → get_or (state_right_clauses s) i true ≡ true = held_at (state_right_clauses s) first in
      let (tares, buckets) = both (tares_within s) (buckets_within s) (st 0) in
      let re : (i : ℕ) → get_or (records_hold_clauses s rs) i true ≡ true = held_at (records_hold_clauses s rs) records in
      let nu : (i : ℕ) → get_or (numbered_clauses s rs) i true ≡ true = held_at (numbered_clauses s rs) (re 1) in
      let wa : (i : ℕ) → get_or (waiting_few_clauses rs) i true ≡ true = held_at (waiting_few_clauses rs) (re 2) in
      let end : hold (cond (eqb s.built 0) (unbuilt_clauses s rs) (built_clauses s rs) ++ later) ≡ true =
      all_append (λ c. c) (cond (eqb s.built 0) (unbuilt_clauses s rs) (built_clauses s rs)) later ∙
      and_true (when_join (eqb s.built 0) (nu 16) (re 3)) (and_true (nu 12) (and_true (nu 13) (and_true (nu 14) (and_true (st 5) (and_true (wa 0) (
      and_true (wa 1) (and_true (nu 15) refl))))))) in
      and_true tares (and_true buckets (and_true (st 1) (and_true (st 2) (and_true (st 3) (and_true known (and_true (re 0) (and_true (nu 0) (and_true (nu 1) (
      and_true (nu 2) (and_true (nu 3) (and_true (nu 4) (and_true (nu 5) (and_true (nu 6) (and_true (nu 7) (and_true (nu 8) (and_true (nu 9) (
      and_true (nu 10) (and_true (nu 11) (and_true (st 4) end)))))))))))))))))))

  pub regroup : (state_right s && (kinds_known rs && records_hold s rs)) ≡ all (λ c. c) (clauses_over s rs)
  unfolding hold
  regroup = same_truth (state_right s && (kinds_known rs && records_hold s rs)) (hold (clauses_over s rs)) back there
