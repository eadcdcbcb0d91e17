-- What encode reaches fits exactly where refusal 7 does not hold.
use mathlib.Core.Path.{◌≡◌, refl, sym, ap₂, ◌∙◌, subst}
use mathlib.Core.Bool.{Bool, true, false, ◌||◌}
use mathlib.Core.List.{List}
use Prim.Native.Nat.{ℕ, suc, ◌≤◌, ◌<◌}
use native.Mathlib.Omega.{arith}
use lib.Dec.{ltb}
use lib.ListN.{length, length-append, take}
use lib.Seq.{length-take-le}
use lib.IntN.{ℤ}
use borrow.Author.Tests.{ltb-false, le-ltb}
use Rattle.rules.specs.Numbers.{capacity, most_variable}
use Rattle.rules.specs.Records.{Record}
use Rattle.rules.specs.Totalizer.{Arena}
use Rattle.rules.specs.Build.{Build, records, clause_words, clause_mark}
use Rattle.rules.specs.Encode.{no_room}
use Rattle.records.specs.Carries.{Held, st, written, Fits, peak, with_records}
use Rattle.records.proofs.Small.{room_fits, fits_room, peak_sound}
use Rattle.preserve.specs.Sounds.{Sounds}
use Rattle.encode_outputs.specs.Taken.{with_waiting}

module _ (store : List ℕ) (clauses : List ℤ) (m : Held) (c : Build) (before : c.words_before ≡ m.words) (inside : m.words ≤ length clauses) where
  abbrev end : Arena
  end = with_waiting c.queue c.arena

  end_records : end.records ≡ records c
  unfolding with_waiting with_records records
  end_records = refl

  end_fresh : end.fresh ≡ c.arena.fresh
  unfolding with_waiting with_records
  end_fresh = refl

  pub end_words : length (written (st store clauses m) end) ≡ clause_mark c
  unfolding with_waiting with_records written clause_mark
  end_words =
      omega (arith, length-append (take m.words clauses) (clause_words c.arena.clauses), length-take-le m.words clauses inside, before)

  within : length (records c) ≤ capacity store → length (records c) ≤ 4294967296
  unfolding capacity
  within h = omega arith

  -- no room where it does not fit
  pub no_room_full : (Fits (st store clauses m) end → ⊥) → (c.arena.fresh ≤ 1000000001 → Sounds (records c)) → no_room c store clauses ≡ true
  unfolding no_room
  no_room_full nay sound = go (ltb (capacity store) (length (records c))) refl (ltb (length clauses) (clause_mark c)) refl (ltb (suc most_variable) c.arena.fresh) refl
    where
      go : (x : Bool) → ltb (capacity store) (length (records c)) ≡ x → (y : Bool) → ltb (length clauses) (clause_mark c) ≡ y → (z : Bool) →
          ltb (suc most_variable) c.arena.fresh ≡ z → ((x || y) || z) ≡ true
      go true p y q z r = refl
      go false p true q z r = refl
      go false p false q true r = refl
      go false p false q false r =
          let few : length (records c) ≤ capacity store = ltb-false _ _ p in
          absurd (nay (room_fits (st store clauses m) end (subst (λ (rs : List Record). length rs ≤ capacity store) (sym end_records) few)
          (omega (arith, end_words, ltb-false (length clauses) (clause_mark c) q)) (omega (arith, end_fresh, ltb-false (suc most_variable) c.arena.fresh r))
          (subst (λ (rs : List Record). peak rs < 4294967296) (sym end_records) (peak_sound (records c) (sound (ltb-false _ _ r)) (within few)))))

  -- room where it fits
  pub room_fit : Fits (st store clauses m) end → no_room c store clauses ≡ false
  unfolding no_room
  room_fit f =
      let a : ltb (capacity store) (length (records c)) ≡ false =
      le-ltb _ _ (subst (λ (rs : List Record). length rs ≤ capacity store) end_records (fits_room (st store clauses m) end f)) in
      let b : ltb (length clauses) (clause_mark c) ≡ false = le-ltb (length clauses) (clause_mark c) (omega (arith, end_words, f.words_fit)) in
      let d : ltb (suc most_variable) c.arena.fresh ≡ false = le-ltb (suc most_variable) c.arena.fresh (omega (arith, end_fresh, f.fresh_fit)) in
      ap₂ (λ (x y : Bool). (x || y) || ltb (suc most_variable) c.arena.fresh) a b ∙ d
