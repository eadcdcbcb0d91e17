-- What is carried over an entry changed in place is held over the entry itself.
use mathlib.Core.Path.{◌≡◌, refl, sym, ap, ap₂, ◌∙◌, subst}
use mathlib.Core.List.{List, ◌++◌}
use Prim.Native.Nat.{ℕ, ◌+◌, ◌*◌, ◌-◌, ◌/◌, ◌≤◌, ◌<◌}
use native.Mathlib.Omega.{arith}
use lib.ListN.{length, get_or, take, drop}
use lib.Seq.{drop-drop, get_or-take}
use lib.IntN.{ℤ}
use Rattle.rules.specs.Records.{image_of}
use Rattle.rules.specs.Totalizer.{Arena}
use Rattle.rules.specs.Build.{clause_words}
use Rattle.laws.specs.Lists.Facts.{occurs}
use Rattle.laws.specs.Records.Words.{image_length}
use Rattle.records.specs.Carries.{Held, St, store_of, marks_of, written, Fits, Holds, Carries}
use Rattle.records_words.specs.Words.{laid}
use Rattle.refine_structure.specs.Based.{Based}

pub based_self : (bs : List ℕ) (e : St) (n : ℕ) → Based bs e e n
based_self bs e n = record { same_marks = refl; same_buffer = refl; same_length = refl; rest = refl; others = λ i h k. refl }

module _ (bs : List ℕ) (e e' : St) (n : ℕ) (b : Based bs e e' n) (u : Arena) where
  written_same : written e' u ≡ written e u
  unfolding written
  written_same =
      ap₂ (λ (m : Held) (c : List ℤ). take m.words c ++ clause_words u.clauses) b.same_marks b.same_buffer

  pub based_fits : Fits e u → Fits e' u
  based_fits f = record {
    records_fit = omega (arith, f.records_fit, b.same_length);
    words_fit = omega (arith, f.words_fit, ap length written_same, ap length b.same_buffer);
    fresh_fit = f.fresh_fit;
    places_fit = f.places_fit;
    sizes_fit = f.sizes_fit;
  }

  pub fits_based : Fits e' u → Fits e u
  fits_based f = record {
    records_fit = omega (arith, f.records_fit, b.same_length);
    words_fit = omega (arith, f.words_fit, ap length written_same, ap length b.same_buffer);
    fresh_fit = f.fresh_fit;
    places_fit = f.places_fit;
    sizes_fit = f.sizes_fit;
  }

  past : n ≤ length u.records → drop (8 * length u.records) (store_of e') ≡ drop (8 * length u.records) (store_of e)
  past h =
      let k : 8 * length u.records ≡ 8 * n + (8 * length u.records - 8 * n) = omega arith in
      let far : (s : List ℕ) → drop (8 * length u.records) s ≡ drop (8 * length u.records - 8 * n) (drop (8 * n) s) = λ s.
      ap (λ (j : ℕ). drop j s) k ∙ sym (drop-drop (8 * length u.records - 8 * n) (8 * n) s) in
      far (store_of e') ∙ (ap (drop (8 * length u.records - 8 * n)) b.rest ∙ sym (far (store_of e)))

  pub based_holds : (τ : St) → n ≤ length u.records → Holds e' τ u → Holds e τ u
  unfolding laid
  based_holds τ h d =
      let image : length (image_of u.records) ≡ 8 * length u.records = image_length u.records in
      let tail : drop (length (image_of u.records)) (store_of e') ≡ drop (length (image_of u.records)) (store_of e) =
      ap (λ (j : ℕ). drop j (store_of e')) image ∙ (past h ∙ ap (λ (j : ℕ). drop j (store_of e)) (sym image)) in
      record {
        store_is = d.store_is ∙ ap (λ s. image_of u.records ++ s) tail;
        buffer_is = d.buffer_is ∙ ap₂ laid written_same b.same_buffer;
        records_is = d.records_is;
        words_is = d.words_is ∙ ap length written_same;
        fresh_is = d.fresh_is;
        clauses_is = d.clauses_is ∙ ap (λ (m : Held). m.clauses + length u.clauses) b.same_marks;
        not_full = d.not_full;
        records_low = subst (λ (m : Held). m.records ≤ length u.records) b.same_marks d.records_low;
        words_low = subst (λ (m : Held). m.words ≤ length (written e u)) b.same_marks (subst (λ (w : List ℤ). (marks_of e').words ≤ length w) written_same d.words_low);
        count_low = d.count_low;
      }

  -- of the words that the entry used only the buckets' differ
  pub based_kept : (τ : St) → Carries e' τ u → (i : ℕ) → i < 8 * (marks_of e).records → occurs (i / 8) bs ≡ 0 → get_or (store_of τ) i 0 ≡ get_or (store_of e) i 0
  based_kept τ c i h k =
      let m : 8 * (marks_of e').records ≡ 8 * (marks_of e).records = ap (λ (m : Held). 8 * m.records) b.same_marks in
      let front : (s : List ℕ) → get_or s i 0 ≡ get_or (take (8 * (marks_of e').records) s) i 0 = λ s. sym (get_or-take (8 * (marks_of e').records) s i 0 (omega arith)) in
      front (store_of τ) ∙ (ap (λ s. get_or s i 0) c.kept_store ∙ (sym (front (store_of e')) ∙ b.others i h k))
