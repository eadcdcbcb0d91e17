-- What a rule needs grows: records, clause words, the next number, maxima and heights.
use mathlib.Core.Path.{◌≡◌, refl}
use mathlib.Core.Bool.{Bool, true, false}
use mathlib.Core.Logic.{◌⊎◌, inl, inr}
use mathlib.Core.List.{List, [], ◌∷◌, ◌++◌}
use Prim.Native.Nat.{ℕ, suc, ◌*◌, ◌≤◌, max}
use native.Mathlib.Omega.{arith}
use lib.Dec.{leb}
use lib.ListN.{length, take, length-append}
use lib.IntN.{ℤ}
use borrow.Author.Tests.{leb-true, leb-false}
use Rattle.rules.specs.Records.{Record}
use Rattle.rules.specs.Totalizer.{Arena}
use Rattle.rules.specs.Build.{clause_words}
use Rattle.records.specs.Carries.{St, store_of, buffer_of, marks_of, written, peak, Fits, with_records, with_record}

-- u needs at least what t needs
pub record Grows (t u : Arena) : Type 0 where
  pub records_grow : length t.records ≤ length u.records
  pub words_grow : length (clause_words t.clauses) ≤ length (clause_words u.clauses)
  pub fresh_grow : t.fresh ≤ u.fresh
  pub sizes_grow : peak t.records ≤ peak u.records

pub grows_self : (t : Arena) → Grows t t
grows_self t = record { records_grow = omega arith; words_grow = omega arith; fresh_grow = omega arith; sizes_grow = omega arith }

pub grows_trans : (t u w : Arena) → Grows t u → Grows u w → Grows t w
grows_trans t u w f g = record {
  records_grow = omega (arith, f.records_grow, g.records_grow);
  words_grow = omega (arith, f.words_grow, g.words_grow);
  fresh_grow = omega (arith, f.fresh_grow, g.fresh_grow);
  sizes_grow = omega (arith, f.sizes_grow, g.sizes_grow);
}

-- what the whole needs, a part of the work needs
pub fits_less : (e : St) (t u : Arena) → Grows t u → Fits e u → Fits e t
unfolding written
fits_less e t u g f =
    let used : List ℤ = take (marks_of e).words (buffer_of e) in
    record {
      records_fit = omega (arith, g.records_grow, f.records_fit);
      words_fit = omega (arith, g.words_grow, f.words_fit, length-append used (clause_words t.clauses), length-append used (clause_words u.clauses));
      fresh_fit = omega (arith, g.fresh_grow, f.fresh_fit);
      places_fit = omega (arith, g.records_grow, f.places_fit);
      sizes_fit = omega (arith, g.sizes_grow, f.sizes_fit);
    }

-- an order of two numbers holds or not
pub le_or : (a b : ℕ) → (a ≤ b) ⊎ (a ≤ b → ⊥)
le_or a b = go (leb a b) refl
  where
    go : (x : Bool) → leb a b ≡ x → (a ≤ b) ⊎ (a ≤ b → ⊥)
    go true p = inl (leb-true a b p)
    go false p = inr (λ q. omega (arith, leb-false a b p))

-- an arena fits or not
pub fits_or : (e : St) (t : Arena) → Fits e t ⊎ (Fits e t → ⊥)
fits_or e t =
    go (le_or (8 * length t.records) (length (store_of e))) (le_or (length (written e t)) (length (buffer_of e))) (le_or t.fresh 1000000001)
    (le_or (length t.records) 4294967296) (le_or (suc (peak t.records)) 4294967296)
  where
    go : ((8 * length t.records ≤ length (store_of e)) ⊎ (8 * length t.records ≤ length (store_of e) → ⊥)) →
        ((length (written e t) ≤ length (buffer_of e)) ⊎ (length (written e t) ≤ length (buffer_of e) → ⊥)) →
        ((t.fresh ≤ 1000000001) ⊎ (t.fresh ≤ 1000000001 → ⊥)) →
        ((length t.records ≤ 4294967296) ⊎ (length t.records ≤ 4294967296 → ⊥)) →
        ((suc (peak t.records) ≤ 4294967296) ⊎ (suc (peak t.records) ≤ 4294967296 → ⊥)) → Fits e t ⊎ (Fits e t → ⊥)
    go (inl a) (inl b) (inl c) (inl d) (inl x) =
        inl (record { records_fit = a; words_fit = b; fresh_fit = c; places_fit = d; sizes_fit = omega arith })
    go (inl a) (inl b) (inl c) (inl d) (inr x) = inr (λ f. x (omega (arith, f.sizes_fit)))
    go (inl a) (inl b) (inl c) (inr d) x = inr (λ f. d f.places_fit)
    go (inl a) (inl b) (inr c) d x = inr (λ f. c f.fresh_fit)
    go (inl a) (inr b) c d x = inr (λ f. b f.words_fit)
    go (inr a) b c d x = inr (λ f. a f.records_fit)

pub peak_append : (rs qs : List Record) → peak (rs ++ qs) ≡ max (peak rs) (peak qs)
unfolding peak
peak_append [] qs = omega arith
peak_append (r ∷ rs) qs = let e : peak (rs ++ qs) ≡ max (peak rs) (peak qs) = peak_append rs qs in omega arith

-- records that only gain some at the end need more
pub records_more : (t : Arena) (rs : List Record) → Grows t (with_records t (t.records ++ rs))
unfolding with_records
records_more t rs = record {
  records_grow = omega (arith, length-append t.records rs);
  words_grow = omega arith;
  fresh_grow = omega arith;
  sizes_grow = omega (arith, peak_append t.records rs);
}

pub record_grows : (r : Record) (t : Arena) → Grows t (with_record r t)
unfolding with_record
record_grows r t = records_more t (r ∷ [])
