-- The answers of the reading calls, with the test of well formed in front.
use mathlib.Core.Path.{◌≡◌, refl, ap, ◌∙◌}
use mathlib.Core.Bool.{Bool, true, false, not, cond, ◌&&◌}
use mathlib.Core.List.{List, [], ◌∷◌}
use Prim.Native.Nat.{ℕ, ◌^◌}
use lib.Dec.{eqb, ltb}
use lib.IntN.{ℤ}
use lib.ListN.{length}
use Rattle.rules.specs.declared.State.{State}
use Rattle.rules.specs.declared.Set.{Set}
use Rattle.std.specs.Prelude.{Result, Ok, Err}
use Rattle.rules.specs.declared.Refusal.{Refusal}
use Rattle.rules.specs.declared.Refusal.TheVariants.{NotWellFormed}
use Rattle.rules.specs.Numbers.{divisor_of}
use Rattle.rules.specs.Digits.{top_bit}
use Rattle.rules.specs.Records.{entries}
use Rattle.rules.specs.Refusals.{first_true, divisor_unlawful}
use Rattle.rules.specs.Build.{held, build_of, build_over, unbuilt, largest, some_wait, output_weight, tares_of}
use Rattle.rules.specs.WellFormed.{well_formed, not_well_formed}
use Rattle.rules.specs.Precision.{set_end, set_refusal, divisor_coarser, set_precision, next_precision, is_max_precision}
use Rattle.rules.specs.Coarse.{coarse_at, coarse, coarse_ub}

module _ (s : State) (store : List ℕ) (clauses : List ℤ) where
  pub set_answer : (b : Bool) → b ≡ well_formed s store clauses → (divisor : ℕ) (r : Set) →
      r ≡ set_end (first_true (
      (12, not b) ∷
      (8, divisor_unlawful divisor) ∷
      (9, not (eqb s.built 0) && ltb s.set (divisor_of divisor)) ∷ [])) s divisor → r ≡ set_precision s store clauses divisor
  unfolding set_precision set_refusal not_well_formed divisor_coarser build_of build_over unbuilt
  set_answer b test divisor r e =
      e ∙
      ap (λ (t : Bool). set_end (first_true (
      (12, not t) ∷
      (8, divisor_unlawful divisor) ∷
      (9, not (eqb s.built 0) && ltb s.set (divisor_of divisor)) ∷ [])) s divisor) test

  module _ (r : Refusal) (refused : (r ≡ NotWellFormed) × (well_formed s store clauses ≡ false)) where
    pub next_refused : Err r ≡ next_precision s store clauses
    unfolding next_precision
    next_refused = rw (refused.0, refused.1, next_precision) refl

    pub max_refused : Err r ≡ is_max_precision s store clauses
    unfolding is_max_precision
    max_refused = rw (refused.0, refused.1, is_max_precision) refl

    pub coarse_refused : (u : ℕ) → Err r ≡ coarse_ub s store clauses u
    unfolding coarse_ub
    coarse_refused u = rw (refused.0, refused.1, coarse_ub) refl

  module _ (formed : well_formed s store clauses ≡ true) where
    pub next_answer : (d : ℕ) → d ≡ 2 ^ top_bit (largest (entries (held s store))) → Ok d ≡ next_precision s store clauses
    unfolding next_precision build_of build_over
    next_answer d p = rw (formed, p, next_precision) refl

    max_of : (w : Bool) → ◌≡◌ {A = Result Bool Refusal} (Ok (not w)) (elim w [ true ↦ Ok false | false ↦ Ok true ])
    max_of true = refl
    max_of false = refl

    pub max_answer : (w : Bool) → w ≡ some_wait (entries (held s store)) → Ok (not w) ≡ is_max_precision s store clauses
    unfolding is_max_precision build_of build_over
    max_answer w p = rw (formed, ← p, is_max_precision) (max_of w)

    pub coarse_answer : (u x : ℕ) → length (tares_of s) ≡ s.tares_used → x ≡ cond (eqb s.built 0) u (coarse_at (2 ^ s.tares_used) u) →
        Ok x ≡ coarse_ub s store clauses u
    unfolding coarse_ub coarse build_of build_over unbuilt output_weight
    coarse_answer u x n p = rw (formed, n, p, coarse_ub) refl
