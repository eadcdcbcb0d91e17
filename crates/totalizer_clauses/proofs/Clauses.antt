-- The clauses of the pairs, and then the number: one law for each way.
use Rattle.std.specs.Prelude.{Option}
use mathlib.Core.Path.{◌≡◌, refl, ap, ap₂, ◌∙◌}
use mathlib.Core.Bool.{Bool, true, false}
use mathlib.Core.List.{List, [], ◌∷◌, ◌++◌}
use Prim.Native.Nat.{ℕ, ◌+◌, ◌*◌, ◌-◌, ◌<◌}
use native.Mathlib.Omega.{arith}
use lib.IntN.{ℤ, pos}
use Rattle.rules.specs.Records.{Record, literal_word, word_literal}
use Rattle.rules.specs.Totalizer.{Arena, asks, pairs_from, side, clause, write, take_number}
use Rattle.laws.specs.Records.Words.{literal_word_literal}
use Rattle.records_clauses.specs.Clauses.{side_of, with_clause, clause_of}
use Rattle.totalizer_find.specs.Found.{side_word}
use Rattle.totalizer_find.proofs.Walk.{side_read}
use Rattle.records.specs.Carries.{Held, ended, St, st, marks_of, Steps, Stores}
use Rattle.records_clauses.proofs.Clause.{clause_grows}
use Rattle.records.proofs.Step.{steps_then, stop, filled, held, Rest, rest_turn, rest_full}
use Rattle.totalizer_clauses.proofs.Growth.{write_grows, finish_grows}
use Rattle.totalizer_clauses.proofs.PairWalk.{write_turn}

-- Clauses -----------------------------------------------------------------------------------------------------------------

module _ (s : List ℕ) (c : List ℤ) (m : Held) (half : Bool) (l r a b number : ℕ) where
  pub clause_stop : m.full ≡ true → Steps (st s c m) (st s c m) (λ t. with_clause (clause t.records half l r number (a, b)) t)
  clause_stop k =
      stop (st s c m) (λ t. with_clause (clause t.records half l r number (a, b)) t) (λ t. clause_grows (clause t.records half l r number (a, b)) t) k

  pub clause_done : (τ : St) (p q : Option ℕ) (y o : ℕ) → m.full ≡ false →
      ((rs : List Record) → Stores s m.records rs → p ≡ side_word (side rs l a)) → y ≡ asks half b →
      ((rs : List Record) → Stores s m.records rs → q ≡ side_word (side rs r y)) → o ≡ literal_word (pos number) →
      Steps (st s c m) τ (with_clause (clause_of p q o)) → Steps (st s c m) τ (λ t. with_clause (clause t.records half l r number (a, b)) t)
  unfolding clause clause_of
  clause_done τ p q y o k ep ey eq eo z =
      held s c m τ (λ t. with_clause (clause t.records half l r number (a, b)) t) k (λ t h e. (
        with_clause (clause_of p q o),
        z,
        ap (λ (x : List ℤ). with_clause x t)
            (ap₂ (λ (x y : List ℤ). x ++ (y ++ (word_literal o ∷ []))) (ap side_of (ep t.records h) ∙ side_read t.records l a) (ap side_of (eq t.records h) ∙ (side_read t.records r y ∙ ap (side t.records r) ey)) ∙
            ap (λ (x : ℤ). side t.records l a ++ (side t.records r (asks half b) ++ (x ∷ []))) (ap word_literal eo ∙ literal_word_literal (pos number))),
      ))

pub clauses_turn : (σ₀ σ τ : St) (f : Arena → Arena) (half : Bool) (l r number end a v : ℕ) → a < end →
    Steps σ τ (λ t. with_clause (clause t.records half l r number (a, v - a)) t) →
    Rest σ₀ σ f (write half l r number (pairs_from (end - a) a v)) → Rest σ₀ τ f (write half l r number (pairs_from (end - (a + 1)) (a + 1) v))
clauses_turn σ₀ σ τ f half l r number end a v i p =
    rest_turn σ₀ σ τ f (write half l r number (pairs_from (end - a) a v)) (write half l r number (pairs_from (end - (a + 1)) (a + 1) v))
    (λ t. with_clause (clause t.records half l r number (a, v - a)) t) p (write_turn half l r number end a v i)

-- the room ended among the clauses
pub clauses_full : (σ₀ σ : St) (f : Arena → Arena) (half : Bool) (l r number k a v : ℕ) → (marks_of σ).full ≡ true →
    Rest σ₀ σ f (write half l r number (pairs_from k a v)) → Steps σ₀ σ f
clauses_full σ₀ σ f half l r number k a v full p =
    rest_full σ₀ σ f (write half l r number (pairs_from k a v)) (write_grows half l r number (pairs_from k a v)) full p

pub word_of_number : (n : ℕ) → 2 * n ≡ literal_word (pos n)
unfolding literal_word
word_of_number n = refl

-- The clauses and the number ------------------------------------------------------------------------------------------------

module _ (s : List ℕ) (c : List ℤ) (m : Held) (n v : ℕ) (half : Bool) (l r : ℕ) (ps : List (ℕ × ℕ)) where
  pub finish_stop : m.full ≡ true → Steps (st s c m) (st s c m) (λ t. take_number n v (write half l r t.fresh ps t))
  finish_stop k = stop (st s c m) (λ t. take_number n v (write half l r t.fresh ps t)) (finish_grows n v half l r ps) k

  pub finish_end : m.full ≡ false → 1000000000 < m.fresh →
      Steps (st s c m) (st s c ended) (λ t. take_number n v (write half l r t.fresh ps t))
  unfolding take_number write
  finish_end k i =
      filled s c m (λ t. take_number n v (write half l r t.fresh ps t)) k (λ e t h f hd q. omega (arith, hd.fresh_is, q.fresh_fit))

  pub finish_done : (τ υ : St) → m.full ≡ false → Steps (st s c m) τ (write half l r m.fresh ps) → Steps τ υ (take_number n v) →
      Steps (st s c m) υ (λ t. take_number n v (write half l r t.fresh ps t))
  finish_done τ υ k p q =
      held s c m υ (λ t. take_number n v (write half l r t.fresh ps t)) k (λ t h e. (
        (λ u. take_number n v (write half l r m.fresh ps u)),
        steps_then (st s c m) τ υ (write half l r m.fresh ps) (take_number n v) p q,
        ap (λ (w : ℕ). take_number n v (write half l r w ps t)) e,
      ))
