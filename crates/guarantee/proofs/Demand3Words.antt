-- Demand 3 and Ask 2 over words: cases of what an answer promises.
use Rattle.std.specs.Prelude.{◌≡◌, ◌↔◌, ℕ, suc, ◌*◌, ◌-◌, ◌/◌, ◌≤◌, length, ℤ}
use Rattle.std.proofs.Common.{ap, ◌∙◌, mul-div_cancel}
use Rattle.std.proofs.Math.Path.{subst}
use mathlib.Core.List.{List, ◌∷◌}
use Rattle.rules.specs.Combined.{combined_literals, combined_weights}
use Rattle.rules.specs.Start.{start_refusal}
use Rattle.rules.specs.Enforce.{enforce_ub}
use Rattle.guarantee.specs.Meaning.Truth.{Assign, holds}
use Rattle.guarantee.specs.Promise.{sum_of, Admits, Refined, Promised}
use Rattle.guarantee.specs.Calls.{Memory, started, Run, clauses_in}
use Rattle.guarantee.proofs.Words.Enforced.{answer_accepted}
use Rattle.guarantee.specs.Admitted.{Promises}
use Rattle.guarantee.proofs.Admitted.{answer_promise}

-- Demand 3 is the case d = D
as_demand3 : (xs : List ℤ) (ws : List ℕ) (d D u : ℕ) (answer : List ℤ) (D' : ℕ) (clauses : List (List ℤ)) → Refined xs ws d D u answer D' clauses → d ≡ D → (α : Assign) →
    Admits xs clauses answer α ↔ (sum_of xs ws D' (holds α) ≤ D / D' * suc u - 1)
as_demand3 xs ws d D u answer D' clauses p same α =
    subst (λ (q : ℕ). Admits xs clauses answer α ↔ (sum_of xs ws D' (holds α) ≤ D / D' * suc q - 1)) (ap (λ (k : ℕ). u * k / D) same ∙ mul-div_cancel u p.is_built) (p.admits α)

module _ (lits : List ℤ) (weights : List ℕ) (first : ℕ) (store : List ℕ) (clauses : List ℤ) (accepted_start : start_refusal lits weights first store ≡ 0)
    (m : Memory) (run : Run (started lits weights first store clauses) m) where
  -- the inputs: the combined list
  abbrev pub xs : List ℤ
  xs = combined_literals lits

  abbrev pub ws : List ℕ
  ws = combined_weights lits weights

  -- one that is not empty
  some_promise : (scratch : List ℤ) (u : ℕ) (l : ℤ) (ls : List ℤ) → (enforce_ub m.state m.store m.clauses scratch u).answer ≡ l ∷ ls → Promises xs ws m u (l ∷ ls)
  some_promise scratch u l ls e = subst (Promises xs ws m u) e (answer_promise lits weights first store clauses accepted_start m run scratch u (answer_accepted m scratch u l ls e))

  -- Demand 3: a non-empty answer for u, of two or more inputs, given while the set divisor equals the built divisor D admits, with the clauses that
  -- stand in the buffer after any later calls that leave built divisor d, exactly the loads whose sum at d is at most (D/d)(u + 1) - 1
  pub demand3_words : 2 ≤ length xs → (scratch : List ℤ) (u : ℕ) (l : ℤ) (ls : List ℤ) → (enforce_ub m.state m.store m.clauses scratch u).answer ≡ l ∷ ls →
      m.state.set ≡ m.state.built → (n : Memory) → Run m n → (α : Assign) →
      Admits xs (clauses_in n) (l ∷ ls) α ↔ (sum_of xs ws n.state.built (holds α) ≤ m.state.built / n.state.built * suc u - 1)
  demand3_words two scratch u l ls e same n later =
      as_demand3 xs ws m.state.set m.state.built u (l ∷ ls) n.state.built (clauses_in n) ((some_promise scratch u l ls e n later).two_inputs two) same

  -- with no refinement in between, exactly the loads whose sum at D is at most u
  pub demand3_exactly : (scratch : List ℤ) (u : ℕ) (l : ℤ) (ls : List ℤ) → (enforce_ub m.state m.store m.clauses scratch u).answer ≡ l ∷ ls → m.state.set ≡ m.state.built →
      (n : Memory) → Run m n → n.state.built ≡ m.state.built → (α : Assign) → Admits xs (clauses_in n) (l ∷ ls) α ↔ (sum_of xs ws m.state.built (holds α) ≤ u)
  demand3_exactly scratch u l ls e same n later kept α =
      subst (λ (d : ℕ). Admits xs (clauses_in n) (l ∷ ls) α ↔ (sum_of xs ws d (holds α) ≤ u)) same ((some_promise scratch u l ls e n later).unrefined kept α)

  -- Ask 2: a non-empty answer for u, of one input, admits after any later calls exactly the loads whose weight, divided by the divisor set when it
  -- was answered and rounded down, is at most u
  pub demand3_one : length xs ≡ 1 → (scratch : List ℤ) (u : ℕ) (l : ℤ) (ls : List ℤ) → (enforce_ub m.state m.store m.clauses scratch u).answer ≡ l ∷ ls →
      (n : Memory) → Run m n → (α : Assign) → Admits xs (clauses_in n) (l ∷ ls) α ↔ (sum_of xs ws m.state.set (holds α) ≤ u)
  demand3_one one scratch u l ls e n later =
      let p : Promised xs ws m.state.set m.state.built u (l ∷ ls) n.state.built (clauses_in n) = some_promise scratch u l ls e n later in
      p.unrefined (p.one_input one)
