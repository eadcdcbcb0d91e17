-- What an answer admits, over words: any run of calls on lent slices after an accepted start.
use Rattle.std.specs.Prelude.{◌≡◌, true, ℕ, ◌≤◌, ℤ}
use Rattle.std.proofs.Common.{sym, ap}
use Rattle.std.proofs.Math.Path.{subst}
use Rattle.std.proofs.Math.Option.{some}
use mathlib.Core.List.{List, [], ◌∷◌}
use Rattle.rules.specs.declared.State.{State}
use Rattle.rules.specs.Build.{Build, state_of}
use Rattle.rules.specs.Combined.{combined_literals, combined_weights}
use Rattle.rules.specs.Start.{start_refusal, new_build}
use Rattle.rules.specs.Enforce.{enforce, enforce_ub}
use Rattle.preserve.specs.Starts.{lent}
use Rattle.guarantee.specs.Promise.{sum_of, Promised}
use Rattle.guarantee.specs.Histories.Worlds.{World}
use Rattle.guarantee.specs.Histories.Reached.{started_world, leads_world}
use Rattle.guarantee.proofs.Demand3.{promised, promised_empty}
use Rattle.guarantee.specs.Calls.{Memory, started, Run}
use Rattle.guarantee.specs.Words.Shows.{Shows}
use Rattle.guarantee.specs.Words.Goes.{Goes}
use Rattle.guarantee.proofs.Words.Goes.{run_goes, start_shows}
use Rattle.guarantee.proofs.Words.Reads.{shows_clauses}
use Rattle.guarantee.proofs.Words.Enforced.{answer_told}
use Rattle.guarantee.specs.Admitted.{Promises}

state_divisors : (m : Memory) (b : Build) → Shows m b → (m.state.set ≡ b.set) × (m.state.built ≡ b.built)
unfolding state_of
state_divisors m b s = (ap (λ (st : State). st.set) s.state_is, ap (λ (st : State). st.built) s.state_is)

module _ (lits : List ℤ) (weights : List ℕ) (first : ℕ) (store : List ℕ) (clauses : List ℤ) (accepted_start : start_refusal lits weights first store ≡ 0)
    (m : Memory) (run : Run (started lits weights first store clauses) m) where
  -- the inputs: the combined list
  abbrev pub xs : List ℤ
  xs = combined_literals lits

  abbrev pub ws : List ℕ
  ws = combined_weights lits weights

  begun : World xs ws (new_build xs ws first)
  begun = started_world xs ws first store (lent lits weights first store accepted_start)

  reached : Goes (new_build xs ws first) m
  reached = run_goes xs ws (new_build xs ws first) begun (started lits weights first store clauses) m (start_shows lits weights first store clauses accepted_start) run

  b : Build
  b = reached.build

  w : World xs ws b
  unfolding b
  w = leads_world xs ws (new_build xs ws first) reached.build begun reached.leads

  -- an answer that enforce gives over the build
  promise : (u : ℕ) (answer : List ℤ) → enforce b u ≡ some answer → Promises xs ws m u answer
  unfolding b
  promise u [] e =
      subst (λ (d : ℕ). sum_of xs ws d (λ x. true) ≤ u) (sym (state_divisors m b reached.shows).0) (promised_empty lits weights first store accepted_start b reached.leads u e)
  promise u (l ∷ ls) e = λ n later.
      let g : Goes b n = run_goes xs ws b w m n reached.shows later in
      let w' : World xs ws g.build = leads_world xs ws b g.build w g.leads in
      let (ms, mb) = state_divisors m b reached.shows in
      let (ns, nb) = state_divisors n g.build g.shows in
      subst (λ (cs : List (List ℤ)). Promised xs ws m.state.set m.state.built u (l ∷ ls) n.state.built cs) (sym (shows_clauses xs ws g.build w' n g.shows))
      (subst (λ (d : ℕ). Promised xs ws d m.state.built u (l ∷ ls) n.state.built g.build.arena.clauses) (sym ms)
      (subst (λ (d : ℕ). Promised xs ws b.set d u (l ∷ ls) n.state.built g.build.arena.clauses) (sym mb)
      (subst (λ (d : ℕ). Promised xs ws b.set b.built u (l ∷ ls) d g.build.arena.clauses) (sym nb)
      (promised lits weights first store accepted_start b reached.leads u l ls e g.build g.leads))))

  -- What an answer admits: any calls after an accepted start, and a bound u that enforce does not refuse
  pub answer_promise : (scratch : List ℤ) (u : ℕ) → (enforce_ub m.state m.store m.clauses scratch u).refusal ≡ 0 →
      Promises xs ws m u (enforce_ub m.state m.store m.clauses scratch u).answer
  unfolding b
  answer_promise scratch u r = promise u (enforce_ub m.state m.store m.clauses scratch u).answer (answer_told xs ws b w m reached.shows scratch u r)
