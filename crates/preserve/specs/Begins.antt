-- After an accepted start any lawful divisor can be set, and nothing else changes.
use Rattle.std.specs.Prelude.{◌≡◌, Bool, true, false, not, List, ℕ, ℤ, Ok}
use Rattle.std.proofs.Math.Path.{refl, ap, ap₂, subst}
use Rattle.std.proofs.Common.{sym, ◌∙◌}
use Rattle.std.proofs.Math.Bool.{cond}
use Rattle.rules.specs.Numbers.{divisor_of}
use Rattle.rules.specs.Refusals.{first_true, divisor_unlawful, answer_of}
use Rattle.rules.specs.Build.{Build, state_of, build_of, build_over, unbuilt}
use Rattle.rules.specs.WellFormed.{well_formed, not_well_formed}
use Rattle.rules.specs.Combined.{combined_literals, combined_weights}
use Rattle.rules.specs.Start.{StartEnd, start_refusal, new_build, start, start_end}
use Rattle.rules.specs.Precision.{divisor_coarser, set_refusal, with_set, set_end, set_precision}
use Rattle.preserve.specs.Starts.{accepted_start}

module _ (lits : List ℤ) (weights : List ℕ) (first : ℕ) (store : List ℕ) (clauses : List ℤ) (accepted : start_refusal lits weights first store ≡ 0) (d : ℕ) (lawful : divisor_unlawful d ≡ false) where
  b : Build
  b = new_build (combined_literals lits) (combined_weights lits weights) first

  at : ℕ → StartEnd
  unfolding b
  at n = start_end n b store clauses

  not_coarser : divisor_coarser (build_of (at 0).answer.state (at 0).store) d ≡ false
  unfolding at b start_end divisor_coarser unbuilt build_of build_over state_of new_build
  not_coarser = refl

  well : well_formed (at 0).answer.state (at 0).store (at 0).clauses ≡ true
  unfolding at b start
  well = subst (λ (n : ℕ). well_formed (at n).answer.state (at n).store (at n).clauses ≡ true) accepted (accepted_start lits weights first store clauses accepted)

  none : set_refusal (at 0).answer.state (at 0).store (at 0).clauses d ≡ 0
  unfolding set_refusal first_true not_well_formed
  none =
      ap₂ (λ (x y : Bool). cond (not x) 12 (cond y 8 (cond (divisor_coarser (build_of (at 0).answer.state (at 0).store) d) 9 0))) well lawful ∙
      ap (λ (z : Bool). cond z 9 0) not_coarser

  -- a set after a start is accepted, and the state has that divisor and is otherwise as it was
  pub start_then_set :
      let e : StartEnd = start lits weights first store clauses in
      set_precision e.answer.state e.store e.clauses d ≡ record { answer = Ok tt; state = with_set e.answer.state (divisor_of d) }
  unfolding start set_precision set_end answer_of at b
  start_then_set =
      subst (λ (n : ℕ). set_precision (at n).answer.state (at n).store (at n).clauses d ≡ record { answer = Ok tt; state = with_set (at n).answer.state (divisor_of d) }) (sym accepted)
      (ap (λ (k : ℕ). set_end k (at 0).answer.state d) none)
