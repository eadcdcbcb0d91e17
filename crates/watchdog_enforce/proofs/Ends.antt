-- The test of well formed in front of an answer, and the answer as the front of the scratch.
use mathlib.Core.Path.{◌≡◌, refl, sym, ap, ap₂, ◌∙◌}
use mathlib.Core.Bool.{Bool, true, false}
use mathlib.Core.Option.{Option, none, some}
use mathlib.Core.List.{List, ◌++◌}
use Prim.Native.Nat.{ℕ}
use lib.IntN.{ℤ}
use lib.ListN.{length, take, drop}
use lib.Seq.{take-append_seam}
use Rattle.std.specs.Prelude.{Result, Err}
use Rattle.rules.specs.declared.State.{State}
use Rattle.rules.specs.declared.Refusal.{Refusal}
use Rattle.rules.specs.declared.Refusal.TheVariants.{NotWellFormed}
use Rattle.rules.specs.Refusals.{answer_number, answer_value}
use Rattle.enforce_answer.specs.Ends.{Answers, Ended}
use Rattle.rules.specs.Build.{build_of}
use Rattle.rules.specs.WellFormed.{well_formed}
use Rattle.rules.specs.Enforce.{EnforceEnd, enforce, enforce_end, refused_end, scratch_short, enforce_ub}

abbrev Front : EnforceEnd → Type 0
Front e = take (length e.answer) e.scratch ≡ e.answer

refused_front : (n : ℕ) (c : List ℤ) → Front (refused_end n c)
unfolding refused_end
refused_front n c = refl

given_front : (b : Bool) (a c : List ℤ) → Front (elim b [ true ↦ refused_end 7 c | false ↦ record { answer = a; scratch = a ++ drop (length a) c; refusal = 0 } ])
given_front true a c = refused_front 7 c
given_front false a c = take-append_seam a (drop (length a) c)

end_front : (o : Option (List ℤ)) (c : List ℤ) → Front (enforce_end o c)
unfolding enforce_end
end_front none c = refused_front 11 c
end_front (some a) c = given_front (scratch_short c a) a c

module _ (s : State) (store : List ℕ) (clauses scratch : List ℤ) (u : ℕ) where
  tested_front : (b : Bool) → Front (elim b [ true ↦ enforce_end (enforce (build_of s store) u) scratch | false ↦ refused_end 12 scratch ])
  tested_front true = end_front (enforce (build_of s store) u) scratch
  tested_front false = refused_front 12 scratch

  front : Front (enforce_ub s store clauses scratch u)
  unfolding enforce_ub
  front = tested_front (well_formed s store clauses)

  -- the written front, whatever is known of it by equations
  pub front_is : (n : ℕ) (d : List ℤ) → n ≡ length (enforce_ub s store clauses scratch u).answer → d ≡ (enforce_ub s store clauses scratch u).scratch →
      take n d ≡ (enforce_ub s store clauses scratch u).answer
  front_is n d e p = ap₂ (λ (k : ℕ) l. take k l) e p ∙ front

  pub front_length : (n : ℕ) (d : List ℤ) → n ≡ length (enforce_ub s store clauses scratch u).answer → d ≡ (enforce_ub s store clauses scratch u).scratch →
      n ≡ length (take n d)
  front_length n d e p = e ∙ sym (ap length (front_is n d e p))

  module _ (b : Bool) (test : b ≡ well_formed s store clauses) where
    pub not_formed : b ≡ false → refused_end 12 scratch ≡ enforce_ub s store clauses scratch u
    unfolding enforce_ub
    not_formed e =
        ap (λ (t : Bool). elim t [ true ↦ enforce_end (enforce (build_of s store) u) scratch | false ↦ refused_end 12 scratch ]) (sym e ∙ test)

    pub formed : b ≡ true → enforce_end (enforce (build_of s store) u) scratch ≡ enforce_ub s store clauses scratch u
    unfolding enforce_ub
    formed e =
        ap (λ (t : Bool). elim t [ true ↦ enforce_end (enforce (build_of s store) u) scratch | false ↦ refused_end 12 scratch ]) (sym e ∙ test)

    pub refused : b ≡ false → (scratch ≡ (enforce_ub s store clauses scratch u).scratch) × Answers (enforce_ub s store clauses scratch u) (Err NotWellFormed)
    unfolding refused_end answer_number answer_value
    refused e = (
      ap (λ (x : EnforceEnd). x.scratch) (not_formed e),
      (ap (λ (x : EnforceEnd). x.refusal) (not_formed e), ap (λ (x : EnforceEnd). length x.answer) (not_formed e)),
    )

    pub given : (d : List ℤ) (r : Result ℕ Refusal) → b ≡ true → Ended (enforce (build_of s store) u) scratch d r →
        (d ≡ (enforce_ub s store clauses scratch u).scratch) × Answers (enforce_ub s store clauses scratch u) r
    given d r e p = (
      p.0 ∙ ap (λ (x : EnforceEnd). x.scratch) (formed e),
      (p.1.0 ∙ ap (λ (x : EnforceEnd). x.refusal) (formed e), p.1.1 ∙ ap (λ (x : EnforceEnd). length x.answer) (formed e)),
    )
