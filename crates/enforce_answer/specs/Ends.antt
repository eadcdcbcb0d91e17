-- What enforce answers, in counts.
use Rattle.std.specs.Prelude.{◌≡◌, List, ℕ, length, ℤ, Result}
use Rattle.std.proofs.Math.Option.{Option}
use Rattle.rules.specs.declared.Refusal.{Refusal}
use Rattle.rules.specs.Refusals.{answer_number, answer_value}
use Rattle.rules.specs.Enforce.{EnforceEnd, enforce_end}

-- an end as it is handed back: its refusal, and how many words, the first of the scratch, are the answer
abbrev pub Answers : EnforceEnd → Result ℕ Refusal → Type 0
Answers e r = (answer_number r ≡ e.refusal) × (answer_value 0 r ≡ length e.answer)

-- from scratch c enforce leaves scratch d and answers r
abbrev pub Ended : Option (List ℤ) → List ℤ → List ℤ → Result ℕ Refusal → Type 0
Ended o c d r = (d ≡ (enforce_end o c).scratch) × Answers (enforce_end o c) r
