-- Which case an encode is.
use Rattle.std.specs.Prelude.{Bool, cond, leb, Result, Ok, Err}
use Rattle.rules.specs.declared.Refusal.{Refusal}
use Rattle.rules.specs.declared.Refusal.TheVariants.{DivisorAbove}
use Rattle.rules.specs.Build.{Build, largest}
use Rattle.rules.specs.Encode.{divisor_above}
use Rattle.encode_case.specs.declared.Case.{Case}

-- a waiting weight is at least the set divisor
unfoldable pub reaches : Build → Bool
unfolding largest
reaches b = leb b.set (largest b.queue)

-- 10, or whether the first build or a refinement is due, and the built divisor afterwards
unfoldable pub case_of : Build → Result Case Refusal
unfolding reaches divisor_above
case_of b =
    cond (divisor_above b) (Err DivisorAbove) (Ok (record { due = reaches b; built = cond (reaches b) b.set b.built }))
