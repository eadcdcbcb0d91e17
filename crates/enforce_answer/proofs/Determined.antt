-- Any two results that the promise of `answer` allows are equal.
use mathlib.Core.Path.{◌≡◌, sym, ap, ◌∙◌}
use Prim.Native.Nat.{ℕ, ◌≤◌}
use native.Mathlib.Omega.{arith}
use Rattle.std.specs.Prelude.{Result, Ok, Err}
use Rattle.rules.specs.declared.Refusal.{Refusal}
use Rattle.rules.specs.declared.Refusal.TheVariants.{ListsDiffer, LiteralUnlawful, LiteralTwice, WeightUnlawful, FreshUnlawful, WorkShort, NoRoom, DivisorUnlawful, DivisorCoarser, DivisorAbove, NotEncoded, NotWellFormed}
use Rattle.rules.specs.Refusals.{number, refusal_of, refusal_of-number, answer_number, answer_value}
use Rattle.numbers.proofs.Determined.{One_result}
use Rattle.enforce_answer.proofs.answer.Kinds as answer-kinds
use Rattle.enforce_answer.proofs.answer.Reads as answer

some_number : (r : Refusal) → 1 ≤ number r
some_number ListsDiffer = omega arith
some_number LiteralUnlawful = omega arith
some_number LiteralTwice = omega arith
some_number WeightUnlawful = omega arith
some_number FreshUnlawful = omega arith
some_number WorkShort = omega arith
some_number NoRoom = omega arith
some_number DivisorUnlawful = omega arith
some_number DivisorCoarser = omega arith
some_number DivisorAbove = omega arith
some_number NotEncoded = omega arith
some_number NotWellFormed = omega arith

-- a number and a count make one answer
same_answer : (x y : Result ℕ Refusal) → answer_number x ≡ answer_number y → answer_value 0 x ≡ answer_value 0 y → x ≡ y
unfolding answer_number answer_value
same_answer (Ok m) (Ok n) e f = ap (λ (k : ℕ). Ok k) f
same_answer (Ok m) (Err s) e f = absurd (omega (arith, some_number s))
same_answer (Err r) (Ok n) e f = absurd (omega (arith, some_number r))
same_answer (Err r) (Err s) e f = ap (λ (q : Refusal). Err q) (sym (refusal_of-number r) ∙ (ap refusal_of e ∙ refusal_of-number s))

pub answer_determined : One_result 2 answer-kinds.ps answer-kinds.r answer.Post
answer_determined κs a x y e f p q = same_answer x y (p.1.0 ∙ sym q.1.0) (p.1.1 ∙ sym q.1.1)
