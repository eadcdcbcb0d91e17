use mathlib.Core.Path.{◌∙◌, ap}
use Prim.Native.Nat.{ℕ, ◌+◌}
use Rattle.numbers.proofs.Bits.{digits_up}
use Rattle.numbers.proofs.digits.Goals as goal

pub returns-clause-value : goal.returns-clause-value
returns-clause-value c = ap (λ (k : ℕ). k + 1) c.top_bit.ensures.value ∙ digits_up _
