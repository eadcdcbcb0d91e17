-- `variable` reads a leaf's literal.
use mathlib.Core.Path.{ap, ◌∙◌}
use Prim.Native.Nat.{ℕ}
use lib.IntN.{nat_abs}
use Rattle.rules.specs.Records.{word_literal}
use Rattle.check_inputs.proofs.Inputs.{variable_word}
use Rattle.check_inputs.proofs.variable.Goals as goal

pub returns : goal.returns
returns c =
    λ rs h. c.variable.ensures ∙ (ap (λ (w : ℕ). nat_abs (word_literal w)) (c.literal.ensures rs h) ∙ variable_word _)
