-- The inputs that a start is of, from the lines that it was handed.
use Rattle.std.specs.Prelude.{List, ℕ, ℤ}
use Rattle.rules.specs.Combined.{combined_literals, combined_weights}

module _ (lits : List ℤ) (weights : List ℕ) where
  -- the inputs: the combined list
  abbrev pub inputs : List ℤ
  inputs = combined_literals lits

  abbrev pub input_weights : List ℕ
  input_weights = combined_weights lits weights
