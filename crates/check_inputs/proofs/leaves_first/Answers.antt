use mathlib.Core.Path.{◌∙◌}
use Prim.Native.Nat.{ℕ}
use native.Mathlib.Omega.{arith}
use borrow.Author.Tests.{tests}
use Rattle.std.proofs.Common.{rules}
use Rattle.std.proofs.lemmas.Iterator.{YieldsList-from_range}
use Rattle.std.proofs.lemmas.Iterator.Search.{all_from_yields_List}
use Rattle.rules.specs.Records.{node_at}
use Rattle.rules.specs.WellFormed.{is_leaf}
use Rattle.check_arrays.proofs.Chains.{range_all}
use Rattle.check_inputs.proofs.leaves_first.Goals as goal

pub returns : goal.returns
returns c =
    let inputs = c.args.inputs in
    λ rs h.
    let test = λ (i : ℕ). is_leaf (node_at rs i).kind in
    all_from_yields_List test _ _ _ c.all.ensures.ran (YieldsList-from_range 0 inputs inputs (cc) (omega arith)) (λ x b q k. search (rules, tests)) ∙ range_all test inputs 0
