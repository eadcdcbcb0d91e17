use mathlib.Core.Path.{◌∙◌}
use mathlib.Core.Bool.{not}
use Prim.Native.Nat.{ℕ, ◌+◌}
use native.Mathlib.Omega.{arith}
use lib.ListN.{get_or, drop}
use borrow.Author.Tests.{tests}
use Rattle.std.proofs.Common.{rules}
use Rattle.std.proofs.lemmas.Iterator.{YieldsList-from_range}
use Rattle.std.proofs.lemmas.Iterator.Search.{all_from_yields_List}
use Rattle.rules.specs.Records.{unknown}
use Rattle.check_outputs.specs.Steps.{again_in}
use Rattle.check_outputs.proofs.Outputs.{distinct_is}
use Rattle.check_outputs.proofs.outputs_distinct.Goals as goal

pub returns : goal.returns
returns c =
    let n = c.args.store.records in
    λ rs h.
    let test = λ (i : ℕ). not (again_in (get_or rs i unknown) (drop (i + 1) rs)) in
    all_from_yields_List test _ _ _ c.all.ensures.ran (YieldsList-from_range 0 n n (cc) (omega arith)) (λ x b q k. search (rules, tests)) ∙ distinct_is rs n h.count_is
