use mathlib.Core.Path.{◌∙◌}
use Prim.Native.Nat.{ℕ, ◌-◌}
use lib.ListN.{get_or}
use borrow.Author.Tests.{tests}
use Rattle.std.proofs.Common.{rules}
use Rattle.std.proofs.lemmas.Iterator.{YieldsList-from_range}
use Rattle.std.proofs.lemmas.Iterator.Search.{any_from_yields_List}
use Rattle.rules.specs.Records.{unknown}
use Rattle.check_arrays.proofs.Chains.{range_any}
use Rattle.check_outputs.specs.Steps.{defines, defined_in}
use Rattle.check_outputs.proofs.defined_from.Goals as goal

pub returns : goal.returns
unfolding defined_in
returns c =
    let args = c.args in
    let from = args.from in
    let to = args.store.records in
    λ rs h.
    let test = λ (i : ℕ). defines (get_or rs i unknown) args.n args.v in
    any_from_yields_List test _ _ _ c.any.ensures.ran (YieldsList-from_range from to (to - from) (cc) (cc)) (λ x b q k. search (rules, tests)) ∙ range_any (λ r. defines r args.n args.v) unknown rs to from h.count_is
