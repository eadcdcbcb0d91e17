use mathlib.Core.Path.{◌∙◌}
use Prim.Native.Nat.{ℕ, ◌-◌}
use borrow.Author.Tests.{tests}
use Rattle.std.proofs.Common.{rules}
use Rattle.std.proofs.lemmas.Iterator.{YieldsList-from_range}
use Rattle.std.proofs.lemmas.Iterator.Search.{any_from_yields_List}
use lib.ListN.{get_or}
use Rattle.rules.specs.Records.{unknown}
use Rattle.check_arrays.proofs.Chains.{range_any}
use Rattle.check_inputs.specs.Steps.{is_entry, waits_in}
use Rattle.check_inputs.proofs.waits_from.Goals as goal

pub returns : goal.returns
unfolding waits_in
returns c =
    let from = c.args.from in
    let to = c.args.store.records in
    λ rs h.
    let test = λ (i : ℕ). is_entry c.args.n (get_or rs i unknown) in
    any_from_yields_List test _ _ _ c.any.ensures.ran (YieldsList-from_range from to (to - from) (cc) (cc)) (λ x b q k. search (rules, tests)) ∙ range_any (is_entry c.args.n) unknown rs to from h.count_is
