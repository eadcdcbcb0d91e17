use mathlib.Core.Path.{◌∙◌}
use native.Mathlib.Omega.{arith}
use borrow.Author.Tests.{tests}
use Rattle.std.proofs.Common.{rules}
use Rattle.std.proofs.lemmas.Iterator.{YieldsList-from_range}
use Rattle.std.proofs.lemmas.Iterator.Search.{all_from_yields_List}
use Rattle.check_records.specs.Tests.{place_right}
use Rattle.check_records.proofs.Right.{pass_is}
use Rattle.check_records.proofs.records_right.Goals as goal

pub returns : goal.returns
returns c =
    let lim = c.args.lim in
    let n = c.args.store.records in
    λ rs h.
    let test = place_right rs lim.tares.now lim.buckets.now lim in
    all_from_yields_List test _ _ _ c.all.ensures.ran (YieldsList-from_range 0 n n (cc) (omega arith)) (λ x b q k. search (rules, tests)) ∙ pass_is rs _ _ _ n h.count_is
