use mathlib.Core.Path.{◌∙◌}
use borrow.Author.Tests.{tests}
use Rattle.std.proofs.Common.{rules}
use Rattle.std.proofs.lemmas.Iterator.Search.{any_from_yields_List}
use Rattle.check_arrays.proofs.Slots.{YieldsList-from_pairs, follows, above_is}
use Rattle.check_arrays.proofs.above.Goals as goal

pub returns : goal.returns
returns c =
    let args = c.args in
    any_from_yields_List (follows args.i args.n) _ _ _ c.any.ensures.ran (YieldsList-from_pairs c.windows.result args.xs.now (cc) (cc)) (λ x b q k. search (rules, tests)) ∙
    above_is args.xs.now args.i args.n
