use mathlib.Core.Path.{◌∙◌}
use native.Mathlib.Omega.{arith}
use borrow.Author.Tests.{tests}
use Rattle.std.proofs.Common.{rules}
use Rattle.std.proofs.lemmas.Iterator.{YieldsList-from_range}
use Rattle.std.proofs.lemmas.Iterator.Search.{all_from_yields_List}
use Rattle.check_arrays.proofs.Chains.{range_all}
use Rattle.check_kinds.specs.Words.{known_at}
use Rattle.check_kinds.proofs.Known.{all_known}
use Rattle.check_kinds.proofs.kinds_known.Goals as goal

pub returns : goal.returns
returns c =
    let n = c.args.store.records in
    let test = known_at c.args.store.words.now n in
    λ room. all_from_yields_List test _ _ _ c.all.ensures.ran (YieldsList-from_range 0 n n (cc) (omega arith)) (λ x b q k. search (rules, tests)) ∙ (range_all test n 0 ∙ all_known _ n room)
