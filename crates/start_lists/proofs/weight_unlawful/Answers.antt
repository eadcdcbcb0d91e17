-- `weight_unlawful` asks the library's `all`.
use mathlib.Core.Path.{ap, ◌∙◌}
use mathlib.Core.Bool.{not}
use Rattle.std.proofs.Common.{rules}
use borrow.Author.Tests.{tests}
use Rattle.std.proofs.lemmas.Iterator.{YieldsList-from_slice}
use Rattle.std.proofs.lemmas.Iterator.Search.{all_from_yields_List}
use Rattle.rules.specs.Numbers.{lawful_weight}
use Rattle.start_lists.proofs.Walk.{all_is}
use Rattle.start_lists.proofs.weight_unlawful.Goals as goal

pub returns : goal.returns
unfolding lawful_weight
returns c =
    let weights = c.args.weights.now in
    ap not (all_from_yields_List lawful_weight _ _ _ c.all.ensures.ran (YieldsList-from_slice weights cc) (λ x b q k. search (rules, tests)) ∙ all_is lawful_weight weights)
