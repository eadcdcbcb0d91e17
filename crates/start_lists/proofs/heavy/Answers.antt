-- `heavy` asks the library's `all`.
use mathlib.Core.Path.{ap, ◌∙◌}
use mathlib.Core.Bool.{not}
use lib.Dec.{leb}
use Rattle.std.proofs.Common.{rules}
use borrow.Author.Tests.{tests}
use Rattle.std.proofs.lemmas.Iterator.{YieldsList-from_slice}
use Rattle.std.proofs.lemmas.Iterator.Search.{all_from_yields_List}
use Rattle.start_lists.proofs.Walk.{all_is}
use Rattle.start_lists.proofs.heavy.Goals as goal

pub returns : goal.returns
returns c =
    let added = c.args.added.now in
    ap not (all_from_yields_List (λ w. leb w 1048575) _ _ _ c.all.ensures.ran (YieldsList-from_slice added cc) (λ x b q k. search (rules, tests)) ∙ all_is (λ w. leb w 1048575) added)
