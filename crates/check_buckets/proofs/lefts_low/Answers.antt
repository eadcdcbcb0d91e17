use mathlib.Core.Path.{refl, ◌∙◌}
use borrow.Author.Tests.{tests}
use Rattle.std.proofs.Common.{rules}
use Rattle.std.proofs.lemmas.Iterator.{YieldsList-from_slice}
use Rattle.std.proofs.lemmas.Iterator.Search.{all_from_yields_List}
use Rattle.check_arrays.proofs.Chains.{all_is}
use Rattle.check_buckets.specs.Links.{left_low}
use Rattle.check_buckets.proofs.lefts_low.Goals as goal

pub returns : goal.returns
unfolding left_low
returns c =
    let bs = c.args.buckets.now in
    λ rs h. all_from_yields_List (left_low rs) _ _ _ c.all.ensures.ran (YieldsList-from_slice bs (cc)) (λ x b q k. search (rules, tests)) ∙ all_is (left_low rs) (left_low rs) (λ b. refl) bs
