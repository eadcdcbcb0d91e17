use mathlib.Core.Path.{◌≡◌, ◌∙◌}
use borrow.Author.Tests.{tests}
use Rattle.std.proofs.Common.{rules}
use Rattle.std.specs.List.{list_all}
use Rattle.std.proofs.lemmas.Iterator.Search.{all_from_yields_List}
use Rattle.check_arrays.proofs.Walk.{then_and, else_and}
use Rattle.check_arrays.proofs.Slots.{pairs, YieldsList-from_pairs}
use Rattle.check_buckets.proofs.Buckets.{linked_pair, none_linked, last_is, linked_is}
use Rattle.check_buckets.proofs.linked.Goals as goal

pub returns-in_default : goal.returns-in_default
returns-in_default c = λ rs h. none_linked rs c.args.wait c.args.buckets.now c.in_default.ensures.value

pub returns-then-all : goal.returns-then-all
returns-then-all c =
    let args = c.args in
    let bs = args.buckets.now in
    λ rs h.
    let near : c.all.result ≡ list_all (linked_pair rs) (pairs bs) = all_from_yields_List (linked_pair rs) _ _ _ c.all.ensures.ran (YieldsList-from_pairs c.windows.result bs (cc) (cc)) (λ x b q k. search (rules, tests)) in
    then_and _ _ near c.if-all.true (c.ends_in.ensures rs h ∙ last_is rs args.wait bs _ c.in-Some.ensures.value) ∙ linked_is rs args.wait bs

pub returns-else-all : goal.returns-else-all
returns-else-all c =
    let args = c.args in
    let bs = args.buckets.now in
    λ rs h.
    let near : c.all.result ≡ list_all (linked_pair rs) (pairs bs) = all_from_yields_List (linked_pair rs) _ _ _ c.all.ensures.ran (YieldsList-from_pairs c.windows.result bs (cc) (cc)) (λ x b q k. search (rules, tests)) in
    else_and _ _ near c.if-all.false ∙ linked_is rs args.wait bs
