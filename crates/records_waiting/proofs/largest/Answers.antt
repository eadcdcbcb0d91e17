use mathlib.Core.Path.{ap, ◌∙◌}
use Prim.Native.Nat.{ℕ}
use native.Mathlib.Omega.{arith}
use borrow.Author.Tests.{tests}
use lib.ListN.{get_or}
use Rattle.std.proofs.Common.{rules, Option}
use Rattle.std.specs.List.{range_with_len}
use Rattle.std.specs.Option.{unwrap_or}
use Rattle.std.proofs.lemmas.Iterator.{YieldsList-from_range, YieldsList-from_map}
use Rattle.std.proofs.lemmas.Iterator.Consumers.{reduce_from_yields_List}
use Rattle.std.proofs.lemmas.List.Folds.{max_of_map}
use Rattle.rules.specs.Records.{unknown}
use Rattle.records.specs.Readers.{entry_weight}
use Rattle.records_waiting.proofs.Waiting.{largest_is}
use Rattle.records_waiting.proofs.largest.Goals as goal

pub returns : goal.returns
returns c =
    let records = c.args.store.records in
    λ rs h.
    let weight = λ (i : ℕ). entry_weight (get_or rs i unknown) in
    c.unwrap_or.ensures ∙
    (ap (λ (o : Option ℕ). unwrap_or o 0) (reduce_from_yields_List _ _ _ c.max.ensures.ran (YieldsList-from_map _ weight (YieldsList-from_range 0 records records (cc) (omega arith)) c.map.ensures.closure (λ x r q k. search (rules, tests)))) ∙
    (max_of_map weight (range_with_len 0 records) ∙ largest_is rs records h.count_is))
