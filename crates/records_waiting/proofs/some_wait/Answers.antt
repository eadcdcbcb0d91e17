use mathlib.Core.Path.{◌∙◌}
use Prim.Native.Nat.{ℕ}
use native.Mathlib.Omega.{arith}
use borrow.Author.Tests.{tests}
use lib.ListN.{get_or}
use Rattle.std.proofs.Common.{rules}
use Rattle.std.proofs.lemmas.Iterator.{YieldsList-from_range}
use Rattle.std.proofs.lemmas.Iterator.Search.{any_from_yields_List}
use Rattle.rules.specs.Records.{unknown, waits}
use Rattle.records_waiting.proofs.Waiting.{some_is}
use Rattle.records_waiting.proofs.some_wait.Goals as goal

pub returns : goal.returns
returns c =
    let records = c.args.store.records in
    λ rs h.
    let test = λ (i : ℕ). waits (get_or rs i unknown) in
    any_from_yields_List test _ _ _ c.any.ensures.ran (YieldsList-from_range 0 records records (cc) (omega arith)) (λ x b q k. search (rules, tests)) ∙ some_is rs records h.count_is
