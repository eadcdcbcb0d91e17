use mathlib.Core.Path.{ap, ◌∙◌}
use Prim.Native.Nat.{ℕ, ◌+◌}
use native.Mathlib.Omega.{arith}
use lib.Dec.{leb}
use borrow.Author.Tests.{tests}
use Rattle.std.proofs.Common.{rules, Option}
use Rattle.std.specs.List.{range_with_len}
use Rattle.std.specs.Option.{unwrap_or}
use Rattle.std.proofs.lemmas.Iterator.{YieldsList-from_range, YieldsList-from_map}
use Rattle.std.proofs.lemmas.Iterator.Consumers.{reduce_from_yields_List}
use Rattle.std.proofs.lemmas.List.Folds.{max_of_map}
use Rattle.rules.specs.Records.{node_at}
use Rattle.rules.specs.WellFormed.{variable_of}
use Rattle.check_inputs.proofs.Inputs.{low_is}
use Rattle.check_inputs.proofs.lowest.Goals as goal

pub returns : goal.returns
returns c =
    let inputs = c.args.inputs in
    λ rs h n.
    let of = λ (i : ℕ). variable_of (node_at rs i).kind in
    let next = λ (i : ℕ). of i + 1 in
    ap (λ (x : ℕ). leb x n)
    (c.unwrap_or.ensures ∙
    (ap (λ (o : Option ℕ). unwrap_or o 0) (reduce_from_yields_List _ _ _ c.max.ensures.ran (YieldsList-from_map _ next (YieldsList-from_range 0 inputs inputs (cc) (omega arith)) c.map.ensures.closure (λ x r q k. search (rules, tests)))) ∙
    max_of_map next (range_with_len 0 inputs))) ∙
    low_is of inputs n
