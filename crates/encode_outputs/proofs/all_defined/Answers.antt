-- `all_defined` is `all` over the distances from the first value.
use mathlib.Core.Path.{refl, ◌∙◌}
use mathlib.Core.Bool.{not}
use Prim.Native.Nat.{◌+◌}
use native.Mathlib.Omega.{arith}
use lib.Dec.{eqb}
use Rattle.std.proofs.lemmas.Iterator.{YieldsList-from_range}
use Rattle.std.proofs.lemmas.Iterator.Search.{all_from_yields_List}
use borrow.Author.Rules.{rules}
use Rattle.rules.specs.Totalizer.{number_of}
use Rattle.encode_outputs.proofs.Turns.{defined_values, tested}
use Rattle.encode_outputs.proofs.all_defined.Goals as goal

pub returns : goal.returns
returns c =
    let vs = c.args.vs in
    λ rs h. all_from_yields_List (λ i. not (eqb (number_of rs c.args.node (vs.first + i)) 0)) _ _ _ c.all.ensures.ran (YieldsList-from_range 0 vs.many vs.many refl (omega arith))
    (λ x b q k. (search rules, search (rules, tested, h))) ∙ defined_values _ _ _ _
