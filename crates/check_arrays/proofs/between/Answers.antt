use mathlib.Core.Path.{refl, ◌∙◌}
use mathlib.Core.Bool.{◌&&◌}
use Prim.Native.Nat.{ℕ}
use lib.Dec.{leb, ltb}
use Rattle.std.proofs.Common.{rules}
use Rattle.std.proofs.lemmas.Iterator.{YieldsList-from_slice}
use Rattle.std.proofs.lemmas.Iterator.Search.{all_from_yields_List}
use borrow.Author.Tests.{tests}
use Rattle.check_arrays.proofs.Chains.{all_is}
use Rattle.check_arrays.proofs.between.Goals as goal

pub returns : goal.returns
returns c =
    let args = c.args in
    let test = λ (n : ℕ). leb args.low n && ltb n args.fresh in
    all_from_yields_List test _ _ _ c.all.ensures.ran (YieldsList-from_slice args.xs.now (cc)) (λ x b q k. search (rules, tests)) ∙ all_is test test (λ n. refl) args.xs.now
