use mathlib.Core.Path.{◌∙◌}
use Prim.Native.Nat.{◌-◌}
use lib.ListN.{length, take, drop}
use borrow.Author.Tests.{tests}
use Rattle.std.proofs.Common.{rules}
use Rattle.std.proofs.lemmas.Iterator.{YieldsList-from_slice}
use Rattle.std.proofs.lemmas.Iterator.Search.{all_from_yields_List}
use Rattle.check_arrays.proofs.Slots.{empty, slots_in, slots_over}
use Rattle.check_arrays.proofs.slots_within.Goals as goal

pub returns-then-used-slots : goal.returns-then-used-slots
returns-then-used-slots c =
    let xs = c.args.slots.now in
    let used = c.args.used in
    all_from_yields_List empty _ _ _ c.all.ensures.ran (YieldsList-from_slice (take (length xs - used) (drop used xs)) (cc)) (λ x b q k. search (rules, tests)) ∙
    slots_in used xs c.if-used-slots.true

pub returns-else-used-slots : goal.returns-else-used-slots
returns-else-used-slots c = slots_over _ _ c.if-used-slots.false
