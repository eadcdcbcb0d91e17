-- `segment` is the tower of the state's powers.
use native.Mathlib.Omega.{arith}
use Rattle.refine_structure.proofs.Spanning.{spans_within, segment_small, segment_made, segment_few}
use Rattle.refine_structure.proofs.segment.Goals as goal

pub overflow_sub-many : goal.overflow_sub-many
overflow_sub-many c = (spans_within _ _ _ c.top_bit-p.ensures.value c.top_bit-end.ensures.value c.requires.2).0

pub overflow_sub-own : goal.overflow_sub-own
overflow_sub-own c = (spans_within _ _ _ c.top_bit-p.ensures.value c.top_bit-end.ensures.value c.requires.2).1

pub tower-requires : goal.tower-requires
tower-requires c =
    let top-bit2 = c.top_bit-end in
    let top_bit = c.top_bit-p in
    let pre = c.requires in
    (pre.0, pre.1, omega (arith, (spans_within _ _ _ top_bit.ensures.value top-bit2.ensures.value pre.2).2), omega (arith, (spans_within _ _ _ top_bit.ensures.value top-bit2.ensures.value pre.2).3), segment_small _ _ _ top_bit.ensures.value top-bit2.ensures.value pre.2 _ _ pre.4)

pub returns : goal.returns
returns c =
    let tower = c.tower in
    let top-bit2 = c.top_bit-end in
    let top_bit = c.top_bit-p in
    let pre = c.requires in
    (segment_made _ _ _ top_bit.ensures.value top-bit2.ensures.value pre.2 _ _ _ _ _ _ _ _ _ _ tower.ensures.0, tower.ensures.1, segment_few _ _ _ top_bit.ensures.value top-bit2.ensures.value pre.2 _ tower.ensures.2, tower.ensures.3)
