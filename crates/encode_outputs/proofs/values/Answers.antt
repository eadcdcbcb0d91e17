-- `values` divides the range by the outputs' weight.
use Prim.Native.Nat.{◌-◌}
use native.Mathlib.Omega.{arith}
use native.Mathlib.Nat.{div-le_self}
use Rattle.numbers.proofs.Bits.{power_some}
use Rattle.encode_outputs.proofs.Turns.{values_none, values_some, divided_low}
use Rattle.encode_outputs.proofs.values.Goals as goal

pub returns-then-most-low : goal.returns-then-most-low
returns-then-most-low c = (values_none _ _ _ _ _ c.requires.0 c.power-w.ensures c.if-most-low.true, omega arith)

pub overflow_add-range : goal.overflow_add-range
overflow_add-range c = omega (arith, div-le_self (c.args.range.end - 1) c.power-w.result)

pub overflow_sub-result : goal.overflow_sub-result
overflow_sub-result c =
    let power = c.power-w in
    let args = c.args in
    let pre = c.requires in
    omega (arith, c.min-high.ensures, c.if-most-low.false, divided_low args.range.lo (args.range.end - 1) power.result (power_some _ _ (omega (arith, pre.0)) power.ensures) (omega (arith, pre.1)))

pub returns : goal.returns
returns c =
    (values_some _ _ _ _ _ c.requires.0 c.power-w.ensures _ c.min-high.ensures, omega (arith, c.min-high.ensures, c.if-most-low.false))
