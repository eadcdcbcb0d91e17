-- `set_bits` counts from the lowest bit: those counted and those left are all.
use Prim.Native.Nat.{◌+◌, ◌-◌, ◌≤◌}
use Rattle.enforce_answer.specs.Tares.{bits}
use mathlib.Core.Path.{◌≡◌}
use Rattle.enforce_answer.proofs.set_bits.Given as goal

abbrev pub invariant-loop-i : goal.invariant-loop-i
invariant-loop-i l = (l.n + bits (l.tares - l._i) l.y ≡ bits l.tares l.x) × (l.n ≤ l._i)
