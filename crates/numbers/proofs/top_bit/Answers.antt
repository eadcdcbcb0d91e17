-- `top_bit` is the binary logarithm, that of 1 for 0.
use native.Mathlib.Omega.{arith}
use Rattle.numbers.proofs.Bits.{top_bit_at}
use Rattle.numbers.proofs.top_bit.Goals as goal

pub returns-clause-value : goal.returns-clause-value
returns-clause-value c = top_bit_at c.args.x c.ilog2.result (omega (arith, c.ilog2.ensures.power_le)) (omega (arith, c.ilog2.ensures.next_power_gt))
