use Rattle.enforce_answer.proofs.Bits.{bits_on, bits_end}
use native.Mathlib.Omega.{arith}
use Rattle.enforce_answer.proofs.set_bits.Goals as goal

pub loop-i-preserved : goal.loop-i-preserved
loop-i-preserved c = (bits_on _ _ _ _ _ (omega arith) c.loop-i.invariant.0, omega arith)

pub returns-clause-by_index : goal.returns-clause-by_index
returns-clause-by_index c = λ ts l. bits_end _ _ _ _ _ (omega arith) c.loop-i.invariant.0 ts l
