use native.Mathlib.Omega.{arith}
use Rattle.build_arrays.proofs.Slots.{fresh_start, slots_length, fresh_turn, fresh_end}
use Rattle.build_arrays.proofs.fresh_tares.Goals as goal

pub loop-i-init : goal.loop-i-init
loop-i-init c = fresh_start _ _ c.requires.0

pub loop-i-preserved : goal.loop-i-preserved
loop-i-preserved c = fresh_turn _ _ _ _ (omega (arith, slots_length _ c.requires.0)) c.loop-i.invariant

pub returns : goal.returns
returns c = fresh_end _ _ _ _ c.requires.0 (omega (arith, slots_length _ c.requires.0)) c.loop-i.invariant
