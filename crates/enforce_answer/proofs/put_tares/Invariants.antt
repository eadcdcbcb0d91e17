-- `put_tares` lays the tares from the back: what is left of the work is the whole work.
use Prim.Native.Nat.{◌/◌, ◌^◌}
use Rattle.records_clauses.specs.Clauses.{buf}
use Rattle.enforce_answer.specs.Tares.{tares_back}
use lib.ListN.{length, drop}
use mathlib.Core.Path.{◌≡◌}
use Rattle.enforce_answer.proofs.put_tares.Given as goal

abbrev pub invariant-loop-i : goal.invariant-loop-i
invariant-loop-i l = (tares_back (buf l.scratch l.at) (drop l.i l.tares) (l.x / 2 ^ l.i) ≡ tares_back (buf l.initial.scratch l.end) l.tares l.x) × (length l.scratch ≡ length l.initial.scratch)
