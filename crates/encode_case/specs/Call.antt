-- What encode_ub_change is called with, and when it has something to do.
use Rattle.std.specs.Prelude.{◌≡◌, true, false, List, ℕ, ◌≤◌, length, ℤ}
use Rattle.rules.specs.declared.State.{State}
use Rattle.rules.specs.Build.{Build, build_of}
use Rattle.rules.specs.WellFormed.{well_formed}
use Rattle.rules.specs.Encode.{EncodeEnd, nothing_asked, encode, nothing_done, divisor_above, encode_ub_change}
use Rattle.laws.specs.WellFormed.Plain.{WellFormed}
use Rattle.encode_outputs.specs.declared.Range.{Range}

-- well formed, something is asked, and the divisor is not above every weight at a first build
pub record Begins (s : State) (store : List ℕ) (clauses : List ℤ) (range : Range) : Type 0 where
  pub well : WellFormed s store clauses
  pub asked : nothing_asked (build_of s store) range.lo range.end ≡ false
  pub reached : divisor_above (build_of s store) ≡ false

pub record Call : Type 0 where
  pub s : State
  pub store : List ℕ
  pub clauses : List ℤ
  pub work : List ℕ
  pub range : Range

-- the build that a call finds
abbrev pub found : Call → Build
found k = build_of k.s k.store

-- the build that it would reach, with room unlimited
abbrev pub reached : Call → Build
reached k = encode (found k) k.range.lo k.range.end

-- how it ends
abbrev pub ended : Call → EncodeEnd
ended k = encode_ub_change k.s k.store k.clauses k.work k.range.lo k.range.end

-- nothing refuses it but want of room, and something is left to do
pub record Works (k : Call) : Type 0 where
  pub formed : well_formed k.s k.store k.clauses ≡ true
  pub long : 16384 ≤ length k.work
  pub begins : Begins k.s k.store k.clauses k.range
  pub left : nothing_done (found k) (reached k) ≡ false
