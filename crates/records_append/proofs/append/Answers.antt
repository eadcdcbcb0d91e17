-- `append` writes a record's words where the records end, if a whole record lies there and its place fits a word; where not, no state that it leads to fits.
use Rattle.std.proofs.Common.{refl, ◌≤◌, ◌<◌, ◌/◌, length, arith}
use mathlib.Core.Logic.{◌⊎◌, inl, inr}
use Rattle.records_append.proofs.Appending.{append_none, append_done}
use Rattle.records_append.proofs.append.Goals as goal

pub returns-then-capacity-n : goal.returns-then-capacity-n
returns-then-capacity-n c =
    let past : (length c.args.s.now / 8 ≤ c.args.m.records) ⊎ (4294967295 < c.args.m.records) =
    elim c.then-capacity-n.either [ inl a ↦ inl (omega arith) | inr b ↦ inr b.1 ] in
    λ b r e. append_none _ b _ r refl _ past

pub returns : goal.returns
returns c =
    λ b r e. append_done _ b _ r refl _ _ e (omega arith) c.if-n-gt-MOST_PLACE.false (omega arith) (omega arith) c.put_record.ensures
