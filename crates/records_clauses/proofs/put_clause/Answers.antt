-- `put_clause` measures the clause first: where it fits, its words follow the used ones, and where it does not, no state that it leads to fits.
use Rattle.std.proofs.Common.{refl, ap, ◌∙◌, arith}
use mir.Val.{bool_byte}
use Rattle.records_clauses.proofs.Leaves.{width_is}
use Rattle.records_clauses.proofs.Clause.{clause_long, clause_done}
use Rattle.records_clauses.proofs.put_clause.Goals as goal

pub returns-then-room-from : goal.returns-then-room-from
returns-then-room-from c =
    λ s. clause_long s _ _ _ _ _ refl _ _ (c.from.ensures ∙ (ap bool_byte c.is_some.ensures ∙ width_is c.args.p)) (c.from-2.ensures ∙ (ap bool_byte c.is_some-2.ensures ∙ width_is c.args.q)) (omega (arith, c.saturating_sub-room.ensures))

pub returns : goal.returns
returns c =
    λ s. clause_done s _ _ _ _ _ refl _ _ _ _ _ (c.from.ensures ∙ (ap bool_byte c.is_some.ensures ∙ width_is c.args.p)) (c.from-2.ensures ∙ (ap bool_byte c.is_some-2.ensures ∙ width_is c.args.q)) (omega (arith, c.saturating_sub-room.ensures))
    c.push_clause.ensures c.push_clause.type_inv (λ h. omega (arith, c.saturating_add.ensures))
