-- `put_record` writes eight words where a whole record lies.
use mathlib.Core.Path.{ap, ◌∙◌}
use mathlib.Core.List.{[], ◌∷◌}
use Prim.Native.Nat.{ℕ}
use native.Mathlib.Omega.{arith}
use Rattle.records.proofs.Leaves.{kind_is, record_none, record_some}
use Rattle.records.proofs.put_record.Goals as goal

pub returns-then-n-capacity : goal.returns-then-n-capacity
returns-then-n-capacity c =
    let x = c.args.x in
    record_some c.args.s.now c.args.n _ _ _ (omega arith) (omega arith)
    (c.copy_from_slice.ensures.after ∙ ap (λ (k : ℕ). k ∷ x.a ∷ x.b ∷ x.c ∷ x.maximum ∷ x.height ∷ 0 ∷ 0 ∷ []) (kind_is x.kind))

pub returns-else-n-capacity : goal.returns-else-n-capacity
returns-else-n-capacity c = record_none c.args.s.now _ _ (omega arith)
