-- Any two results that the promises of enforce allow are equal: of `enforce_count` with every word of the scratch, of `enforce_ub`
-- with the part's words and place.
use mathlib.Core.Path.{◌≡◌, sym, ◌∙◌}
use borrow.Fn.Kinds.{Dens, res_t, ended_of}
use denote.Triple.Clauses.{AtExit}
use contract.Lifetimes.{Lfts}
use Rattle.watchdog_enforce.proofs.enforce_count.Kinds as enforce-count-kinds
use Rattle.watchdog_enforce.proofs.enforce_count.Reads as enforce-count
use Rattle.watchdog_enforce.proofs.enforce_ub.Kinds as enforce-ub-kinds
use Rattle.watchdog_enforce.proofs.enforce_ub.Reads as enforce_ub

pub enforce_count_determined : (κs : Lfts 4) (a : Dens κs enforce-count-kinds.ps) (x y : (res_t enforce-count-kinds.r κs).Denot)
    (e f : AtExit (ended_of 4 enforce-count-kinds.ps enforce-count-kinds.r) κs) → enforce-count.Post κs a x e → enforce-count.Post κs a y f →
    (x ≡ y) × (e.1.1.1.0.now ≡ f.1.1.1.0.now) × (e.1.1.1.1.1.0.now ≡ f.1.1.1.1.1.0.now)
enforce_count_determined κs a x y e f p q = (p.2 ∙ sym q.2, p.0 ∙ sym q.0, p.1 ∙ sym q.1)

pub enforce_ub_determined : (κs : Lfts 4) (a : Dens κs enforce-ub-kinds.ps) (x y : (res_t enforce-ub-kinds.r κs).Denot)
    (e f : AtExit (ended_of 4 enforce-ub-kinds.ps enforce-ub-kinds.r) κs) → enforce_ub.Post κs a x e → enforce_ub.Post κs a y f →
    (x.now ≡ y.now) × (x.ref_ptr ≡ y.ref_ptr) × (e.1.1.1.1.1.0.now ≡ f.1.1.1.1.1.0.now)
enforce_ub_determined κs a x y e f p q = (p.0 ∙ sym q.0, p.1 ∙ sym q.1, p.2 ∙ sym q.2)
