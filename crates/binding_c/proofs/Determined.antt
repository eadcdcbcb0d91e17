-- Any two results that the promises of the exported functions allow are equal, every lent word among them.
use mathlib.Core.Path.{◌≡◌, sym, ◌∙◌}
use borrow.Fn.Kinds.{Dens, res_t, ended_of}
use denote.Triple.Clauses.{AtExit}
use contract.Lifetimes.{Lfts}
use Rattle.numbers.proofs.Determined.{One_result}
use Rattle.binding_c.proofs.tweedpillar_start.Kinds as start-kinds
use Rattle.binding_c.proofs.tweedpillar_start.Reads as start
use Rattle.binding_c.proofs.tweedpillar_set_precision.Kinds as set-precision-kinds
use Rattle.binding_c.proofs.tweedpillar_set_precision.Reads as set_precision
use Rattle.binding_c.proofs.tweedpillar_next_precision.Kinds as next-precision-kinds
use Rattle.binding_c.proofs.tweedpillar_next_precision.Reads as next_precision
use Rattle.binding_c.proofs.tweedpillar_is_max_precision.Kinds as is-max-precision-kinds
use Rattle.binding_c.proofs.tweedpillar_is_max_precision.Reads as is_max_precision
use Rattle.binding_c.proofs.tweedpillar_encode_ub_change.Kinds as encode-ub-change-kinds
use Rattle.binding_c.proofs.tweedpillar_encode_ub_change.Reads as encode_ub_change
use Rattle.binding_c.proofs.tweedpillar_enforce_ub.Kinds as enforce-ub-kinds
use Rattle.binding_c.proofs.tweedpillar_enforce_ub.Reads as enforce_ub
use Rattle.binding_c.proofs.tweedpillar_coarse_ub.Kinds as coarse-ub-kinds
use Rattle.binding_c.proofs.tweedpillar_coarse_ub.Reads as coarse_ub

pub start_determined : (κs : Lfts 4) (a : Dens κs start-kinds.ps) (x y : (res_t start-kinds.r κs).Denot) (e f : AtExit (ended_of 4 start-kinds.ps start-kinds.r) κs) →
    start.Post κs a x e → start.Post κs a y f → (x ≡ y) × (e.1.1.1.0.now ≡ f.1.1.1.0.now) × (e.1.1.1.1.0.now ≡ f.1.1.1.1.0.now)
start_determined κs a x y e f p q = (p.0 ∙ sym q.0, p.1 ∙ sym q.1, p.2 ∙ sym q.2)

pub encode_ub_change_determined : (κs : Lfts 3) (a : Dens κs encode-ub-change-kinds.ps) (x y : (res_t encode-ub-change-kinds.r κs).Denot)
    (e f : AtExit (ended_of 3 encode-ub-change-kinds.ps encode-ub-change-kinds.r) κs) → encode_ub_change.Post κs a x e → encode_ub_change.Post κs a y f →
    (x ≡ y) × (e.1.0.now ≡ f.1.0.now) × (e.1.1.0.now ≡ f.1.1.0.now) × (e.1.1.1.0.now ≡ f.1.1.1.0.now)
encode_ub_change_determined κs a x y e f p q = (p.0 ∙ sym q.0, p.1 ∙ sym q.1, p.2 ∙ sym q.2, p.3 ∙ sym q.3)

pub enforce_ub_determined : (κs : Lfts 4) (a : Dens κs enforce-ub-kinds.ps) (x y : (res_t enforce-ub-kinds.r κs).Denot)
    (e f : AtExit (ended_of 4 enforce-ub-kinds.ps enforce-ub-kinds.r) κs) → enforce_ub.Post κs a x e → enforce_ub.Post κs a y f →
    (x ≡ y) × (e.1.1.1.0.now ≡ f.1.1.1.0.now) × (e.1.1.1.1.1.0.now ≡ f.1.1.1.1.1.0.now)
enforce_ub_determined κs a x y e f p q = (p.2 ∙ sym q.2, p.0 ∙ sym q.0, p.1 ∙ sym q.1)

pub set_precision_determined : One_result 2 set-precision-kinds.ps set-precision-kinds.r set_precision.Post
set_precision_determined κs a x y e f p q = p ∙ sym q

pub next_precision_determined : One_result 2 next-precision-kinds.ps next-precision-kinds.r next_precision.Post
next_precision_determined κs a x y e f p q = p ∙ sym q

pub is_max_precision_determined : One_result 2 is-max-precision-kinds.ps is-max-precision-kinds.r is_max_precision.Post
is_max_precision_determined κs a x y e f p q = p ∙ sym q

pub coarse_ub_determined : One_result 2 coarse-ub-kinds.ps coarse-ub-kinds.r coarse_ub.Post
coarse_ub_determined κs a x y e f p q = p ∙ sym q
