-- Any two results that the promise of `encode_ub_change` allows are equal, every lent word among them.
use mathlib.Core.Path.{◌≡◌, sym, ap, ◌∙◌}
use borrow.Fn.Kinds.{Dens, res_t, ended_of}
use denote.Triple.Clauses.{AtExit}
use contract.Lifetimes.{Lfts}
use Rattle.rules.specs.Encode.{EncodeEnd}
use Rattle.watchdog_encode.proofs.encode_ub_change.Kinds as encode-kinds
use Rattle.watchdog_encode.proofs.encode_ub_change.Reads as encode

pub encode_ub_change_determined : (κs : Lfts 3) (a : Dens κs encode-kinds.ps) (x y : (res_t encode-kinds.r κs).Denot)
    (e f : AtExit (ended_of 3 encode-kinds.ps encode-kinds.r) κs) → encode.Post κs a x e → encode.Post κs a y f →
    (x ≡ y) × (e.1.0.now ≡ f.1.0.now) × (e.1.1.0.now ≡ f.1.1.0.now) × (e.1.1.1.0.now ≡ f.1.1.1.0.now)
encode_ub_change_determined κs a x y e f p q =
    let same = p ∙ sym q in (
      ap (λ (r : EncodeEnd). r.answer) same,
      ap (λ (r : EncodeEnd). r.store) same,
      ap (λ (r : EncodeEnd). r.clauses) same,
      ap (λ (r : EncodeEnd). r.work) same,
    )
