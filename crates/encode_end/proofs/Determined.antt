-- Any two results that the promise of a public function allows are equal, every lent word among them.
use mathlib.Core.Path.{◌≡◌, sym, ap, ◌∙◌}
use borrow.Fn.Kinds.{Dens, res_t, ended_of}
use denote.Triple.Clauses.{AtExit}
use contract.Lifetimes.{Lfts}
use Rattle.rules.specs.Encode.{EncodeEnd}
use Rattle.numbers.proofs.Determined.{One_result}
use Rattle.encode_end.proofs.encoded.Kinds as encoded-kinds
use Rattle.encode_end.proofs.encoded.Reads as encoded
use Rattle.encode_end.proofs.carried_out.Kinds as carried-out-kinds
use Rattle.encode_end.proofs.carried_out.Reads as carried-out

pub encoded_determined : One_result 0 encoded-kinds.ps encoded-kinds.r encoded.Post
encoded_determined κs a x y e f p q = p ∙ sym q

pub carried_out_determined : (κs : Lfts 3) (a : Dens κs carried-out-kinds.ps) (x y : (res_t carried-out-kinds.r κs).Denot)
    (e f : AtExit (ended_of 3 carried-out-kinds.ps carried-out-kinds.r) κs) → carried-out.Post κs a x e → carried-out.Post κs a y f →
    (x ≡ y) × (e.1.0.now ≡ f.1.0.now) × (e.1.1.0.now ≡ f.1.1.0.now) × (e.1.1.1.0.now ≡ f.1.1.1.0.now)
carried_out_determined κs a x y e f p q =
    let same = p ∙ sym q in (
      ap (λ (r : EncodeEnd). r.answer) same,
      ap (λ (r : EncodeEnd). r.store) same,
      ap (λ (r : EncodeEnd). r.clauses) same,
      ap (λ (r : EncodeEnd). r.work) same,
    )
