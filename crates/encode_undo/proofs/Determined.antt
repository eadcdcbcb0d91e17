-- Any two results that the promise of a public function allows are equal: the words set aside, and the used words put back where words set
-- aside are at hand.
use mathlib.Core.Path.{◌≡◌, sym, ◌∙◌}
use mathlib.Core.List.{List}
use Prim.Native.Nat.{ℕ, ◌+◌, ◌*◌, ◌-◌, ◌<◌}
use borrow.Fn.Kinds.{Dens, res_t, ended_of}
use denote.Triple.Clauses.{AtExit}
use contract.Lifetimes.{Lfts}
use lib.ListN.{length, get_or, take}
use Rattle.encode_undo.specs.Aside.{Aside, Kept}
use Rattle.encode_undo.proofs.set_aside.Kinds as set-aside-kinds
use Rattle.encode_undo.proofs.set_aside.Reads as set-aside
use Rattle.encode_undo.proofs.put_back.Kinds as put-back-kinds
use Rattle.encode_undo.proofs.put_back.Reads as put_back

pub set_aside_determined : (κs : Lfts 2) (a : Dens κs set-aside-kinds.ps) (x y : (res_t set-aside-kinds.r κs).Denot) (e f : AtExit (ended_of 2 set-aside-kinds.ps set-aside-kinds.r) κs) →
    set-aside.Post κs a x e → set-aside.Post κs a y f →
    (take (8 * (a.0.records - a.1.1.1.0)) e.1.1.0.now ≡ take (8 * (a.0.records - a.1.1.1.0)) f.1.1.0.now) ×
    ((i j : ℕ) → i < a.0.buckets_used → j < 8 → get_or e.1.1.0.now (2048 + 8 * i + j) 0 ≡ get_or f.1.1.0.now (2048 + 8 * i + j) 0) ×
    (length e.1.1.0.now ≡ length f.1.1.0.now)
set_aside_determined κs a x y e f p q = (
  p.0.words ∙ sym q.0.words,
  λ i j h k. p.0.saved.at i j h k ∙ sym (q.0.saved.at i j h k),
  p.1 ∙ sym q.1,
)

pub put_back_determined : (κs : Lfts 2) (a : Dens κs put-back-kinds.ps) (x y : (res_t put-back-kinds.r κs).Denot) (e f : AtExit (ended_of 2 put-back-kinds.ps put-back-kinds.r) κs) →
    put_back.Post κs a x e → put_back.Post κs a y f →
    ((o : List ℕ) → Aside a.0 o a.1.1.0.now a.1.1.1.0 → Kept a.0 o a.1.0.now a.1.1.1.0 →
    take (8 * a.0.records) e.1.0.now ≡ take (8 * a.0.records) f.1.0.now) × (length e.1.0.now ≡ length f.1.0.now)
put_back_determined κs a x y e f p q = (λ o h k. p.0 o h k ∙ sym (q.0 o h k), p.1 ∙ sym q.1)
