-- Any two results that the promise of `start` allows are equal, every lent word among them.
use mathlib.Core.Path.{◌≡◌, sym, ap, ◌∙◌}
use borrow.Fn.Kinds.{Dens, res_t, ended_of}
use denote.Triple.Clauses.{AtExit}
use contract.Lifetimes.{Lfts}
use Rattle.rules.specs.Start.{StartEnd}
use Rattle.watchdog_start.proofs.start.Kinds as start-kinds
use Rattle.watchdog_start.proofs.start.Reads as start

pub start_determined : (κs : Lfts 4) (a : Dens κs start-kinds.ps) (x y : (res_t start-kinds.r κs).Denot) (e f : AtExit (ended_of 4 start-kinds.ps start-kinds.r) κs) →
    start.Post κs a x e → start.Post κs a y f → (x ≡ y) × (e.1.1.1.0.now ≡ f.1.1.1.0.now) × (e.1.1.1.1.0.now ≡ f.1.1.1.1.0.now)
start_determined κs a x y e f p q =
    let same = p ∙ sym q in
    (ap (λ (r : StartEnd). r.answer) same, ap (λ (r : StartEnd). r.store) same, ap (λ (r : StartEnd). r.clauses) same)
