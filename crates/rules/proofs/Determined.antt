-- Any two results that the promise of a public function allows are equal.
use mathlib.Core.Path.{◌≡◌, sym, ◌∙◌}
use borrow.Fn.Kinds.{Dens, res_t, ended_of}
use denote.Triple.Clauses.{AtExit}
use contract.Lifetimes.{Lfts}
use Rattle.rules.proofs.Refusal.number.Kinds as number-kinds
use Rattle.rules.proofs.Refusal.number.Reads as number

pub number_determined : (κs : Lfts 0) (a : Dens κs number-kinds.ps) (x y : (res_t number-kinds.r κs).Denot) (e f : AtExit (ended_of 0 number-kinds.ps number-kinds.r) κs) →
    number.Post κs a x e → number.Post κs a y f → x ≡ y
number_determined κs a x y e f p q = p ∙ sym q
