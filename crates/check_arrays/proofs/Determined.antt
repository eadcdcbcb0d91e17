-- Any two results that the promise of a public function allows are equal.
use mathlib.Core.Path.{◌≡◌, sym, ◌∙◌}
use borrow.Fn.Kinds.{Dens, res_t, ended_of}
use denote.Triple.Clauses.{AtExit}
use contract.Lifetimes.{Lfts}
use Rattle.check_arrays.proofs.among.Kinds as among-kinds
use Rattle.check_arrays.proofs.among.Reads as among
use Rattle.check_arrays.proofs.distinct.Kinds as distinct-kinds
use Rattle.check_arrays.proofs.distinct.Reads as distinct
use Rattle.check_arrays.proofs.between.Kinds as between-kinds
use Rattle.check_arrays.proofs.between.Reads as between
use Rattle.check_arrays.proofs.above.Kinds as above-kinds
use Rattle.check_arrays.proofs.above.Reads as above
use Rattle.check_arrays.proofs.slots_within.Kinds as slots-within-kinds
use Rattle.check_arrays.proofs.slots_within.Reads as slots_within

pub among_determined : (κs : Lfts 1) (a : Dens κs among-kinds.ps) (x y : (res_t among-kinds.r κs).Denot) (e f : AtExit (ended_of 1 among-kinds.ps among-kinds.r) κs) →
    among.Post κs a x e → among.Post κs a y f → x ≡ y
among_determined κs a x y e f p q = p ∙ sym q

pub distinct_determined : (κs : Lfts 1) (a : Dens κs distinct-kinds.ps) (x y : (res_t distinct-kinds.r κs).Denot) (e f : AtExit (ended_of 1 distinct-kinds.ps distinct-kinds.r) κs) →
    distinct.Post κs a x e → distinct.Post κs a y f → x ≡ y
distinct_determined κs a x y e f p q = p ∙ sym q

pub between_determined : (κs : Lfts 1) (a : Dens κs between-kinds.ps) (x y : (res_t between-kinds.r κs).Denot) (e f : AtExit (ended_of 1 between-kinds.ps between-kinds.r) κs) →
    between.Post κs a x e → between.Post κs a y f → x ≡ y
between_determined κs a x y e f p q = p ∙ sym q

pub above_determined : (κs : Lfts 1) (a : Dens κs above-kinds.ps) (x y : (res_t above-kinds.r κs).Denot) (e f : AtExit (ended_of 1 above-kinds.ps above-kinds.r) κs) →
    above.Post κs a x e → above.Post κs a y f → x ≡ y
above_determined κs a x y e f p q = p ∙ sym q

pub slots_within_determined : (κs : Lfts 1) (a : Dens κs slots-within-kinds.ps) (x y : (res_t slots-within-kinds.r κs).Denot) (e f : AtExit (ended_of 1 slots-within-kinds.ps slots-within-kinds.r) κs) →
    slots_within.Post κs a x e → slots_within.Post κs a y f → x ≡ y
slots_within_determined κs a x y e f p q = p ∙ sym q
