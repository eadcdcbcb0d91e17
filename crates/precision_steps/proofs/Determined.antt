-- Any two results that the promise of a public answer allows are equal, where the words store records.
use mathlib.Core.Path.{◌≡◌, sym, ◌∙◌}
use mathlib.Core.List.{List}
use borrow.Fn.Kinds.{Dens, res_t, ended_of}
use denote.Triple.Clauses.{AtExit}
use contract.Lifetimes.{Lfts}
use Rattle.rules.specs.Records.{Record}
use Rattle.records.specs.Carries.{Reads}
use Rattle.numbers.proofs.Determined.{One_result}
use Rattle.precision_steps.proofs.next.Kinds as next-kinds
use Rattle.precision_steps.proofs.next.Reads as next
use Rattle.precision_steps.proofs.coarse.Kinds as coarse-kinds
use Rattle.precision_steps.proofs.coarse.Reads as coarse
use Rattle.precision_steps.proofs.set.Kinds as set-kinds
use Rattle.precision_steps.proofs.set.Reads as set

pub next_determined : (κs : Lfts 1) (a : Dens κs next-kinds.ps) (x y : (res_t next-kinds.r κs).Denot) (e f : AtExit (ended_of 1 next-kinds.ps next-kinds.r) κs) →
    next.Post κs a x e → next.Post κs a y f → (rs : List Record) → Reads a.0 rs → x ≡ y
next_determined κs a x y e f p q rs h = p rs h ∙ sym (q rs h)

pub coarse_determined : One_result 0 coarse-kinds.ps coarse-kinds.r coarse.Post
coarse_determined κs a x y e f p q = p ∙ sym q

pub set_determined : One_result 0 set-kinds.ps set-kinds.r set.Post
set_determined κs a x y e f p q = p ∙ sym q
