-- Any two results that the promise of a public function allows are equal, where the words store records.
use mathlib.Core.Path.{◌≡◌, sym, ◌∙◌}
use mathlib.Core.List.{List}
use borrow.Fn.Kinds.{Dens, res_t, ended_of}
use denote.Triple.Clauses.{AtExit}
use contract.Lifetimes.{Lfts}
use Rattle.rules.specs.Records.{Record}
use Rattle.records.specs.Carries.{Reads}
use Rattle.records_waiting.proofs.largest.Kinds as largest-kinds
use Rattle.records_waiting.proofs.largest.Reads as largest
use Rattle.records_waiting.proofs.some_wait.Kinds as some-wait-kinds
use Rattle.records_waiting.proofs.some_wait.Reads as some_wait

pub largest_determined : (κs : Lfts 1) (a : Dens κs largest-kinds.ps) (x y : (res_t largest-kinds.r κs).Denot) (e f : AtExit (ended_of 1 largest-kinds.ps largest-kinds.r) κs) →
    largest.Post κs a x e → largest.Post κs a y f → (rs : List Record) → Reads a.0 rs → x ≡ y
largest_determined κs a x y e f p q rs h = p rs h ∙ sym (q rs h)

pub some_wait_determined : (κs : Lfts 1) (a : Dens κs some-wait-kinds.ps) (x y : (res_t some-wait-kinds.r κs).Denot) (e f : AtExit (ended_of 1 some-wait-kinds.ps some-wait-kinds.r) κs) →
    some_wait.Post κs a x e → some_wait.Post κs a y f → (rs : List Record) → Reads a.0 rs → x ≡ y
some_wait_determined κs a x y e f p q rs h = p rs h ∙ sym (q rs h)
