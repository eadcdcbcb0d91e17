-- Any two results that the promise of a public function allows are equal, where the words are those of records.
use mathlib.Core.Path.{◌≡◌, sym, ◌∙◌}
use mathlib.Core.List.{List}
use borrow.Fn.Kinds.{Dens, res_t, ended_of}
use denote.Triple.Clauses.{AtExit}
use contract.Lifetimes.{Lfts}
use Rattle.rules.specs.Records.{Record}
use Rattle.records.specs.Carries.{Reads}
use Rattle.check_records.proofs.records_right.Kinds as records-right-kinds
use Rattle.check_records.proofs.records_right.Reads as records_right

pub records_right_determined : (κs : Lfts 2) (a : Dens κs records-right-kinds.ps) (x y : (res_t records-right-kinds.r κs).Denot) (e f : AtExit (ended_of 2 records-right-kinds.ps records-right-kinds.r) κs) →
    records_right.Post κs a x e → records_right.Post κs a y f → (rs : List Record) → Reads a.0 rs → x ≡ y
records_right_determined κs a x y e f p q rs h = p rs h ∙ sym (q rs h)
