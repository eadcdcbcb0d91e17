-- Any two results that the promise of a public function allows are equal, where the words store records.
use mathlib.Core.Path.{◌≡◌, sym, ◌∙◌}
use mathlib.Core.List.{List}
use borrow.Fn.Kinds.{Dens, res_t, ended_of}
use denote.Triple.Clauses.{AtExit}
use contract.Lifetimes.{Lfts}
use Rattle.rules.specs.Records.{Record}
use Rattle.records.specs.Carries.{Reads}
use Rattle.totalizer_find.proofs.find.Kinds as find-kinds
use Rattle.totalizer_find.proofs.find.Reads as find
use Rattle.totalizer_find.proofs.literal.Kinds as literal-kinds
use Rattle.totalizer_find.proofs.literal.Reads as literal
use Rattle.totalizer_find.proofs.side.Kinds as side-kinds
use Rattle.totalizer_find.proofs.side.Reads as side

pub find_determined : (κs : Lfts 1) (a : Dens κs find-kinds.ps) (x y : (res_t find-kinds.r κs).Denot) (e f : AtExit (ended_of 1 find-kinds.ps find-kinds.r) κs) →
    find.Post κs a x e → find.Post κs a y f → (rs : List Record) → Reads a.0 rs → x ≡ y
find_determined κs a x y e f p q rs h = p rs h ∙ sym (q rs h)

pub literal_determined : (κs : Lfts 1) (a : Dens κs literal-kinds.ps) (x y : (res_t literal-kinds.r κs).Denot) (e f : AtExit (ended_of 1 literal-kinds.ps literal-kinds.r) κs) →
    literal.Post κs a x e → literal.Post κs a y f → (rs : List Record) → Reads a.0 rs → x ≡ y
literal_determined κs a x y e f p q rs h = p rs h ∙ sym (q rs h)

pub side_determined : (κs : Lfts 1) (a : Dens κs side-kinds.ps) (x y : (res_t side-kinds.r κs).Denot) (e f : AtExit (ended_of 1 side-kinds.ps side-kinds.r) κs) →
    side.Post κs a x e → side.Post κs a y f → (rs : List Record) → Reads a.0 rs → x ≡ y
side_determined κs a x y e f p q rs h = p rs h ∙ sym (q rs h)
