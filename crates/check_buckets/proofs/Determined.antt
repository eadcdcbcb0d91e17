-- Any two results that the promise of a public function allows are equal, where the words are those of records.
use mathlib.Core.Path.{◌≡◌, sym, ◌∙◌}
use mathlib.Core.List.{List}
use borrow.Fn.Kinds.{Dens, res_t, ended_of}
use denote.Triple.Clauses.{AtExit}
use contract.Lifetimes.{Lfts}
use Rattle.rules.specs.Records.{Record}
use Rattle.records.specs.Carries.{Reads}
use Rattle.check_buckets.proofs.linked.Kinds as linked-kinds
use Rattle.check_buckets.proofs.linked.Reads as linked
use Rattle.check_buckets.proofs.lefts_low.Kinds as lefts-low-kinds
use Rattle.check_buckets.proofs.lefts_low.Reads as lefts-low

pub linked_determined : (κs : Lfts 2) (a : Dens κs linked-kinds.ps) (x y : (res_t linked-kinds.r κs).Denot) (e f : AtExit (ended_of 2 linked-kinds.ps linked-kinds.r) κs) →
    linked.Post κs a x e → linked.Post κs a y f → (rs : List Record) → Reads a.0 rs → x ≡ y
linked_determined κs a x y e f p q rs h = p rs h ∙ sym (q rs h)

pub lefts_low_determined : (κs : Lfts 2) (a : Dens κs lefts-low-kinds.ps) (x y : (res_t lefts-low-kinds.r κs).Denot) (e f : AtExit (ended_of 2 lefts-low-kinds.ps lefts-low-kinds.r) κs) →
    lefts-low.Post κs a x e → lefts-low.Post κs a y f → (rs : List Record) → Reads a.0 rs → x ≡ y
lefts_low_determined κs a x y e f p q rs h = p rs h ∙ sym (q rs h)
