-- Any two results that the promise of a public function allows are equal, where the words are those of records.
use mathlib.Core.Path.{◌≡◌, sym, ◌∙◌}
use mathlib.Core.List.{List}
use borrow.Fn.Kinds.{Dens, res_t, ended_of}
use denote.Triple.Clauses.{AtExit}
use contract.Lifetimes.{Lfts}
use Rattle.rules.specs.Records.{Record}
use Rattle.records.specs.Carries.{Reads}
use Rattle.check_outputs.proofs.outputs_rise.Kinds as outputs-rise-kinds
use Rattle.check_outputs.proofs.outputs_rise.Reads as outputs_rise
use Rattle.check_outputs.proofs.outputs_distinct.Kinds as outputs-distinct-kinds
use Rattle.check_outputs.proofs.outputs_distinct.Reads as outputs_distinct
use Rattle.check_outputs.proofs.spent.Kinds as spent-kinds
use Rattle.check_outputs.proofs.spent.Reads as spent

pub outputs_rise_determined : (κs : Lfts 1) (a : Dens κs outputs-rise-kinds.ps) (x y : (res_t outputs-rise-kinds.r κs).Denot) (e f : AtExit (ended_of 1 outputs-rise-kinds.ps outputs-rise-kinds.r) κs) →
    outputs_rise.Post κs a x e → outputs_rise.Post κs a y f → (rs : List Record) → Reads a.0 rs → x ≡ y
outputs_rise_determined κs a x y e f p q rs h = p rs h ∙ sym (q rs h)

pub outputs_distinct_determined : (κs : Lfts 1) (a : Dens κs outputs-distinct-kinds.ps) (x y : (res_t outputs-distinct-kinds.r κs).Denot) (e f : AtExit (ended_of 1 outputs-distinct-kinds.ps outputs-distinct-kinds.r) κs) →
    outputs_distinct.Post κs a x e → outputs_distinct.Post κs a y f → (rs : List Record) → Reads a.0 rs → x ≡ y
outputs_distinct_determined κs a x y e f p q rs h = p rs h ∙ sym (q rs h)

pub spent_determined : (κs : Lfts 1) (a : Dens κs spent-kinds.ps) (x y : (res_t spent-kinds.r κs).Denot) (e f : AtExit (ended_of 1 spent-kinds.ps spent-kinds.r) κs) →
    spent.Post κs a x e → spent.Post κs a y f → (rs : List Record) → Reads a.0 rs → x ≡ y
spent_determined κs a x y e f p q rs h = p rs h ∙ sym (q rs h)
