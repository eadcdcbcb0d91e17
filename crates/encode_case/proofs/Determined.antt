-- Any two results that the promise of a public function allows are equal, where what was lent is well formed.
use mathlib.Core.Path.{◌≡◌, sym, ◌∙◌}
use mathlib.Core.List.{List, []}
use borrow.Fn.Kinds.{Dens, res_t, ended_of}
use denote.Triple.Clauses.{AtExit}
use contract.Lifetimes.{Lfts}
use lib.IntN.{ℤ}
use Rattle.rules.specs.Build.{build_of}
use Rattle.laws.specs.WellFormed.Plain.{WellFormed}
use Rattle.numbers.proofs.Determined.{One_result}
use Rattle.encode_case.specs.Case.{reaches}
use Rattle.encode_case.specs.Call.{Begins}
use Rattle.encode_case.proofs.nothing_asked.Kinds as nothing-asked-kinds
use Rattle.encode_case.proofs.nothing_asked.Reads as nothing_asked
use Rattle.encode_case.proofs.which_case.Kinds as which-case-kinds
use Rattle.encode_case.proofs.which_case.Reads as which-case
use Rattle.encode_case.proofs.nothing_to_do.Kinds as nothing-to-do-kinds
use Rattle.encode_case.proofs.nothing_to_do.Reads as nothing-to-do

pub nothing_asked_determined : One_result 0 nothing-asked-kinds.ps nothing-asked-kinds.r nothing_asked.Post
nothing_asked_determined κs a x y e f p q = p [] ∙ sym (q [])

pub which_case_determined : (κs : Lfts 1) (a : Dens κs which-case-kinds.ps) (x y : (res_t which-case-kinds.r κs).Denot) (e f : AtExit (ended_of 1 which-case-kinds.ps which-case-kinds.r) κs) →
    which-case.Post κs a x e → which-case.Post κs a y f → (c : List ℤ) → WellFormed a.0 a.1.0.now c → x ≡ y
which_case_determined κs a x y e f p q c w = p c w ∙ sym (q c w)

pub nothing_to_do_determined : (κs : Lfts 1) (a : Dens κs nothing-to-do-kinds.ps) (x y : (res_t nothing-to-do-kinds.r κs).Denot)
    (e f : AtExit (ended_of 1 nothing-to-do-kinds.ps nothing-to-do-kinds.r) κs) → nothing-to-do.Post κs a x e → nothing-to-do.Post κs a y f →
    (c : List ℤ) → Begins a.0 a.1.0.now c a.1.1.1.0 → a.1.1.0 ≡ reaches (build_of a.0 a.1.0.now) → x ≡ y
nothing_to_do_determined κs a x y e f p q c h d = p c h d ∙ sym (q c h d)
