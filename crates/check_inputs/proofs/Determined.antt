-- Any two results that the promise of a public function allows are equal, where the words are those of records.
use mathlib.Core.Path.{◌≡◌, sym, ◌∙◌}
use mathlib.Core.List.{List}
use Prim.Native.Nat.{ℕ, ◌≤◌}
use native.Mathlib.Omega.{arith}
use lib.Dec.{leb}
use borrow.Author.Tests.{leb-true, le-leb}
use borrow.Fn.Kinds.{Dens, res_t, ended_of}
use denote.Triple.Clauses.{AtExit}
use contract.Lifetimes.{Lfts}
use Rattle.rules.specs.Records.{Record}
use Rattle.records.specs.Carries.{Reads}
use Rattle.check_inputs.proofs.leaves_first.Kinds as leaves-first-kinds
use Rattle.check_inputs.proofs.leaves_first.Reads as leaves-first
use Rattle.check_inputs.proofs.lowest.Kinds as lowest-kinds
use Rattle.check_inputs.proofs.lowest.Reads as lowest
use Rattle.check_inputs.proofs.each_waits.Kinds as each-waits-kinds
use Rattle.check_inputs.proofs.each_waits.Reads as each_waits

pub leaves_first_determined : (κs : Lfts 1) (a : Dens κs leaves-first-kinds.ps) (x y : (res_t leaves-first-kinds.r κs).Denot) (e f : AtExit (ended_of 1 leaves-first-kinds.ps leaves-first-kinds.r) κs) →
    leaves-first.Post κs a x e → leaves-first.Post κs a y f → (rs : List Record) → Reads a.0 rs → x ≡ y
leaves_first_determined κs a x y e f p q rs h = p rs h ∙ sym (q rs h)

-- a number is known by those that it is at most
leb_same : (x y : ℕ) → ((n : ℕ) → leb x n ≡ leb y n) → x ≡ y
leb_same x y e =
    let low : x ≤ y = leb-true x y (e y ∙ le-leb y y (omega arith)) in
    let high : y ≤ x = leb-true y x (sym (e x) ∙ le-leb x x (omega arith)) in
    omega arith

pub lowest_determined : (κs : Lfts 1) (a : Dens κs lowest-kinds.ps) (x y : (res_t lowest-kinds.r κs).Denot) (e f : AtExit (ended_of 1 lowest-kinds.ps lowest-kinds.r) κs) →
    lowest.Post κs a x e → lowest.Post κs a y f → (rs : List Record) → Reads a.0 rs → x ≡ y
lowest_determined κs a x y e f p q rs h = leb_same x y (λ n. p rs h n ∙ sym (q rs h n))

pub each_waits_determined : (κs : Lfts 1) (a : Dens κs each-waits-kinds.ps) (x y : (res_t each-waits-kinds.r κs).Denot) (e f : AtExit (ended_of 1 each-waits-kinds.ps each-waits-kinds.r) κs) →
    each_waits.Post κs a x e → each_waits.Post κs a y f → (rs : List Record) → Reads a.0 rs → x ≡ y
each_waits_determined κs a x y e f p q rs h = p rs h ∙ sym (q rs h)
