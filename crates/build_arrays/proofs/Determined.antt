-- Any two results that the promise of a public function allows are equal; those of `append`, where the array is filled from the front.
use mathlib.Core.Path.{◌≡◌, sym, ◌∙◌}
use mathlib.Core.List.{List}
use Prim.Native.Nat.{ℕ}
use borrow.Fn.Kinds.{Dens, res_t, ended_of}
use denote.Triple.Clauses.{AtExit}
use contract.Lifetimes.{Lfts}
use mir.Syntax.{w64}
use mir.Val.{Fits}
use lib.ListN.{length}
use Rattle.rules.specs.Lists.{padded}
use Rattle.build_arrays.proofs.fresh_tares.Kinds as fresh-tares-kinds
use Rattle.build_arrays.proofs.fresh_tares.Reads as fresh_tares
use Rattle.build_arrays.proofs.append.Kinds as append-kinds
use Rattle.build_arrays.proofs.append.Reads as append

pub fresh_tares_determined : (κs : Lfts 0) (a : Dens κs fresh-tares-kinds.ps) (x y : (res_t fresh-tares-kinds.r κs).Denot) (e f : AtExit (ended_of 0 fresh-tares-kinds.ps fresh-tares-kinds.r) κs) →
    fresh_tares.Post κs a x e → fresh_tares.Post κs a y f → x ≡ y
fresh_tares_determined κs a x y e f p q = p ∙ sym q

pub append_determined : (n : ℕ) (i : Fits w64 n) (κs : Lfts 2) (a : Dens κs (append-kinds.ps n i)) (x y : (res_t (append-kinds.r n i) κs).Denot)
    (e f : AtExit (ended_of 2 (append-kinds.ps n i) (append-kinds.r n i)) κs) →
    append.Post n i κs a x e → append.Post n i κs a y f → (xs : List ℕ) → length xs ≡ a.1.0 → a.0 ≡ padded 0 n xs → x ≡ y
append_determined n i κs a x y e f p q xs j k = p xs j k ∙ sym (q xs j k)
