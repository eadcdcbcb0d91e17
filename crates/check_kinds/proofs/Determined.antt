-- Any two results that the promise of a public function allows are equal, where the records stand in the words.
use mathlib.Core.Path.{◌≡◌, sym, ◌∙◌}
use Prim.Native.Nat.{◌*◌, ◌≤◌}
use lib.ListN.{length}
use borrow.Fn.Kinds.{Dens, res_t, ended_of}
use denote.Triple.Clauses.{AtExit}
use contract.Lifetimes.{Lfts}
use Rattle.check_kinds.proofs.kinds_known.Kinds as kinds-known-kinds
use Rattle.check_kinds.proofs.kinds_known.Reads as kinds_known

pub kinds_known_determined : (κs : Lfts 1) (a : Dens κs kinds-known-kinds.ps) (x y : (res_t kinds-known-kinds.r κs).Denot) (e f : AtExit (ended_of 1 kinds-known-kinds.ps kinds-known-kinds.r) κs) →
    kinds_known.Post κs a x e → kinds_known.Post κs a y f → 8 * a.0.records ≤ length a.0.words.now → x ≡ y
kinds_known_determined κs a x y e f p q room = p room ∙ sym (q room)
