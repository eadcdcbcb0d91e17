-- Any two results that the promise of `merge` allows are equal, wherever the arena that it leads to fits; they agree on whether
-- the room ends everywhere.
use mathlib.Core.List.{List}
use borrow.Fn.Kinds.{Dens, res_t, ended_of}
use denote.Triple.Clauses.{AtExit}
use contract.Lifetimes.{Lfts}
use lib.IntN.{ℤ}
use Rattle.rules.specs.Totalizer.{merge as merge-rule}
use Rattle.records.specs.Carries.{st, at, on_records}
use Rattle.records_append.specs.Made.{made_marks, made_node}
use Rattle.records.proofs.Entry.{Same_made, makes_determined}
use Rattle.totalizer_merge.proofs.merge.Kinds as merge-kinds
use Rattle.totalizer_merge.proofs.merge.Reads as merge

pub merge_determined : (κs : Lfts 2) (a : Dens κs merge-kinds.ps) (x y : (res_t merge-kinds.r κs).Denot) (e f : AtExit (ended_of 2 merge-kinds.ps merge-kinds.r) κs) →
    merge.Post κs a x e → merge.Post κs a y f → (c : List ℤ) →
    Same_made (st a.0.now c (at a.1.1.0)) (st e.0.now c (made_marks x)) (st f.0.now c (made_marks y)) (made_node x) (made_node y) (on_records (λ rs. merge-rule rs a.1.0.now))
merge_determined κs a x y e f p q c = makes_determined _ _ _ _ _ _ (p c) (q c)
