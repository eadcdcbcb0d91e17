-- Any two results that the promise of a public function allows are equal wherever the arena that it leads to fits, and they agree on
-- whether the room ends everywhere.
use mathlib.Core.List.{List}
use Prim.Native.Nat.{ℕ}
use borrow.Fn.Kinds.{Dens, res_t, ended_of}
use denote.Triple.Clauses.{AtExit}
use contract.Lifetimes.{Lfts}
use Rattle.records.specs.Carries.{st, at, after}
use Rattle.records.proofs.Entry.{Same_end, steps_determined}
use Rattle.records_clauses.specs.Clauses.{with_clause, clause_of}
use Rattle.records_clauses.proofs.put_clause.Kinds as put-clause-kinds
use Rattle.records_clauses.proofs.put_clause.Reads as put-clause

pub put_clause_determined : (κs : Lfts 1) (a : Dens κs put-clause-kinds.ps) (x y : (res_t put-clause-kinds.r κs).Denot) (e f : AtExit (ended_of 1 put-clause-kinds.ps put-clause-kinds.r) κs) →
    put-clause.Post κs a x e → put-clause.Post κs a y f → (s : List ℕ) →
    Same_end (st s a.0.now (at a.1.0)) (st s e.0.now (after x)) (st s f.0.now (after y)) (with_clause (clause_of a.1.1.0 a.1.1.1.0 a.1.1.1.1.0))
put_clause_determined κs a x y e f p q s = steps_determined _ _ _ _ (p s) (q s)
