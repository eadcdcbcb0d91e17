-- Any two results that the promise of a public function allows are equal: those of `spread` where the words store records, those of
-- `through` where the value fits a word, those of a step wherever the arena that it leads to fits; steps agree everywhere on
-- whether the room ends.
use mathlib.Core.Path.{◌≡◌, sym, ap, ◌∙◌}
use mathlib.Core.List.{List}
use Prim.Native.Nat.{ℕ, suc, ◌+◌, ◌-◌, ◌≤◌, ◌<◌, min}
use lib.IntN.{pos}
use borrow.Fn.Kinds.{Dens, res_t, ended_of}
use denote.Triple.Clauses.{AtExit}
use contract.Lifetimes.{Lfts}
use Rattle.rules.specs.Records.{Record, node_at, literal_word}
use Rattle.rules.specs.Totalizer.{asks, pairs_from, write as write-rule, take_number}
use Rattle.numbers.proofs.Determined.{One_result}
use Rattle.records.specs.Carries.{st, at, after, Reads}
use Rattle.records.proofs.Entry.{Same_end, steps_determined}
use Rattle.totalizer_clauses.proofs.spread.Kinds as spread-kinds
use Rattle.totalizer_clauses.proofs.spread.Reads as spread
use Rattle.totalizer_clauses.proofs.further.Kinds as further-kinds
use Rattle.totalizer_clauses.proofs.further.Reads as further
use Rattle.totalizer_clauses.proofs.through.Kinds as through-kinds
use Rattle.totalizer_clauses.proofs.through.Reads as through
use Rattle.totalizer_clauses.proofs.write.Kinds as write-kinds
use Rattle.totalizer_clauses.proofs.write.Reads as write
use Rattle.totalizer_clauses.proofs.finish.Kinds as finish-kinds
use Rattle.totalizer_clauses.proofs.finish.Reads as finish

pub spread_determined : (κs : Lfts 1) (a : Dens κs spread-kinds.ps) (x y : (res_t spread-kinds.r κs).Denot) (e f : AtExit (ended_of 1 spread-kinds.ps spread-kinds.r) κs) →
    spread.Post κs a x e → spread.Post κs a y f → (rs : List Record) → Reads a.0 rs → (x.lo ≡ y.lo) × (x.many ≡ y.many)
spread_determined κs a x y e f p q rs h =
    let lo : x.lo ≡ y.lo = p.lo_is rs h ∙ sym (q.lo_is rs h) in
    (lo, p.many_is rs h ∙ (ap (λ (z : ℕ). suc (min a.1.1.0 (node_at rs a.1.0.left).maximum) - z) lo ∙ sym (q.many_is rs h)))

pub further_determined : One_result 0 further-kinds.ps further-kinds.r further.Post
further_determined κs a x y e f p q = p ∙ sym q

pub through_determined : (κs : Lfts 0) (a : Dens κs through-kinds.ps) (x y : (res_t through-kinds.r κs).Denot) (e f : AtExit (ended_of 0 through-kinds.ps through-kinds.r) κs) →
    through.Post κs a x e → through.Post κs a y f → asks a.0 a.1.0 < 4294967296 →
    x ≡ y
through_determined κs a x y e f p q i = p i ∙ sym (q i)

pub write_determined : (κs : Lfts 2) (a : Dens κs write-kinds.ps) (x y : (res_t write-kinds.r κs).Denot) (e f : AtExit (ended_of 2 write-kinds.ps write-kinds.r) κs) →
    write.Post κs a x e → write.Post κs a y f →
    let sides = a.1.1.1.0 in let v = a.1.1.1.1.0 in let pairs = a.1.1.1.1.1.0 in
    (number : ℕ) → a.1.1.1.1.1.1.0 ≡ literal_word (pos number) → pairs.lo + pairs.many ≤ v + 1 → asks sides.half (v - pairs.lo) < 4294967296 →
    Same_end (st a.0.now a.1.0.now (at a.1.1.0)) (st a.0.now e.1.0.now (after x)) (st a.0.now f.1.0.now (after y)) (write-rule sides.half sides.left sides.right number (pairs_from pairs.many pairs.lo v))
write_determined κs a x y e f p q n i j k = steps_determined _ _ _ _ (p n i j k) (q n i j k)

pub finish_determined : (κs : Lfts 2) (a : Dens κs finish-kinds.ps) (x y : (res_t finish-kinds.r κs).Denot) (e f : AtExit (ended_of 2 finish-kinds.ps finish-kinds.r) κs) →
    finish.Post κs a x e → finish.Post κs a y f →
    let v = a.1.1.1.1.0 in let sides = a.1.1.1.1.1.0 in let pairs = a.1.1.1.1.1.1.0 in
    pairs.lo + pairs.many ≤ v + 1 → asks sides.half (v - pairs.lo) < 4294967296 →
    Same_end (st a.0.now a.1.0.now (at a.1.1.0)) (st e.0.now e.1.0.now (after x)) (st f.0.now f.1.0.now (after y)) (λ t. take_number a.1.1.1.0 v (write-rule sides.half sides.left sides.right t.fresh (pairs_from pairs.many pairs.lo v) t))
finish_determined κs a x y e f p q i j = steps_determined _ _ _ _ (p i j) (q i j)
