-- Any two results that the promise of a public function allows are equal, wherever the arena that it leads to fits; they agree on
-- whether the room ends everywhere.
use mathlib.Core.Path.{◌≡◌}
use Prim.Native.Nat.{◌+◌, ◌≤◌}
use lib.IntN.{pos}
use borrow.Fn.Kinds.{Dens, res_t, ended_of}
use denote.Triple.Clauses.{AtExit}
use contract.Lifetimes.{Lfts}
use Rattle.rules.specs.Lists.{in_turn, rising}
use Rattle.rules.specs.Records.{Output, literal_word}
use Rattle.rules.specs.Totalizer.{define_output}
use Rattle.rules.specs.Refinement.{extend as extend-rule}
use Rattle.records.specs.Carries.{st, at, after}
use Rattle.records.proofs.Entry.{Same_end, steps_determined}
use Rattle.totalizer_define.proofs.define.Kinds as define-kinds
use Rattle.totalizer_define.proofs.define.Reads as define
use Rattle.totalizer_define.proofs.define_from.Kinds as define-from-kinds
use Rattle.totalizer_define.proofs.define_from.Reads as define-from
use Rattle.totalizer_define.proofs.extend.Kinds as extend-kinds
use Rattle.totalizer_define.proofs.extend.Reads as extend

pub define_determined : (κs : Lfts 2) (a : Dens κs define-kinds.ps) (x y : (res_t define-kinds.r κs).Denot) (e f : AtExit (ended_of 2 define-kinds.ps define-kinds.r) κs) →
    define.Post κs a x e → define.Post κs a y f →
    Same_end (st a.0.now a.1.0.now (at a.1.1.0)) (st e.0.now e.1.0.now (after x)) (st f.0.now f.1.0.now (after y)) (λ t. define_output t a.1.1.1.0 a.1.1.1.1.0)
define_determined κs a x y e f p q = steps_determined _ _ _ _ p q

pub define_from_determined : (κs : Lfts 2) (a : Dens κs define-from-kinds.ps) (x y : (res_t define-from-kinds.r κs).Denot) (e f : AtExit (ended_of 2 define-from-kinds.ps define-from-kinds.r) κs) →
    define-from.Post κs a x e → define-from.Post κs a y f → a.1.1.1.1.0 + a.1.1.1.1.1.0 ≤ 4294967296 →
    Same_end (st a.0.now a.1.0.now (at a.1.1.0)) (st e.0.now e.1.0.now (after x)) (st f.0.now f.1.0.now (after y)) (λ t. in_turn (λ t v. define_output t a.1.1.1.0 v) t (rising a.1.1.1.1.1.0 a.1.1.1.1.0))
define_from_determined κs a x y e f p q i = steps_determined _ _ _ _ (p i) (q i)

pub extend_determined : (κs : Lfts 2) (a : Dens κs extend-kinds.ps) (x y : (res_t extend-kinds.r κs).Denot) (e f : AtExit (ended_of 2 extend-kinds.ps extend-kinds.r) κs) →
    extend.Post κs a x e → extend.Post κs a y f → (o : Output) → a.1.1.1.1.1.0 ≡ o.value → a.1.1.1.1.1.1.0 ≡ literal_word (pos o.number) →
    Same_end (st a.0.now a.1.0.now (at a.1.1.0)) (st e.0.now e.1.0.now (after x)) (st f.0.now f.1.0.now (after y)) (λ t. extend-rule a.1.1.1.0 a.1.1.1.1.0 t o)
extend_determined κs a x y e f p q o i j = steps_determined _ _ _ _ (p o i j) (q o i j)
