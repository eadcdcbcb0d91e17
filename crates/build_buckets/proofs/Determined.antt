-- Any two results that the promise of `buckets_over` allows are equal, wherever the arena that it leads to fits, and so are the buckets
-- made; they agree on the full mark and the queue's words everywhere.
use mathlib.Core.Path.{◌≡◌, sym, ap, ◌∙◌}
use mathlib.Core.List.{List, []}
use Prim.Native.Nat.{◌-◌}
use native.Mathlib.Omega.{arith}
use borrow.Fn.Kinds.{Dens, res_t, ended_of}
use denote.Triple.Clauses.{AtExit}
use contract.Lifetimes.{Lfts}
use lib.ListN.{length, take}
use lib.IntN.{ℤ}
use Rattle.rules.specs.Buckets.{buckets_over as buckets-rule}
use Rattle.records.specs.Carries.{st, at, on_records}
use Rattle.records.proofs.Entry.{Same_made, makes_determined}
use Rattle.build_line.specs.Work.{members_from, made_in}
use Rattle.build_buckets.specs.Answers.{tower_marks, tower_used}
use Rattle.build_buckets.proofs.Words.{made_length}
use Rattle.build_buckets.proofs.buckets_over.Kinds as buckets-over-kinds
use Rattle.build_buckets.proofs.buckets_over.Reads as buckets_over

pub buckets_over_determined : (κs : Lfts 3) (a : Dens κs buckets-over-kinds.ps) (x y : (res_t buckets-over-kinds.r κs).Denot)
    (e f : AtExit (ended_of 3 buckets-over-kinds.ps buckets-over-kinds.r) κs) → buckets_over.Pre κs a → buckets_over.Post κs a x e → buckets_over.Post κs a y f →
    ((c : List ℤ) → Same_made (st a.0.now c (at a.1.1.0)) (st e.0.now c (tower_marks x)) (st f.0.now c (tower_marks y))
    (made_in e.1.0.now (tower_used x)) (made_in f.1.0.now (tower_used y))
    (on_records (λ rs. buckets-rule a.1.1.1.0 rs [] a.1.1.1.1.0.now
    (members_from a.1.0.now a.1.1.1.1.1.0 (a.1.1.1.1.1.1.0 - a.1.1.1.1.1.0))))) ×
    (made_in e.1.0.now (tower_used x) ≡ made_in f.1.0.now (tower_used y) → tower_used x ≡ tower_used y) × (take 1024 e.1.0.now ≡ take 1024 f.1.0.now)
buckets_over_determined κs a x y e f pre p q = (
  λ c. makes_determined _ _ _ _ _ _ (p.0 c) (q.0 c),
  λ same. sym (made_length e.1.0.now (tower_used x) (omega (arith, pre.1, p.3)) (omega (arith, pre.2, p.1))) ∙
      (ap length same ∙ made_length f.1.0.now (tower_used y) (omega (arith, pre.1, q.3)) (omega (arith, pre.2, q.1))),
  p.2 ∙ sym q.2,
)
