-- Any two results that the promise of a public function allows are the same queue, and so are the buckets of `tower`, wherever the arena that
-- it leads to fits; they agree on the full mark everywhere.
use mathlib.Core.Path.{◌≡◌, sym, ap, ◌∙◌}
use mathlib.Core.List.{List, ◌++◌, map}
use Prim.Native.Nat.{ℕ, ◌^◌, ◌<◌}
use native.Mathlib.Omega.{arith}
use borrow.Fn.Kinds.{Dens, res_t, ended_of}
use denote.Triple.Clauses.{AtExit}
use contract.Lifetimes.{Lfts}
use lib.ListN.{length}
use lib.IntN.{ℤ}
use Rattle.rules.specs.Records.{Record, Entry, waiting}
use Rattle.rules.specs.Build.{largest}
use Rattle.records.specs.Carries.{st, at, Reads}
use Rattle.records.proofs.Entry.{Same_made, makes_determined}
use Rattle.build_line.specs.Work.{line, count_at, members_from, made_in}
use Rattle.build_line.proofs.Determined.{heads_same}
use Rattle.build_buckets.proofs.Words.{made_length}
use Rattle.build_tower.specs.Answer.{segment_head, segment_marks, segment_used}
use Rattle.build_tower.specs.Rule.{tower as tower-rule}
use Rattle.build_tower.proofs.queued.Kinds as queued-kinds
use Rattle.build_tower.proofs.queued.Reads as queued
use Rattle.build_tower.proofs.tower.Kinds as tower-kinds
use Rattle.build_tower.proofs.tower.Reads as tower

pub queued_determined : (κs : Lfts 2) (a : Dens κs queued-kinds.ps) (x y : (res_t queued-kinds.r κs).Denot) (e f : AtExit (ended_of 2 queued-kinds.ps queued-kinds.r) κs) →
    queued.Post κs a x e → queued.Post κs a y f → ((k : ℕ) → k < 20 → count_at e.1.0.now k ≡ count_at f.1.0.now k) ×
    ((rs : List Record) (es : List Entry) → Reads a.0 (rs ++ map waiting es) → length rs ≡ a.1.1.0 →
    (x ≡ y) × (line e.1.0.now x ≡ line f.1.0.now y))
queued_determined κs a x y e f p q = (
  λ k i. p.1 k i ∙ sym (q.1 k i),
  λ rs es h i.
      let same = p.0 rs es h i ∙ sym (q.0 rs es h i) in (heads_same e.1.0.now f.1.0.now x y p.3 q.3 same, same),
)

pub tower_determined : (κs : Lfts 3) (a : Dens κs tower-kinds.ps) (x y : (res_t tower-kinds.r κs).Denot) (e f : AtExit (ended_of 3 tower-kinds.ps tower-kinds.r) κs) →
    tower.Pre κs a → tower.Post κs a x e → tower.Post κs a y f →
    ((c : List ℤ) → largest (line a.1.0.now a.1.1.1.0) < 2 ^ a.1.1.1.1.0.end →
    Same_made (st a.0.now c (at a.1.1.0)) (st e.0.now c (segment_marks x)) (st f.0.now c (segment_marks y))
    (made_in e.1.0.now (segment_used x), line e.1.0.now (segment_head x)) (made_in f.1.0.now (segment_used y), line f.1.0.now (segment_head y))
    (tower-rule a.1.1.1.1.0.taken a.1.1.1.1.0.divisor a.1.1.1.1.0.low a.1.1.1.1.0.tares.now
    (members_from a.1.0.now 0 a.1.1.1.1.0.end) (line a.1.0.now a.1.1.1.0))) ×
    (made_in e.1.0.now (segment_used x) ≡ made_in f.1.0.now (segment_used y) → (segment_used x) ≡ (segment_used y)) ×
    (line e.1.0.now (segment_head x) ≡ line f.1.0.now (segment_head y) → (segment_head x) ≡ (segment_head y))
tower_determined κs a x y e f pre p q = (
  λ c i. makes_determined _ _ _ _ _ _ (p.0 c i) (q.0 c i),
  λ same. sym (made_length e.1.0.now (segment_used x) (omega (arith, pre.3, p.2)) (omega (arith, pre.0.long, p.1))) ∙
      (ap length same ∙ made_length f.1.0.now (segment_used y) (omega (arith, pre.3, q.2)) (omega (arith, pre.0.long, q.1))),
  heads_same e.1.0.now f.1.0.now (segment_head x) (segment_head y) p.3 q.3,
)
