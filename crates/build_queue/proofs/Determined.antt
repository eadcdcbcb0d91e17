-- Any two results that the promise of a public function allows are the same weight or the same queue: of `gather` with its members,
-- wherever the arena that it leads to fits, and whether the room ends everywhere.
use mathlib.Core.Path.{◌≡◌, sym, ◌∙◌}
use mathlib.Core.List.{List, ◌++◌, map}
use Prim.Native.Nat.{ℕ, ◌^◌, ◌≤◌, ◌<◌}
use native.Mathlib.Omega.{arith}
use borrow.Fn.Kinds.{Dens, res_t, ended_of}
use denote.Triple.Clauses.{AtExit}
use contract.Lifetimes.{Lfts}
use lib.IntN.{ℤ}
use lib.ListN.{length, drop}
use Rattle.rules.specs.Records.{Record, Entry, waiting}
use Rattle.rules.specs.Build.{largest}
use Rattle.rules.specs.Queue.{queue_run}
use Rattle.numbers.proofs.Determined.{One_result}
use Rattle.records.specs.Carries.{st, at, Reads}
use Rattle.build_queue.specs.Gathered.{run_head, run_marks}
use Rattle.records.proofs.Entry.{Same_made, makes_determined}
use Rattle.build_line.specs.Work.{line, members_from}
use Rattle.build_queue.specs.Queued.{sorting}
use Rattle.build_queue.proofs.weight.Kinds as weight-kinds
use Rattle.build_queue.proofs.weight.Reads as weight
use Rattle.build_queue.proofs.gather.Kinds as gather-kinds
use Rattle.build_queue.proofs.gather.Reads as gather
use Rattle.build_queue.proofs.enqueue.Kinds as enqueue-kinds
use Rattle.build_queue.proofs.enqueue.Reads as enqueue

pub weight_determined : One_result 1 weight-kinds.ps weight-kinds.r weight.Post
weight_determined κs a x y e f p q = p ∙ sym q

pub gather_determined : (κs : Lfts 2) (a : Dens κs gather-kinds.ps) (x y : (res_t gather-kinds.r κs).Denot) (e f : AtExit (ended_of 2 gather-kinds.ps gather-kinds.r) κs) →
    gather.Post κs a x e → gather.Post κs a y f → (c : List ℤ) (n : ℕ) → n ≤ 20 → largest (line a.1.0.now a.1.1.1.0) < 2 ^ n →
    Same_made (st a.0.now c (at a.1.1.0)) (st e.0.now c (run_marks x)) (st f.0.now c (run_marks y))
    (members_from e.1.0.now 0 n, line e.1.0.now (run_head x)) (members_from f.1.0.now 0 n, line f.1.0.now (run_head y))
    (sorting (queue_run (largest (line a.1.0.now a.1.1.1.0)) a.1.1.1.1.0) (members_from a.1.0.now 0 n, line a.1.0.now a.1.1.1.0))
gather_determined κs a x y e f p q c n i j = makes_determined _ _ _ _ _ _ (p.0 c n i j) (q.0 c n i j)

pub enqueue_determined : (κs : Lfts 2) (a : Dens κs enqueue-kinds.ps) (x y : (res_t enqueue-kinds.r κs).Denot) (e f : AtExit (ended_of 2 enqueue-kinds.ps enqueue-kinds.r) κs) →
    enqueue.Post κs a x e → enqueue.Post κs a y f → (x ≡ y) × (drop 1024 e.1.0.now ≡ drop 1024 f.1.0.now) ×
    ((rs : List Record) (es : List Entry) → Reads a.0 (rs ++ map waiting es) → length rs ≡ a.1.1.0 →
    line e.1.0.now x ≡ line f.1.0.now y)
enqueue_determined κs a x y e f p q = (omega (arith, p.1, q.1), p.3 ∙ sym q.3, λ rs es h k. p.0 rs es h k ∙ sym (q.0 rs es h k))
