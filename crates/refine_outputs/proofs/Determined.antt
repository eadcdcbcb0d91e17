-- Any two results that the promise of `extend_buckets` allows are equal, wherever the arena that it leads to fits; they agree on
-- whether the room ends everywhere.
use mathlib.Core.Path.{◌≡◌}
use mathlib.Core.List.{List, map, reverse}
use Prim.Native.Nat.{◌≤◌}
use lib.ListN.{length, take}
use borrow.Fn.Kinds.{Dens, res_t, ended_of}
use denote.Triple.Clauses.{AtExit}
use contract.Lifetimes.{Lfts}
use Rattle.rules.specs.Lists.{in_turn}
use Rattle.rules.specs.Records.{Record, outputs}
use Rattle.rules.specs.Totalizer.{Arena}
use Rattle.rules.specs.Refinement.{former_half, extend_bucket}
use Rattle.records.specs.Carries.{St, st, at, after, Carries}
use Rattle.records.proofs.Agree.{Agree, carries_same}
use Rattle.refine_outputs.proofs.extend_buckets.Kinds as extend-buckets-kinds
use Rattle.refine_outputs.proofs.extend_buckets.Reads as extend-buckets

pub extend_buckets_determined : (κs : Lfts 4) (a : Dens κs extend-buckets-kinds.ps) (x y : (res_t extend-buckets-kinds.r κs).Denot) (e f : AtExit (ended_of 4 extend-buckets-kinds.ps extend-buckets-kinds.r) κs) →
    extend-buckets.Post κs a x e → extend-buckets.Post κs a y f → (b : St) (t : Arena) (before : List Record) → Carries b (st a.0.now a.1.0.now (at a.1.1.0)) t →
    a.1.1.1.0 ≤ length t.records → outputs (take a.1.1.1.0 t.records) ≡ outputs before →
    a.1.1.1.1.1.0.now ≡ map (former_half before) a.1.1.1.1.0.now →
    Agree b (st e.0.now e.1.0.now (after x)) (st f.0.now f.1.0.now (after y)) (in_turn (extend_bucket before) t (reverse a.1.1.1.1.0.now))
extend_buckets_determined κs a x y e f p q b t before h i same halves = carries_same _ _ _ _ (p b t before h i same halves) (q b t before h i same halves)
