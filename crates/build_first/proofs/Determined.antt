-- Any two results that the promise of `build_structure` allows are the same build wherever it fits, word for word, with the same tares,
-- buckets and queue; they agree on the full mark everywhere.
use mathlib.Core.Path.{◌≡◌}
use mathlib.Core.List.{List}
use Prim.Native.Nat.{ℕ, ◌≤◌}
use borrow.Fn.Kinds.{Dens, res_t, ended_of}
use denote.Triple.Clauses.{AtExit}
use contract.Lifetimes.{Lfts}
use lib.IntN.{ℤ}
use Rattle.rules.specs.Build.{Build, build_of}
use Rattle.rules.specs.Buckets.{build_structure}
use Rattle.records.specs.Carries.{St, st, at, Fits, Carries}
use Rattle.records.proofs.Agree.{carries_same}
use Rattle.build_begin.proofs.Determined.{Same_named, named_same, Both, both, both_facts}
use Rattle.build_begin.specs.declared.Structure.{Structure}
use Rattle.build_begin.specs.Answer.{structure_marks}
use Rattle.build_begin.specs.Named.{Named}
use Rattle.build_first.proofs.build_structure.Kinds as kinds
use Rattle.build_first.proofs.build_structure.Reads as build

pub build_structure_determined : (κs : Lfts 2) (a : Dens κs kinds.ps) (x y : (res_t kinds.r κs).Denot) (e f : AtExit (ended_of 2 kinds.ps kinds.r) κs) →
    build.Post κs a x e → build.Post κs a y f → (b : St) (c : List ℤ) → Carries b (st a.1.0.now c (at a.1.1.1.0)) (build_of a.0 a.1.0.now).arena →
    (Fits b (build_structure (build_of a.0 a.1.0.now)).arena →
    (st e.1.0.now c (structure_marks x) ≡ st f.1.0.now c (structure_marks y)) × Both x y (Same_named e.1.1.0.now f.1.1.0.now)) ×
    ((structure_marks x).full ≡ (structure_marks y).full)
build_structure_determined κs a x y e f p q b c h =
    let r = p.0 b c h in
    let s = q.0 b c h in
    let same = carries_same _ _ _ _ r.0 s.0 in
    let whole : Build = build_structure (build_of a.0 a.1.0.now) in
    let P : List ℕ → Structure → Type 0 = λ ws z. ((z.head ≤ 512) × (z.tares_used ≤ 19)) × Named ws z whole in (
      λ k. (
        same.0 k,
        both x y (P e.1.1.0.now) (P f.1.1.0.now) (Same_named e.1.1.0.now f.1.1.0.now)
            (λ z w i j. named_same e.1.1.0.now f.1.1.0.now z w whole i.0.0 j.0.0 i.1 j.1)
            (both_facts x _ (λ z. Named e.1.1.0.now z whole) p.2 (r.1 k)) (both_facts y _ (λ z. Named f.1.1.0.now z whole) q.2 (s.1 k)),
      ),
      same.1,
    )
