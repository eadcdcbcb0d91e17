-- Any two results that the promise of `merge_structures` allows are the same refinement wherever it fits, word for word, with the same tares,
-- buckets and queue; they agree on whether the room ends everywhere.
use mathlib.Core.Path.{◌≡◌, sym, ◌∙◌}
use mathlib.Core.Logic.{◌⊎◌, inl, inr}
use mathlib.Core.Bool.{true}
use mathlib.Core.List.{List}
use Rattle.std.specs.Prelude.{Option, Some, None, IfSome}
use Prim.Native.Nat.{ℕ, ◌≤◌}
use borrow.Fn.Kinds.{Dens, res_t, ended_of}
use denote.Triple.Clauses.{AtExit}
use contract.Lifetimes.{Lfts}
use Rattle.rules.specs.Build.{Build, build_of}
use Rattle.rules.specs.Refinement.{merge_structures}
use Rattle.records.specs.Carries.{St, st, at, marks_of, Fits, Holds}
use Rattle.records.proofs.Grow.{fits_or}
use Rattle.records.proofs.Entry.{holds_same}
use Rattle.build_begin.specs.declared.Structure.{Structure}
use Rattle.build_begin.specs.Answer.{structure_marks}
use Rattle.build_begin.specs.Named.{Named}
use Rattle.build_begin.proofs.Determined.{Same_named, named_same}
use Rattle.refine_structure.specs.Refined.{Renews, Refines}
use Rattle.refine_structure.proofs.Bases.{based_fits, fits_based, based_holds}
use Rattle.refine_structure.proofs.merge_structures.Kinds as kinds
use Rattle.refine_structure.proofs.merge_structures.Reads as merge

module _ (b : Build) (e τ υ : St) (ws vs : List ℕ) (x y : Option Structure) (p : Refines b e τ ws x) (q : Refines b e υ vs y) where
  holds : (σ : St) (r : Renews b.buckets e σ (merge_structures b).arena) → Fits e (merge_structures b).arena → Holds e σ (merge_structures b).arena
  holds σ r f =
      based_holds _ e r.entry r.places r.based (merge_structures b).arena σ r.within
      (r.carries.fit (based_fits _ e r.entry r.places r.based (merge_structures b).arena f))

  same_where : Fits e (merge_structures b).arena → (τ ≡ υ) × IfSome x (λ z. Named ws z (merge_structures b)) × IfSome y (λ w. Named vs w (merge_structures b))
  same_where f = (
    holds_same e τ υ (merge_structures b).arena (holds τ p.renews f) (holds υ q.renews f),
    p.named (based_fits _ e p.renews.entry p.renews.places p.renews.based (merge_structures b).arena f),
    q.named (based_fits _ e q.renews.entry q.renews.places q.renews.based (merge_structures b).arena f),
  )

  full_same : (marks_of τ).full ≡ (marks_of υ).full
  full_same = go (fits_or e (merge_structures b).arena)
    where
      over : (σ : St) (r : Renews b.buckets e σ (merge_structures b).arena) → (Fits e (merge_structures b).arena → ⊥) → (marks_of σ).full ≡ true
      over σ r f = r.carries.full (λ x. f (fits_based _ e r.entry r.places r.based (merge_structures b).arena x))

      go : Fits e (merge_structures b).arena ⊎ (Fits e (merge_structures b).arena → ⊥) → (marks_of τ).full ≡ (marks_of υ).full
      go (inl f) = (holds τ p.renews f).not_full ∙ sym (holds υ q.renews f).not_full
      go (inr f) = over τ p.renews f ∙ sym (over υ q.renews f)

-- the structures in two answers name the same
abbrev pub Same_answers : List ℕ → List ℕ → Option Structure → Option Structure → Type 0
Same_answers ws vs x y = IfSome x (λ z. IfSome y (λ w. Same_named ws vs z w))

answers_same : (ws vs : List ℕ) (c : Build) (x y : Option Structure) → IfSome x (λ z. (z.head ≤ 512) × (z.tares_used ≤ 19) × (z.buckets_used ≤ 20)) →
    IfSome y (λ z. (z.head ≤ 512) × (z.tares_used ≤ 19) × (z.buckets_used ≤ 20)) →
    IfSome x (λ z. Named ws z c) → IfSome y (λ z. Named vs z c) → Same_answers ws vs x y
answers_same ws vs c None y i j n k = tt
answers_same ws vs c (Some z) None i j n k = tt
answers_same ws vs c (Some z) (Some w) i j n k = named_same ws vs z w c i.0 j.0 n k

pub merge_structures_determined : (κs : Lfts 3) (a : Dens κs kinds.ps) (x y : (res_t kinds.r κs).Denot) (e f : AtExit (ended_of 3 kinds.ps kinds.r) κs) →
    merge.Post κs a x e → merge.Post κs a y f →
    (Fits (st a.1.0.now a.1.1.0.now (at a.1.1.1.1.0)) (merge_structures (build_of a.0 a.1.0.now)).arena →
    (st e.1.0.now e.1.1.0.now (structure_marks x) ≡ st f.1.0.now f.1.1.0.now (structure_marks y)) ×
    Same_answers e.1.1.1.0.now f.1.1.1.0.now x y) × ((structure_marks x).full ≡ (structure_marks y).full)
merge_structures_determined κs a x y e f p q = (
  λ h. let r = same_where _ _ _ _ _ _ _ _ p.0 q.0 h in (r.0, answers_same _ _ _ x y p.2 q.2 r.1 r.2),
  full_same _ _ _ _ _ _ _ _ p.0 q.0,
)
