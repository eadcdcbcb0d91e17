-- Any two results that the promise of `reach` allows are the same build wherever it fits, word for word, with the same tares and buckets; they
-- agree on whether the room ends, and on what was set aside, everywhere.
use mathlib.Core.Path.{◌≡◌, sym, ◌∙◌}
use mathlib.Core.Logic.{◌⊎◌, inl, inr}
use mathlib.Core.List.{List}
use Prim.Native.Nat.{ℕ}
use borrow.Fn.Kinds.{Dens, res_t, ended_of}
use denote.Triple.Clauses.{AtExit}
use contract.Lifetimes.{Lfts}
use lib.ListN.{take}
use Rattle.std.specs.Prelude.{Option}
use Rattle.rules.specs.Build.{Build, build_of}
use Rattle.rules.specs.Encode.{prepared, encode_outputs}
use Rattle.records.specs.Carries.{St, st, at, marks_of, Fits}
use Rattle.records.proofs.Grow.{fits_or}
use Rattle.records.proofs.Entry.{holds_same}
use Rattle.build_begin.specs.declared.Structure.{Structure}
use Rattle.build_begin.specs.Answer.{structure_marks}
use Rattle.build_begin.specs.Named.{marks_at, Slots}
use Rattle.build_begin.proofs.Determined.{Same_slots, slots_same, Both, both}
use Rattle.encode_outputs.specs.Taken.{whole}
use Rattle.encode_reach.specs.Reached.{Reached}
use Rattle.encode_reach.proofs.reach.Kinds as kinds
use Rattle.encode_reach.proofs.reach.Reads as reach

reached_same : (buckets : List ℕ) (e τ υ : St) (c : Build) (z y : Option Structure) → Reached buckets e τ c z → Reached buckets e υ c y →
    (Fits e (whole c) → (τ ≡ υ) × Both z y Same_slots) × ((marks_of τ).full ≡ (marks_of υ).full)
reached_same buckets e τ υ c z y p q =
    (λ f. (holds_same e τ υ (whole c) (p.fit f).0 (q.fit f).0, both z y (λ v. Slots v c) (λ v. Slots v c) Same_slots (λ v w i j. slots_same v w c i j) (p.fit f).1 (q.fit f).1), go (fits_or e (whole c)))
  where
    go : Fits e (whole c) ⊎ (Fits e (whole c) → ⊥) → (marks_of τ).full ≡ (marks_of υ).full
    go (inl f) = (p.fit f).0.not_full ∙ sym (q.fit f).0.not_full
    go (inr f) = p.full f ∙ sym (q.full f)

pub reach_determined : (κs : Lfts 3) (a : Dens κs kinds.ps) (x y : (res_t kinds.r κs).Denot) (e f : AtExit (ended_of 3 kinds.ps kinds.r) κs) →
    reach.Post κs a x e → reach.Post κs a y f →
    ((Fits (st a.1.0.now a.1.1.0.now (at (marks_at a.0 a.1.1.1.1.0)))
    (whole (encode_outputs (prepared (build_of a.0 a.1.0.now)) a.1.1.1.1.1.1.0.lo a.1.1.1.1.1.1.0.end)) →
    (st e.1.0.now e.1.1.0.now (structure_marks x) ≡ st f.1.0.now f.1.1.0.now (structure_marks y)) × Both x y Same_slots) × ((structure_marks x).full ≡ (structure_marks y).full)) ×
    (take 3072 e.1.1.1.0.now ≡ take 3072 f.1.1.1.0.now)
reach_determined κs a x y e f p q = (reached_same _ _ _ _ _ _ _ p.0 q.0, p.2 ∙ sym q.2)
