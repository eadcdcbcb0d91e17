-- Any two results that the promise of a public function allows are equal: the values of a range, those of `all_defined` where the words
-- store records, those of `completed` wherever the arena that it leads to fits; they agree on whether the room ends, on
-- the tares and on the buckets everywhere.
use mathlib.Core.Path.{◌≡◌, sym, ap, ◌∙◌}
use mathlib.Core.List.{List}
use Prim.Native.Nat.{ℕ, zero, suc, ◌≤◌}
use native.Mathlib.Omega.{arith}
use borrow.Fn.Kinds.{Dens, res_t, ended_of}
use denote.Triple.Clauses.{AtExit}
use contract.Lifetimes.{Lfts}
use lib.ListN.{length, get_or}
use Rattle.rules.specs.Lists.{rising}
use Rattle.rules.specs.Records.{Record}
use Rattle.rules.specs.Build.{Build}
use Rattle.rules.specs.Encode.{encode_outputs}
use Rattle.laws.specs.Lists.Facts.{rising_length}
use Rattle.records.specs.Carries.{St, st, at, Fits, Carries, Reads}
use Rattle.records.proofs.Agree.{Agree, carries_same}
use Rattle.build_begin.specs.declared.Structure.{Structure}
use Rattle.build_begin.specs.Answer.{structure_marks}
use Rattle.build_begin.specs.Named.{with_marks, Slots}
use Rattle.build_begin.proofs.Determined.{Both, both}
use Rattle.encode_outputs.specs.Taken.{entries_at, whole}
use Rattle.encode_outputs.proofs.values.Kinds as values-kinds
use Rattle.encode_outputs.proofs.values.Reads as values
use Rattle.encode_outputs.proofs.all_defined.Kinds as all-defined-kinds
use Rattle.encode_outputs.proofs.all_defined.Reads as all_defined
use Rattle.encode_outputs.proofs.completed.Kinds as completed-kinds
use Rattle.encode_outputs.proofs.completed.Reads as completed

many_same : (m n k l : ℕ) → rising m k ≡ rising n l → m ≡ n
many_same m n k l h = omega (arith, ap length h, rising_length m k, rising_length n l)

first_same : (m n k l : ℕ) → rising m k ≡ rising n l → 1 ≤ m → k ≡ l
unfolding rising
first_same zero n k l h i = absurd (omega arith)
first_same (suc m) zero k l h i = absurd (omega (arith, many_same (suc m) zero k l h))
first_same (suc m) (suc n) k l h i = ap (λ (xs : List ℕ). get_or xs 0 0) h

pub values_determined : (κs : Lfts 0) (a : Dens κs values-kinds.ps) (x y : (res_t values-kinds.r κs).Denot) (e f : AtExit (ended_of 0 values-kinds.ps values-kinds.r) κs) →
    values.Post κs a x e → values.Post κs a y f → (x.many ≡ y.many) × (1 ≤ x.many → x.first ≡ y.first)
values_determined κs a x y e f p q =
    let same = p.0 ∙ sym q.0 in
    (many_same x.many y.many x.first y.first same, first_same x.many y.many x.first y.first same)

pub all_defined_determined : (κs : Lfts 1) (a : Dens κs all-defined-kinds.ps) (x y : (res_t all-defined-kinds.r κs).Denot) (e f : AtExit (ended_of 1 all-defined-kinds.ps all-defined-kinds.r) κs) →
    all_defined.Post κs a x e → all_defined.Post κs a y f → (rs : List Record) → Reads a.0 rs → x ≡ y
all_defined_determined κs a x y e f p q rs h = p rs h ∙ sym (q rs h)

pub completed_determined : (κs : Lfts 3) (a : Dens κs completed-kinds.ps) (x y : (res_t completed-kinds.r κs).Denot) (e f : AtExit (ended_of 3 completed-kinds.ps completed-kinds.r) κs) →
    completed.Post κs a x e → completed.Post κs a y f → (b : St) (c : Build) → Carries b (st a.0.now a.1.0.now (at a.1.1.1.0.marks)) c.arena →
    (Fits b c.arena → Slots a.1.1.1.0 c × (entries_at a.1.1.0.now a.1.1.1.1.1.0 ≡ c.queue)) →
    Agree b (st e.0.now e.1.0.now (structure_marks x)) (st f.0.now f.1.0.now (structure_marks y)) (whole (encode_outputs c a.1.1.1.1.0.lo a.1.1.1.1.0.end))
completed_determined κs a x y e f p q b c h k = carries_same _ _ _ _ (p.1 b c h k) (q.1 b c h k)

pub completed_slots : (κs : Lfts 3) (a : Dens κs completed-kinds.ps) (x y : (res_t completed-kinds.r κs).Denot) (e f : AtExit (ended_of 3 completed-kinds.ps completed-kinds.r) κs) →
    completed.Post κs a x e → completed.Post κs a y f → Both x y (λ z w. z ≡ with_marks w z.marks)
completed_slots κs a x y e f p q =
    let P : Structure → Type 0 = λ z. z ≡ with_marks a.1.1.1.0 z.marks in
    both x y P P (λ z w. z ≡ with_marks w z.marks) (λ z w i j. i ∙ ap (λ (v : Structure). with_marks v z.marks) (sym j)) p.0 q.0
