-- The first build or a refinement, from what stands.
use mathlib.Core.Path.{◌≡◌, sym, ap, ◌∙◌, subst}
use mathlib.Core.Logic.{◌≢◌}
use mathlib.Core.Bool.{false}
use mathlib.Core.List.{List, ◌++◌, map}
use Prim.Native.Nat.{ℕ, ◌≤◌, ◌<◌}
use native.Mathlib.Omega.{arith}
use lib.ListN.{length}
use lib.IntN.{ℤ}
use borrow.Author.Tests.{eq-eqb, ne_eqb, le-leb}
use Rattle.rules.specs.declared.State.{State}
use Rattle.rules.specs.Lists.{sort}
use Rattle.rules.specs.Records.{Entry, Record, waiting}
use Rattle.rules.specs.Build.{Build, build_of, build_over, unbuilt, largest}
use Rattle.rules.specs.Queue.{heavier}
use Rattle.rules.specs.Buckets.{build_structure}
use Rattle.rules.specs.Refinement.{merge_structures}
use Rattle.rules.specs.Encode.{prepared}
use Rattle.laws.specs.WellFormed.Plain.{WellFormed}
use Rattle.records.specs.declared.Marks.{Marks}
use Rattle.std.specs.Prelude.{Option, Some, None, IfSome}
use Rattle.records.specs.Carries.{St, st, at, Fits, Carries, Stores}
use Rattle.build_line.specs.Work.{line, count_at}
use Rattle.build_first.specs.Ready.{Ready}
use Rattle.refine_structure.specs.Refined.{Renews, Refinable, Refines}
use Rattle.refine_structure.proofs.Bases.{based_self}
use Rattle.build_begin.specs.declared.Structure.{Structure}
use Rattle.build_begin.specs.Named.{marks_at, Named}
use Rattle.build_begin.proofs.Begin.{stored}
use Rattle.encode_case.specs.Case.{reaches}
use Rattle.encode_case.proofs.Ways.{first_way, refined_way}
use Rattle.encode_reach.specs.Reached.{Structured}
use Rattle.encode_reach.proofs.Stands.{entered}

module _ (s : State) (store : List ℕ) (clauses : List ℤ) (w : WellFormed s store clauses) (n : ℕ) (made : n ≡ length (build_of s store).arena.records)
    (reach : s.set ≤ largest (build_of s store).queue) (ws : List ℕ) (h : ℕ) (long : 13312 ≤ length ws) (head : h ≤ 512)
    (queue : (rs : List Record) (es : List Entry) → Stores store s.records (rs ++ map waiting es) → length rs ≡ n → line ws h ≡ sort heavier es)
    (none : (k : ℕ) → k < 20 → count_at ws k ≡ 0) where
  abbrev b : Build
  b = build_of s store

  queue_is : line ws h ≡ sort heavier b.queue
  queue_is = queue b.arena.records b.queue (stored s store clauses w) (sym made)

  pub ready : Ready b ws h
  unfolding build_of build_over
  ready = record { formed = w.formed; reach = reach; long = long; head = head; queue_is = queue_is; none = none }

  pub refinable : (m : Marks) → m ≡ marks_at s n → s.built ≢ 0 → Refinable s store clauses ws m h
  refinable m e built = record {
    well = w;
    built = built;
    reach = reach;
    marks_are = e ∙ ap (marks_at s) made;
    long = long;
    head = head;
    queue_is = queue_is;
    none = none;
  }

module _ (s : State) (store : List ℕ) (τ e : St) (us : List ℕ) (x : Option Structure) where
  pub first_structured : s.built ≡ 0 → Carries e τ (build_structure (build_of s store)).arena × (Fits e (build_structure (build_of s store)).arena → IfSome x (λ z. Named us z (build_structure (build_of s store)))) →
      Structured (build_of s store) e τ us x
  unfolding unbuilt build_of build_over
  first_structured zero (c, named) =
      let way : prepared (build_of s store) ≡ build_structure (build_of s store) = first_way (build_of s store) (eq-eqb s.built 0 zero) in
      subst (λ (p : Build). (renews : Renews (build_of s store).buckets e τ p.arena) × (Fits renews.entry p.arena → IfSome x (λ z. Named us z p))) (sym way)
      (record { entry = e; places = 0; based = based_self _ e 0; within = omega arith; carries = c }, named)

  pub refined_structured : s.built ≢ 0 → s.set ≤ largest (build_of s store).queue → Refines (build_of s store) e τ us x → Structured (build_of s store) e τ us x
  unfolding unbuilt reaches build_of build_over
  refined_structured built reach r =
      let off : unbuilt (build_of s store) ≡ false = ne_eqb s.built 0 built in
      let way : prepared (build_of s store) ≡ merge_structures (build_of s store) =
      refined_way (build_of s store) off (le-leb s.set (largest (build_of s store).queue) reach) in
      subst (λ (p : Build). (renews : Renews (build_of s store).buckets e τ p.arena) × (Fits renews.entry p.arena → IfSome x (λ z. Named us z p))) (sym way)
      (r.renews, r.named)

pub marks_at_fresh : (s : State) (n : ℕ) (m : Marks) → m ≡ marks_at s n → m.fresh ≡ s.fresh
unfolding marks_at
marks_at_fresh s n m e = ap (λ (x : Marks). x.fresh) e

-- what stands is carried by the marks with which an encode begins
pub entered_by : (s : State) (store : List ℕ) (clauses : List ℤ) → WellFormed s store clauses → (n : ℕ) → n ≡ length (build_of s store).arena.records → (m : Marks) → m ≡ marks_at s n →
    Carries (st store clauses (at (marks_at s n))) (st store clauses (at m)) (build_of s store).arena
entered_by s store clauses w n made m e =
    subst (λ (x : Marks). Carries (st store clauses (at (marks_at s n))) (st store clauses (at x)) (build_of s store).arena) (sym e) (entered s store clauses w n made)

pub refines_by : (s : State) (store : List ℕ) (clauses : List ℤ) (n : ℕ) (m : Marks) (τ : St) (us : List ℕ) (x : Option Structure) → m ≡ marks_at s n →
    Refines (build_of s store) (st store clauses (at m)) τ us x → Refines (build_of s store) (st store clauses (at (marks_at s n))) τ us x
refines_by s store clauses n m τ us x e r = subst (λ (y : Marks). Refines (build_of s store) (st store clauses (at y)) τ us x) e r

-- the bounds of a first build, of those of a refinement
pub bounded : (x : Option Structure) → IfSome x (λ z. (z.head ≤ 512) × (z.tares_used ≤ 19) × (z.buckets_used ≤ 20)) → IfSome x (λ z. (z.head ≤ 512) × (z.tares_used ≤ 19))
bounded None h = tt
bounded (Some z) h = (h.0, h.1)
