-- Any two results that the promise of a public function allows are equal; those of `before_waiting`, where the waiting records are last. And two
-- structures that name the same build name the same.
use Rattle.std.specs.Prelude.{Option, Some, None, IfSome}
use mathlib.Core.Path.{◌≡◌, sym, ◌∙◌}
use mathlib.Core.Bool.{true, not}
use mathlib.Core.List.{List, ◌++◌, map}
use Prim.Native.Nat.{ℕ, ◌≤◌}
use borrow.Fn.Kinds.{Dens, res_t, ended_of}
use denote.Triple.Clauses.{AtExit}
use contract.Lifetimes.{Lfts}
use Rattle.rules.specs.Records.{Record, Entry, waiting, waits}
use Rattle.rules.specs.Build.{Build}
use Rattle.laws.specs.Lists.Facts.{All}
use Rattle.records.specs.Carries.{Reads}
use Rattle.build_line.specs.Work.{line}
use Rattle.build_line.proofs.Determined.{heads_same}
use Rattle.build_begin.specs.declared.Structure.{Structure}
use Rattle.build_begin.specs.Named.{Slots, Named}
use Rattle.build_begin.proofs.before_waiting.Kinds as before-waiting-kinds
use Rattle.build_begin.proofs.before_waiting.Reads as before-waiting
use Rattle.build_begin.proofs.marks_at.Kinds as marks-at-kinds
use Rattle.build_begin.proofs.marks_at.Reads as marks_at

-- z and y have the same tares and buckets
pub record Same_slots (z y : Structure) : Type 0 where
  pub tares : z.tares ≡ y.tares
  pub tares_many : z.tares_used ≡ y.tares_used
  pub buckets : z.buckets ≡ y.buckets
  pub buckets_many : z.buckets_used ≡ y.buckets_used

pub slots_same : (z y : Structure) (c : Build) → Slots z c → Slots y c → Same_slots z y
slots_same z y c h k = record {
  tares = h.tares_are ∙ sym k.tares_are;
  tares_many = h.tares_many ∙ sym k.tares_many;
  buckets = h.buckets_are ∙ sym k.buckets_are;
  buckets_many = h.buckets_many ∙ sym k.buckets_many;
}

-- and the same queue, in the work words ws and vs
pub record Same_named (ws vs : List ℕ) (z y : Structure) : Type 0 where
  pub slots : Same_slots z y
  pub head : z.head ≡ y.head
  pub queue : line ws z.head ≡ line vs y.head

pub named_same : (ws vs : List ℕ) (z y : Structure) (c : Build) → z.head ≤ 512 → y.head ≤ 512 → Named ws z c → Named vs y c → Same_named ws vs z y
named_same ws vs z y c i j n k =
    let lines : line ws z.head ≡ line vs y.head = n.queue_is ∙ sym k.queue_is in
    record { slots = slots_same z y c n.slots k.slots; head = heads_same ws vs z.head y.head i j lines; queue = lines }

pub before_waiting_determined : (κs : Lfts 1) (a : Dens κs before-waiting-kinds.ps) (x y : (res_t before-waiting-kinds.r κs).Denot) (e f : AtExit (ended_of 1 before-waiting-kinds.ps before-waiting-kinds.r) κs) →
    before-waiting.Post κs a x e → before-waiting.Post κs a y f → (rs : List Record) (es : List Entry) → Reads a.0 (rs ++ map waiting es) → All (λ r. not (waits r) ≡ true) rs → x ≡ y
before_waiting_determined κs a x y e f p q rs es h k = p rs es h k ∙ sym (q rs es h k)

pub marks_at_determined : (κs : Lfts 0) (a : Dens κs marks-at-kinds.ps) (x y : (res_t marks-at-kinds.r κs).Denot) (e f : AtExit (ended_of 0 marks-at-kinds.ps marks-at-kinds.r) κs) →
    marks_at.Post κs a x e → marks_at.Post κs a y f → x ≡ y
marks_at_determined κs a x y e f p q = p ∙ sym q

-- what two answers name, where both name something
abbrev pub Both : {A : Type 0} → Option A → Option A → (A → A → Type 0) → Type 0
Both x y R = IfSome x (λ z. IfSome y (λ w. R z w))

pub both : {A : Type 0} (x y : Option A) (P Q : A → Type 0) (R : A → A → Type 0) → ((z w : A) → P z → Q w → R z w) → IfSome x P → IfSome y Q → Both x y R
both (Some z) (Some w) P Q R f p q = f z w p q
both (Some z) None P Q R f p q = tt
both None y P Q R f p q = tt

-- two facts of what an answer names
pub both_facts : {A : Type 0} (x : Option A) (P Q : A → Type 0) → IfSome x P → IfSome x Q → IfSome x (λ z. P z × Q z)
both_facts (Some z) P Q p q = (p, q)
both_facts None P Q p q = tt
