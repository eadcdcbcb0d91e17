-- Old buckets linked over new ones: the records are sound again and the two chains are one.
use Rattle.std.specs.Prelude.{◌≡◌, ◌⊎◌, Bool, false, ◌&&◌, ◌||◌, eqb}
use Rattle.std.proofs.Math.Path.{refl, sym, ap, subst}
use Rattle.std.proofs.Common.{◌∙◌, arith, eqb-true}
use Rattle.std.proofs.Math.Logic.{inl, inr}
use Rattle.std.proofs.Math.Bool.{true}
use Rattle.std.proofs.lemmas.Bool.{false≢true, eqb-false}
use mathlib.Core.List.{List, [], ◌∷◌, ◌++◌}
use Prim.Native.Nat.{ℕ, zero, suc, ◌≤◌}
use Rattle.rules.specs.Records.{Kind, join, Node, Record, node, node_at, left_link, right_link, outputs}
use Rattle.rules.specs.WellFormed.{above}
use Rattle.laws.specs.Lists.Facts.{All, All_map, All_append, All_self, All_occurs, occurs, occurs_here, occurs_other, occurs_more, occurs_append}
use Rattle.laws.specs.Records.Places.{place}
use Rattle.laws.specs.WellFormed.Plain.{Ruled, Sound, Spares, Linked}
use Rattle.laws.specs.Totalizer.Grows.{ruled_same}
use Rattle.laws.specs.Buckets.Chains.{Standing, above_cons, above_first}
use Rattle.laws.specs.Refinement.Relinks.{first, climb, linked_joins, Step, Steps, Climbed, climbed, left_apart}

-- who stands above a bucket is a bucket
above_in : (bs : List ℕ) (i r : ℕ) → above bs i r ≡ true → 1 ≤ occurs i bs
unfolding above
above_in [] i r e = absurd (false≢true e)
above_in (b ∷ []) i r e = absurd (false≢true e)
above_in (b ∷ c ∷ bs) i r e = go (eqb b i) refl (eqb c r) e (above_in (c ∷ bs) i r)
  where
    go : (a : Bool) → eqb b i ≡ a → (d : Bool) → ((a && d) || above (c ∷ bs) i r) ≡ true →
        (above (c ∷ bs) i r ≡ true → 1 ≤ occurs i (c ∷ bs)) → 1 ≤ occurs i (b ∷ c ∷ bs)
    go true p d q ih = omega (arith, occurs_here i b (c ∷ bs) (sym (eqb-true b i p)))
    go false p d q ih = omega (arith, occurs_more i b (c ∷ bs), ih q)

-- a node that is no bucket links none
pub links_apart : (at : ℕ → Node) (bs : List ℕ) → Spares at bs → (i : ℕ) → occurs i bs ≡ 0 → (half : Bool) (l r : ℕ) →
    (at i).kind ≡ join half l r → (occurs l bs ≡ 0) × (occurs r bs ≡ 0)
links_apart at bs spares i out half l r k = ((spares i half l r k).0, go (spares i half l r k).1)
  where
    go : (occurs r bs ≡ 0) ⊎ (above bs i r ≡ true) → occurs r bs ≡ 0
    go (inl e) = e
    go (inr e) = absurd (omega (arith, out, above_in bs i r e))

above_later : (bs cs : List ℕ) (i r : ℕ) → above cs i r ≡ true → above (bs ++ cs) i r ≡ true
above_later [] cs i r e = e
above_later (b ∷ bs) cs i r e = above_cons b i r (bs ++ cs) (above_later bs cs i r e)

-- a chain whose buckets, and what they link, are as they were
linked_same : (at at' : ℕ → Node) (wait : Bool) (bs : List ℕ) →
    All (λ b. (at' b ≡ at b) × ((half : Bool) (l r : ℕ) → (at b).kind ≡ join half l r → at' r ≡ at r)) bs → Linked at wait bs →
    Linked at' wait bs
linked_same at at' wait [] s h = tt
linked_same at at' true (b ∷ []) s (l, r, k, d) =
    (l, r, ap (λ (x : Node). x.kind) s.0.0 ∙ k, ap (λ (x : Node). x.kind) (s.0.1 true l r k) ∙ d)
linked_same at at' false (b ∷ []) s (half, l, r, k, d) =
    (half, l, r, ap (λ (x : Node). x.kind) s.0.0 ∙ k, (λ e. d (sym (ap (λ (x : Node). x.kind) (s.0.1 half l r k)) ∙ e)))
linked_same at at' wait (b ∷ c ∷ bs) s h = (
  (h.0.0, ap (λ (x : Node). x.kind) s.0.0 ∙ h.0.1),
  linked_same at at' wait (c ∷ bs) s.1 h.1,
)

-- records in which the buckets B stand over the new ones `lower`
pub record Patched (rs : List Record) (wait : Bool) (B lower : List ℕ) (R : List Record) : Type 0 where
  pub sound : Sound (node_at R) (place R)
  pub same : (i : ℕ) → occurs i B ≡ 0 → node_at R i ≡ node_at rs i
  pub places : place R ≡ place rs
  pub outputs_same : outputs R ≡ outputs rs
  pub kept : (p : Record → Bool) → ((n : Node) → p (node n) ≡ true) → All (λ r. p r ≡ true) rs → All (λ r. p r ≡ true) R
  pub grows : (i : ℕ) → (node_at rs i).maximum ≤ (node_at R i).maximum
  pub joins : (i : ℕ) → 1 ≤ occurs i B → (l : ℕ) × (r : ℕ) × ((node_at R i).kind ≡ join true l r)
  pub linked : Linked (node_at R) wait (B ++ lower)
  pub lefts : All (λ b. (node_at R (left_link (node_at R b).kind)).maximum ≤ 257) (B ++ lower)
  pub spares : Spares (node_at R) (B ++ lower)

module _ (rs : List Record) (wait : Bool) (B : List ℕ) (d : ℕ) (ds : List ℕ) (new : Standing wait B rs (d ∷ ds))
    (chain : Linked (node_at rs) true B) (there : All (λ b. place rs b ≡ true) B)
    (few : All (λ b. (node_at rs (left_link (node_at rs b).kind)).maximum ≤ 257) B)
    (lefts-out : All (λ b. occurs (left_link (node_at rs b).kind) (d ∷ ds) ≡ 0) B) where
  abbrev lower : List ℕ
  lower = d ∷ ds

  abbrev R : List Record
  R = climb rs d B

  done : Climbed rs B d new.sound new.others new.there.0 new.apart.0 B R
  done = climbed rs B d new.sound new.others new.there.0 new.apart.0 B chain there (All_self B) few

  abbrev StepAt : ℕ → ℕ → Type 0
  StepAt b next = Step rs B d new.sound new.others new.there.0 new.apart.0 R b next

  -- the step of a bucket, with what stands below it
  step_at : (bs : List ℕ) → Steps rs B d new.sound new.others new.there.0 new.apart.0 R bs → (i : ℕ) → 1 ≤ occurs i bs →
      (next : ℕ) × StepAt i next × (above (bs ++ lower) i next ≡ true)
  unfolding occurs
  step_at [] s i h = absurd (omega arith)
  step_at (b ∷ bs) s i h = go (eqb i b) refl (step_at bs s.1 i)
    where
      head : (bs : List ℕ) → above (b ∷ (bs ++ lower)) b (first bs d) ≡ true
      head [] = above_first b d ds
      head (c ∷ cs) = above_first b c (cs ++ lower)

      go : (t : Bool) → eqb i b ≡ t → (1 ≤ occurs i bs → (next : ℕ) × StepAt i next × (above (bs ++ lower) i next ≡ true)) → (next : ℕ) ×
          StepAt i next × (above (b ∷ (bs ++ lower)) i next ≡ true)
      go true e ih =
          let is : i ≡ b = eqb-true i b e in (
            first bs d,
            subst (λ (x : ℕ). StepAt x (first bs d)) (sym is) s.0,
            subst (λ (x : ℕ). above (b ∷ (bs ++ lower)) x (first bs d) ≡ true) (sym is) (head bs),
          )
      go false e ih =
          let (next, step, up) = ih (omega (arith, h, occurs_other i b bs (eqb-false i b e))) in
          (next, step, above_cons b i next (bs ++ lower) up)

  outside : (i : ℕ) → occurs i B ≡ 0 → (half : Bool) (l r : ℕ) → (node_at rs i).kind ≡ join half l r → (occurs l B ≡ 0) × (occurs r B ≡ 0)
  outside = links_apart (node_at rs) B new.others

  all_sound : (i : ℕ) (n : ℕ) → occurs i B ≡ n → Ruled (node_at R) (place R) (node_at R i)
  all_sound i zero out =
      subst (λ (x : Node). Ruled (node_at R) (place R) x) (sym (done.same i out))
      (ruled_same (node_at rs) (node_at R) (place rs) (place R) (node_at rs i) (new.sound i)
      (λ half l r k.
      let (lo, ro) = outside i out half l r k in
      let (lt, rt) = (new.sound i).links_are half l r k in
      (done.same l lo, done.same r ro, ap (λ (f : ℕ → Bool). f l) done.places ∙ lt, ap (λ (f : ℕ → Bool). f r) done.places ∙ rt)))
  all_sound i (suc n) out = (step_at B done.steps i (omega arith)).1.ruled

  all_grow : (i : ℕ) (n : ℕ) → occurs i B ≡ n → (node_at rs i).maximum ≤ (node_at R i).maximum
  all_grow i zero out = rw (done.same i out) (omega arith)
  all_grow i (suc n) out = (step_at B done.steps i (omega arith)).1.grows

  joined_all : (bs : List ℕ) → Steps rs B d new.sound new.others new.there.0 new.apart.0 R bs → Linked (node_at R) wait lower →
      Linked (node_at R) wait (bs ++ lower)
  joined_all [] s h = h
  joined_all (b ∷ []) s h = ((left_link (node_at rs b).kind, s.0.kind_is), h)
  joined_all (b ∷ c ∷ bs) s h = ((left_link (node_at rs b).kind, s.0.kind_is), joined_all (c ∷ bs) s.1 h)

  -- the new chain is as it was
  lower_same : All (λ b. (node_at R b ≡ node_at rs b) ×
      ((half : Bool) (l r : ℕ) → (node_at rs b).kind ≡ join half l r → node_at R r ≡ node_at rs r)) lower
  lower_same = All_map (λ b out. (done.same b out, (λ half l r k. done.same r (outside b out half l r k).1))) lower new.apart

  -- a left link that stays and names no bucket keeps its maximum
  left_kept : (b : ℕ) → left_link (node_at R b).kind ≡ left_link (node_at rs b).kind → occurs (left_link (node_at rs b).kind) B ≡ 0 →
      (node_at rs (left_link (node_at rs b).kind)).maximum ≤ 257 → (node_at R (left_link (node_at R b).kind)).maximum ≤ 257
  left_kept b same out most =
      let is : node_at R (left_link (node_at R b).kind) ≡ node_at rs (left_link (node_at rs b).kind) =
      ap (node_at R) same ∙ done.same (left_link (node_at rs b).kind) out in
      rw is most

  lower_lefts : (bs : List ℕ) → All (λ b. occurs b B ≡ 0) bs →
      All (λ b. (half : Bool) × (l : ℕ) × (r : ℕ) × ((node_at rs b).kind ≡ join half l r)) bs →
      All (λ b. (node_at rs (left_link (node_at rs b).kind)).maximum ≤ 257) bs →
      All (λ b. (node_at R (left_link (node_at R b).kind)).maximum ≤ 257) bs
  unfolding left_link
  lower_lefts [] out joins h = tt
  lower_lefts (b ∷ bs) out joins h =
      let (half, l, r, k) = joins.0 in (
        left_kept b (ap (λ (x : Node). left_link x.kind) (done.same b out.0))
            (ap (λ (x : Kind). occurs (left_link x) B) k ∙ (outside b out.0 half l r k).0) h.0,
        lower_lefts bs out.1 joins.1 h.1,
      )

  old_lefts : (bs : List ℕ) → Steps rs B d new.sound new.others new.there.0 new.apart.0 R bs →
      All (λ b. (half : Bool) × (l : ℕ) × (r : ℕ) × ((node_at rs b).kind ≡ join half l r)) bs →
      All (λ b. (node_at rs (left_link (node_at rs b).kind)).maximum ≤ 257) bs →
      All (λ b. (node_at R (left_link (node_at R b).kind)).maximum ≤ 257) bs
  unfolding left_link
  old_lefts [] s joins h = tt
  old_lefts (b ∷ bs) s joins h = (
    left_kept b (ap left_link s.0.kind_is) (left_apart rs B d new.sound new.others new.there.0 new.apart.0 b joins.0) h.0,
    old_lefts bs s.1 joins.1 h.1,
  )

  all_spares : (i : ℕ) (n : ℕ) → occurs i B ≡ n → (half : Bool) (l r : ℕ) → (node_at R i).kind ≡ join half l r → (occurs l (B ++ lower) ≡ 0) ×
      ((occurs r (B ++ lower) ≡ 0) ⊎ (above (B ++ lower) i r ≡ true))
  unfolding left_link right_link
  all_spares i zero out half l r k =
      let k' : (node_at rs i).kind ≡ join half l r = sym (ap (λ (x : Node). x.kind) (done.same i out)) ∙ k in
      let (lo, ro) = outside i out half l r k' in
      (omega (arith, occurs_append l B lower, lo, (new.spares i half l r k').0), go ro (new.spares i half l r k').1)
    where
      go : occurs r B ≡ 0 → (occurs r lower ≡ 0) ⊎ (above lower i r ≡ true) → (occurs r (B ++ lower) ≡ 0) ⊎ (above (B ++ lower) i r ≡ true)
      go ro (inl e) = inl (omega (arith, occurs_append r B lower, ro, e))
      go ro (inr e) = inr (above_later B lower i r e)
  all_spares i (suc n) out half l r k =
      let (next, step, up) = step_at B done.steps i (omega arith) in
      let l_is : left_link (node_at rs i).kind ≡ l = ap left_link (sym step.kind_is ∙ k) in
      let r_is : next ≡ r = ap right_link (sym step.kind_is ∙ k) in
      let in_old : occurs (left_link (node_at rs i).kind) B ≡ 0 =
      left_apart rs B d new.sound new.others new.there.0 new.apart.0 i
      (All_occurs (λ b. (half : Bool) × (l : ℕ) × (r : ℕ) × ((node_at rs b).kind ≡ join half l r)) i B
      (linked_joins (node_at rs) true B chain) (omega arith)) in
      let in_new : occurs (left_link (node_at rs i).kind) lower ≡ 0 =
      All_occurs (λ b. occurs (left_link (node_at rs b).kind) lower ≡ 0) i B lefts-out (omega arith) in (
        subst (λ (x : ℕ). occurs x (B ++ lower) ≡ 0) l_is (omega (arith, occurs_append (left_link (node_at rs i).kind) B lower)),
        inr (subst (λ (x : ℕ). above (B ++ lower) i x ≡ true) r_is up),
      )

  pub patched_over : Patched rs wait B (d ∷ ds) (climb rs d B)
  patched_over = record {
    sound = λ i. all_sound i (occurs i B) refl;
    same = done.same;
    places = done.places;
    outputs_same = done.outputs_same;
    kept = done.kept;
    grows = λ i. all_grow i (occurs i B) refl;
    joins = λ i h. let (next, step, up) = step_at B done.steps i h in (left_link (node_at rs i).kind, next, step.kind_is);
    linked = joined_all B done.steps (linked_same (node_at rs) (node_at R) wait lower lower_same new.linked);
    lefts =
        All_append (λ b. (node_at R (left_link (node_at R b).kind)).maximum ≤ 257) B lower
        (old_lefts B done.steps (linked_joins (node_at rs) true B chain) few)
        (lower_lefts lower new.apart (linked_joins (node_at rs) wait lower new.linked) new.lefts);
    spares = λ i half l r k. all_spares i (occurs i B) refl half l r k;
  }
