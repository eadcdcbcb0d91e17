-- Refinement's last step: each output defined earlier gets the clauses of its further pairs, and in the end all clauses are there.
use Rattle.std.specs.Prelude.{◌≡◌, refl, ◌≢◌, ◌⊎◌, Bool, false, cond, leb, eqb, ℤ}
use Rattle.std.proofs.Math.Path.{sym, subst}
use Rattle.std.proofs.Common.{ap, ap₂, ◌∙◌, inl, inr, arith, leb-true, leb-false, lt-ltb, eqb-true, eq-eqb}
use Rattle.std.proofs.Math.Bool.{true}
use Rattle.std.proofs.lemmas.Bool.{false≢true, eqb-false}
use mathlib.Core.List.{List, [], ◌∷◌, map, append-nil}
use Prim.Native.Nat.{ℕ, suc, ◌≤◌, ◌<◌, max}
use Rattle.std.proofs.Math.Dec.{ltb}
use Rattle.rules.specs.Lists.{keep, in_turn}
use Rattle.rules.specs.Records.{Kind, join, Node, Output, Record, node_at, outputs, left_link, right_link}
use Rattle.rules.specs.Totalizer.{Arena, counts, pairs, clause, write, ask_pair, define}
use Rattle.rules.specs.Refinement.{former_half, further_pairs, extend, extend_bucket}
use Rattle.laws.specs.Lists.Facts.{All, All_map, All_zip, All_append, All_keep, occurs, occurs_other}
use Rattle.laws.specs.WellFormed.Plain.{Sound}
use Rattle.guarantee.specs.Meaning.Truth.{Member, member_left, member_right, all_members}
use Rattle.guarantee.specs.Meaning.Derived.{Sides, Derived, Asked, every, CompleteAt, Means}
use Rattle.guarantee.specs.Meaning.Growing.{join_parts, Keeps, onto_self, onto_keeps, sides_kept, clause_kept}
use Rattle.guarantee.specs.Refinement.Patching.{former}
use Rattle.guarantee.specs.Meaning.Defining.{Told, Grown, grown_self, grown_then, grown_nodes, grown_places, grown_outputs, grown_onto, member_grown, InPair, pairs_in, pairs_all, all_images, Defines, Over, defines_self, defines_then, over_defines, pairs_define, define_defines, clauses_derived}

-- a member that passes the test is kept
pub keep_member : {A : Type 0} (P : A → Type 0) (p : A → Bool) (xs : List A) → All P (keep p xs) → (x : A) → Member x xs → p x ≡ true → P x
unfolding keep
keep_member P p [] a x m e = absurd m
keep_member P p (y ∷ xs) a x (inl is) e = go (p y) (ap p (sym is) ∙ e) a
  where
    go : (b : Bool) → b ≡ true → All P (cond b (y ∷ keep p xs) (keep p xs)) → P x
    go true q a = subst P (sym is) a.0
    go false q a = absurd (false≢true q)
keep_member P p (y ∷ xs) a x (inr m) e = keep_member P p xs (go (p y) a) x m e
  where
    go : (b : Bool) → All P (cond b (y ∷ keep p xs) (keep p xs)) → All P (keep p xs)
    go true a = a.1
    go false a = a

-- the outputs of node n among those that stand
kept_nodes : (n : ℕ) (all os : List Output) → All (λ o. Member o all) os → All (λ o. Member o all × (o.node ≡ n)) (keep (λ o. eqb o.node n) os)
unfolding keep
kept_nodes n all [] a = tt
kept_nodes n all (o ∷ os) a = go (eqb o.node n) refl (kept_nodes n all os a.1)
  where
    go : (b : Bool) → eqb o.node n ≡ b → All (λ o. Member o all × (o.node ≡ n)) (keep (λ o. eqb o.node n) os) →
        All (λ o. Member o all × (o.node ≡ n)) (cond b (o ∷ keep (λ o. eqb o.node n) os) (keep (λ o. eqb o.node n) os))
    go true e ih = ((a.0, eqb-true o.node n e), ih)
    go false e ih = ih

occurs_no : (n : ℕ) → 1 ≤ occurs n [] → ⊥
unfolding occurs
occurs_no n o = omega arith

module _ (asked : Asked) (at : ℕ → Node) (there : ℕ → Bool) (nodes : Sound at there) (n : ℕ) (l r : ℕ) (kind_is : (at n).kind ≡ join true l r) (most : ℕ) where
  -- the further pairs of output o of bucket n are covered: their sides claimed, their clauses there
  abbrev pub Covered : Arena → Output → Type 0
  Covered s o = (p : ℕ × ℕ) → InPair (at l).maximum (counts true (at r).maximum) o.value p → most < p.1 → Sides s.records true l r p × Member (clause s.records true l r o.number p) s.clauses

  covered_grown : (s t : Arena) (o : Output) → Grown s t → Covered s o → Covered t o
  covered_grown s t o g k p q h =
      let here = k p q h in
      let keeps : Keeps s.records t.records = onto_keeps s.records t.records (grown_onto s t g) in (
        sides_kept s.records t.records keeps true l r p here.0,
        subst (λ (x : List ℤ). Member x t.clauses) (sym (clause_kept s.records t.records keeps true l r o.number p here.0))
            (subst (Member (clause s.records true l r o.number p)) (sym g.clauses_are) (member_left (clause s.records true l r o.number p) s.clauses g.said here.1)),
      )

  -- writing clauses of an output that stands
  write_told : (s : Arena) → Over asked at there nodes s → (o : Output) → Member o (outputs s.records) → o.node ≡ n → (ps : List (ℕ × ℕ)) →
      All (InPair (at l).maximum (counts true (at r).maximum) o.value) ps → All (Sides s.records true l r) ps →
      Defines asked at there nodes s (write true l r o.number ps s)
  unfolding write
  write_told s ov o m is ps a b = record {
    told = record {
      means = record {
        claims = old.claims;
        rise = old.rise;
        complete = All_map (λ x k half l' r' p e q z. let here = k half l' r' p e q z in (here.0, member_left (clause s.records half l' r' x.number p) s.clauses cs here.1)) (outputs s.records) old.complete;
        derived = All_append (Derived s.records) s.clauses cs old.derived
            (clauses_derived asked at there nodes s.records s.records ov.nodes_are ov.places_are (onto_self s.records) o m true l r (ap (λ (k : ℕ). (at k).kind) is ∙ kind_is) ps a b);
      };
      numbers_low = ov.told.numbers_low;
      leaves_low = ov.told.leaves_low;
      fresh_positive = ov.told.fresh_positive;
    };
    grown = record { more = []; records_are = sym (append-nil s.records); said = cs; clauses_are = refl; fresh_more = omega arith; more_new = tt };
  }
    where
      cs : List (List ℤ)
      cs = map (clause s.records true l r o.number) ps

      old : Means asked s.records s.clauses
      old = ov.told.means

  -- the pairs whose b exceeds the former maximum
  further : ℕ → List (ℕ × ℕ)
  further v = keep (λ p. ltb most p.1) (pairs (at l).maximum (counts true (at r).maximum) v)

  further_in : (v : ℕ) → All (InPair (at l).maximum (counts true (at r).maximum) v) (further v)
  unfolding further
  further_in v = All_keep (InPair (at l).maximum (counts true (at r).maximum) v) (λ p. ltb most p.1) (pairs (at l).maximum (counts true (at r).maximum) v) (pairs_in (at l).maximum (counts true (at r).maximum) v)

  further_all : (P : ℕ × ℕ → Type 0) (v : ℕ) (p : ℕ × ℕ) → All P (further v) → InPair (at l).maximum (counts true (at r).maximum) v p → most < p.1 → P p
  unfolding further
  further_all P v p a q h =
      keep_member P (λ p. ltb most p.1) (pairs (at l).maximum (counts true (at r).maximum) v) a p
      (pairs_all (λ x. Member x (pairs (at l).maximum (counts true (at r).maximum) v)) (at l).maximum (counts true (at r).maximum) v p (all_members (pairs (at l).maximum (counts true (at r).maximum) v)) q)
      (lt-ltb most p.1 h)

  height_is : (at n).height ≡ suc (max (at l).height (at r).height)
  height_is = (nodes n).height_is true l r kind_is

  -- one output
  extend_covers : (s : Arena) → Over asked at there nodes s → (o : Output) → Member o (outputs s.records) → o.node ≡ n →
      Defines asked at there nodes s (extend n most s o) × Covered (extend n most s o) o
  unfolding extend further_pairs further left_link right_link
  extend_covers s ov o m is =
      subst (λ (f : ℕ → Node). Result (f n).kind (f n).height f) (sym ov.nodes_are) (subst (λ (k : Kind). Result k (at n).height at) (sym kind_is) made)
    where
      after : Kind → ℕ → (ℕ → Node) → Arena
      after k h f =
          let ps : List (ℕ × ℕ) = keep (λ p. ltb most p.1) (pairs (f (left_link k)).maximum (counts true (f (right_link k)).maximum) o.value) in
          write true (left_link k) (right_link k) o.number ps (in_turn (ask_pair (define h) true (left_link k) (right_link k)) s ps)

      Result : Kind → ℕ → (ℕ → Node) → Type 0
      Result k h f = Defines asked at there nodes s (after k h f) × Covered (after k h f) o

      ps : List (ℕ × ℕ)
      ps = further o.value

      h : ℕ
      h = (at n).height

      t : Arena
      t = in_turn (ask_pair (define h) true l r) s ps

      g : Defines asked at there nodes s t × All (Sides t.records true l r) ps
      g = pairs_define asked at there nodes h (define h) (define_defines asked at there nodes h) true l r (omega (arith, height_is)) (omega (arith, height_is)) o.value ps (further_in o.value) s ov

      ot : Over asked at there nodes t
      ot = over_defines asked at there nodes s t ov g.0

      stands : Member o (outputs t.records)
      stands = member_grown s t g.0.grown o m

      u : Arena
      u = write true l r o.number ps t

      w : Defines asked at there nodes t u
      w = write_told t ot o stands is ps (further_in o.value) g.1

      covered : Covered u o
      covered p q k = (
        further_all (Sides t.records true l r) o.value p g.1 q k,
        member_right (clause t.records true l r o.number p) t.clauses (map (clause t.records true l r o.number) ps)
            (further_all (λ x. Member (clause t.records true l r o.number x) (map (clause t.records true l r o.number) ps)) o.value p (all_images (clause t.records true l r o.number) ps) q k),
      )

      made : Result (join true l r) h at
      made = (defines_then asked at there nodes s t u g.0 w, covered)

  -- all outputs of a list
  pub extends_cover : (os : List Output) (s : Arena) → Over asked at there nodes s → All (λ o. Member o (outputs s.records) × (o.node ≡ n)) os →
      Defines asked at there nodes s (in_turn (extend n most) s os) × All (Covered (in_turn (extend n most) s os)) os
  unfolding in_turn
  extends_cover [] s ov a = (defines_self asked at there nodes s ov, tt)
  extends_cover (o ∷ os) s ov a =
      let t : Arena = extend n most s o in
      let g = extend_covers s ov o a.0.0 a.0.1 in
      let later : All (λ x. Member x (outputs t.records) × (x.node ≡ n)) os =
      All_map (λ x h. (member_grown s t g.0.grown x h.0, h.1)) os a.1 in
      let f = extends_cover os t (over_defines asked at there nodes s t ov g.0) later in
      let u : Arena = in_turn (extend n most) t os in
      (defines_then asked at there nodes s t u g.0 f.0, (covered_grown t u o f.0.grown g.1, f.1))

-- fewer clauses are asked
pub told_asked : (asked asked' : Asked) (s : Arena) → ((o : Output) (b : ℕ) → asked' o b → asked o b) → Told asked s → Told asked' s
told_asked asked asked' s f t = record {
  means = record {
    claims = t.means.claims;
    rise = t.means.rise;
    complete = All_map (λ o k half l r p e q z. k half l r p e q (f o p.1 z)) (outputs s.records) t.means.complete;
    derived = t.means.derived;
  };
  numbers_low = t.numbers_low;
  leaves_low = t.leaves_low;
  fresh_positive = t.fresh_positive;
}

module _ (old : List Record) (fresh : ℕ) (at : ℕ → Node) (there : ℕ → Bool) (nodes : Sound at there) where
  -- outputs that stood before, and ones numbered since
  abbrev pub OldOrNew : Arena → Type 0
  OldOrNew s = All (λ o. Member o (outputs old) ⊎ (fresh ≤ o.number)) (outputs s.records)

  old_or_new_grown : (s t : Arena) → Grown s t → fresh ≤ s.fresh → OldOrNew s → OldOrNew t
  old_or_new_grown s t g h a =
      subst (All (λ o. Member o (outputs old) ⊎ (fresh ≤ o.number))) (sym (grown_outputs s t g))
      (All_append (λ o. Member o (outputs old) ⊎ (fresh ≤ o.number)) (outputs s.records) g.more a (All_map (λ o k. inr (omega arith)) g.more g.more_new))

  -- the outputs of one bucket, extended
  bucket_told : (n : ℕ) (rest : List ℕ) (l r : ℕ) → (at n).kind ≡ join true l r → (s : Arena) → Over (former old (n ∷ rest) fresh) at there nodes s → fresh ≤ s.fresh →
      OldOrNew s → All (λ o. Member o (outputs s.records)) (outputs old) →
      Grown s (extend_bucket old s n) × Told (former old rest fresh) (extend_bucket old s n)
  unfolding extend_bucket
  bucket_told n rest l r e s ov low news stand = (
    g.0.grown,
    record {
      means = record {
        claims = tt'.means.claims;
        rise = tt'.means.rise;
        complete = All_zip whole (outputs t.records) (old_or_new_grown s t g.0.grown low news) tt'.means.complete;
        derived = tt'.means.derived;
      };
      numbers_low = tt'.numbers_low;
      leaves_low = tt'.leaves_low;
      fresh_positive = tt'.fresh_positive;
    },
  )
    where
      asked : Asked
      asked = former old (n ∷ rest) fresh

      most : ℕ
      most = former_half old n

      os : List Output
      os = keep (λ o. eqb o.node n) (outputs old)

      t : Arena
      t = in_turn (extend n most) s os

      g : Defines asked at there nodes s t × All (Covered asked at there nodes n l r e most t) os
      g = extends_cover asked at there nodes n l r e most os s ov (kept_nodes n (outputs s.records) (outputs old) stand)

      tt' : Told asked t
      tt' = g.0.told

      same : node_at t.records ≡ at
      same = (over_defines asked at there nodes s t ov g.0).nodes_are

      -- the clauses that were not asked before: those of the further pairs
      at_old : (o : Output) → Member o (outputs old) → o.node ≡ n → CompleteAt asked t.records t.clauses o → CompleteAt (former old rest fresh) t.records t.clauses o
      at_old o m is k half l' r' p e' q z = go (leb p.1 most) refl
        where
          kinds : join half l' r' ≡ join true l r
          kinds = sym e' ∙ (ap₂ (λ (f : ℕ → Node) (i : ℕ). (f i).kind) same is ∙ e)

          go : (b : Bool) → leb p.1 most ≡ b → Sides t.records half l' r' p × Member (clause t.records half l' r' o.number p) t.clauses
          go true h = k half l' r' p e' q (λ low occ. subst (λ (i : ℕ). p.1 ≤ former_half old i) (sym is) (leb-true p.1 most h))
          go false h =
              let (eh, el, er) = join_parts half true l' l r' r kinds in
              let q' : InPair (at l).maximum (counts true (at r).maximum) o.value p =
              subst (λ (f : ℕ → Node). InPair (f l).maximum (counts true (f r).maximum) o.value p) same (rw (eh, el, er) at q) in
              let covered = keep_member (Covered asked at there nodes n l r e most t) (λ x. eqb x.node n) (outputs old) g.1 o m (eq-eqb o.node n is) p q' (leb-false p.1 most h) in
              rw (eh, el, er) covered

      at_other : (o : Output) → o.node ≢ n → CompleteAt asked t.records t.clauses o → CompleteAt (former old rest fresh) t.records t.clauses o
      at_other o ne k half l' r' p e' q z = k half l' r' p e' q (λ low occ. z low (omega (arith, occ, occurs_other o.node n rest ne)))

      at_new : (o : Output) → fresh ≤ o.number → CompleteAt asked t.records t.clauses o → CompleteAt (former old rest fresh) t.records t.clauses o
      at_new o new k half l' r' p e' q z = k half l' r' p e' q (λ low occ. absurd (omega arith))

      whole : (o : Output) → Member o (outputs old) ⊎ (fresh ≤ o.number) → CompleteAt asked t.records t.clauses o → CompleteAt (former old rest fresh) t.records t.clauses o
      whole o (inr new) k = at_new o new k
      whole o (inl m) k = go (eqb o.node n) refl
        where
          go : (b : Bool) → eqb o.node n ≡ b → CompleteAt (former old rest fresh) t.records t.clauses o
          go true is = at_old o m (eqb-true o.node n is) k
          go false is = at_other o (eqb-false o.node n is) k

  -- every bucket of a list
  pub buckets_told : (bs : List ℕ) → All (λ b. (l : ℕ) × (r : ℕ) × ((at b).kind ≡ join true l r)) bs → (s : Arena) → Over (former old bs fresh) at there nodes s → fresh ≤ s.fresh →
      OldOrNew s → All (λ o. Member o (outputs s.records)) (outputs old) →
      Grown s (in_turn (extend_bucket old) s bs) × Told every (in_turn (extend_bucket old) s bs)
  unfolding in_turn
  buckets_told [] joins s ov low news stand = (grown_self s, told_asked (former old [] fresh) every s (λ o b z. λ l occ. absurd (occurs_no o.node occ)) ov.told)
  buckets_told (n ∷ bs) joins s ov low news stand =
      let t : Arena = extend_bucket old s n in
      let g = bucket_told n bs joins.0.0 joins.0.1 joins.0.2 s ov low news stand in
      let ot : Over (former old bs fresh) at there nodes t =
      record { nodes_are = grown_nodes s t g.0 ∙ ov.nodes_are; places_are = grown_places s t g.0 ∙ ov.places_are; told = g.1 } in
      let f = buckets_told bs joins.1 t ot (omega (arith, g.0.fresh_more)) (old_or_new_grown s t g.0 low news) (All_map (λ o m. member_grown s t g.0 o m) (outputs old) stand) in
      (grown_then s t (in_turn (extend_bucket old) t bs) g.0 f.0, f.1)
