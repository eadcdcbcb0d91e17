-- Buckets brought up to date: their outputs keep the clauses of their former pairs.
use Rattle.std.specs.Prelude.{◌≡◌, ◌⊎◌, Bool, false, ℕ, zero, suc, ◌/◌, ◌≤◌, ◌<◌, eqb, ℤ}
use Rattle.std.proofs.Math.Path.{refl, ap, subst}
use Rattle.std.proofs.Common.{sym, ◌∙◌, eqb-true}
use Rattle.std.proofs.Math.Logic.{inl, inr}
use Rattle.std.proofs.Math.Bool.{true}
use mathlib.Core.List.{List, [], ◌∷◌}
use native.Mathlib.Omega.{arith}
use Rattle.std.proofs.lemmas.Bool.{eqb-false}
use Rattle.rules.specs.Records.{Kind, leaf, join, dummy, Node, Output, Record, node_at, outputs, left_link, right_link}
use Rattle.rules.specs.Totalizer.{counts, asks, number_in, number_of, literal_of, side, clause}
use Rattle.rules.specs.Refinement.{former_half}
use Rattle.laws.specs.Lists.Facts.{All, All_map, All_zip, occurs, occurs_other}
use Rattle.laws.specs.Records.Places.{place}
use Rattle.laws.specs.WellFormed.Plain.{Sound, Rise, Spares, Linked}
use Rattle.laws.specs.Refinement.Relinks.{Steps, Climbed}
use Rattle.laws.specs.Refinement.Patches.{links_apart}
use Rattle.guarantee.specs.Meaning.Truth.{Member}
use Rattle.guarantee.specs.Meaning.Derived.{literal, ClaimedKind, Claimed, Sides, Pair, Derived, Asked, every, CompleteAt, Claim}
use Rattle.guarantee.specs.Meaning.Growing.{join_parts, Keeps, clause_kept, sides_kept}
use Rattle.guarantee.specs.Meaning.Defining.{Told}

-- of the outputs of the buckets B that were numbered before `fresh`, the clauses of former pairs are asked
abbrev pub former : List Record → List ℕ → ℕ → Asked
former rs B fresh o b = o.number < fresh → 1 ≤ occurs o.node B → b ≤ former_half rs o.node

module _ (rs : List Record) (B : List ℕ) (below : ℕ) (sound : Sound (node_at rs) (place rs)) (spares : Spares (node_at rs) B)
    (below_there : place rs below ≡ true) (below_apart : occurs below B ≡ 0) (R : List Record) (c : Climbed rs B below sound spares below_there below_apart B R)
    (linked : Linked (node_at rs) true B) where
  -- a bucket before and after: the same left; the same right with no less a maximum, or a dummy before
  pub record Moved (n : ℕ) : Type 0 where
    pub l : ℕ
    pub r : ℕ
    pub r' : ℕ
    pub old : (node_at rs n).kind ≡ join true l r
    pub new : (node_at R n).kind ≡ join true l r'
    pub right : ((r' ≡ r) × ((node_at rs r).maximum ≤ (node_at R r).maximum)) ⊎ ((node_at rs r).kind ≡ dummy)

  -- a member of a list is its first, or one of the others
  split : (P : Type 0) (n b : ℕ) (bs : List ℕ) → 1 ≤ occurs n (b ∷ bs) → (n ≡ b → P) → (1 ≤ occurs n bs → P) → P
  split P n b bs o f g = go (eqb n b) refl
    where
      go : (x : Bool) → eqb n b ≡ x → P
      go true e = f (eqb-true n b e)
      go false e = g (omega (arith, o, occurs_other n b bs (eqb-false n b e)))

  none_in : (n : ℕ) → 1 ≤ occurs n [] → ⊥
  unfolding occurs
  none_in n o = omega arith

  moved_in : (bs : List ℕ) → Linked (node_at rs) true bs → Steps rs B below sound spares below_there below_apart R bs → (n : ℕ) → 1 ≤ occurs n bs → Moved n
  unfolding left_link
  moved_in [] h s n o = absurd (none_in n o)
  moved_in (b ∷ []) (l, r, e, d) s n o =
      split (Moved n) n b [] o
      (λ is. record {
        l = l;
        r = r;
        r' = below;
        old = ap (λ (m : ℕ). (node_at rs m).kind) is ∙ e;
        new = ap (λ (m : ℕ). (node_at R m).kind) is ∙ (s.0.kind_is ∙ ap (λ (k : Kind). join true (left_link k) below) e);
        right = inr d;
      })
      (λ none. absurd (none_in n none))
  moved_in (b ∷ d ∷ bs) ((l, e), h) s n o =
      split (Moved n) n b (d ∷ bs) o
      (λ is. record {
        l = l;
        r = d;
        r' = d;
        old = ap (λ (m : ℕ). (node_at rs m).kind) is ∙ e;
        new = ap (λ (m : ℕ). (node_at R m).kind) is ∙ (s.0.kind_is ∙ ap (λ (k : Kind). join true (left_link k) d) e);
        right = inl (refl, s.1.0.grows);
      })
      (moved_in (d ∷ bs) h s.1 n)

  pub moved : (n : ℕ) → 1 ≤ occurs n B → Moved n
  moved n o = moved_in B linked c.steps n o

  -- by cases: a bucket or none
  pub either : (P : Type 0) (n : ℕ) → (1 ≤ occurs n B → P) → (occurs n B ≡ 0 → P) → P
  either P n f g = go (occurs n B) refl
    where
      go : (k : ℕ) → occurs n B ≡ k → P
      go zero e = g e
      go (suc k) e = f (omega arith)

  number_same : (n v : ℕ) → number_of R n v ≡ number_of rs n v
  unfolding number_of
  number_same n v = ap (λ (os : List Output). number_in os n v) c.outputs_same

  -- every claim stays, under the same literal
  pub moved_keeps : Keeps rs R
  unfolding literal literal_of
  moved_keeps n v h =
      either (Claimed R n v × (literal_of (node_at R n).kind (number_of R n v) ≡ literal_of (node_at rs n).kind (number_of rs n v))) n
      (λ o. let m : Moved n = moved n o in bucket m (subst (λ (k : Kind). ClaimedKind k (number_of rs n v)) m.old h))
      (λ o. subst (λ (nd : Node). ClaimedKind nd.kind (number_of R n v) × (literal_of nd.kind (number_of R n v) ≡ literal_of (node_at rs n).kind (number_of rs n v))) (sym (c.same n o))
      (subst (λ (k : ℕ). ClaimedKind (node_at rs n).kind k × (literal_of (node_at rs n).kind k ≡ literal_of (node_at rs n).kind (number_of rs n v))) (sym (number_same n v)) (h, refl)))
    where
      bucket : (m : Moved n) → 1 ≤ number_of rs n v → Claimed R n v × (literal_of (node_at R n).kind (number_of R n v) ≡ literal_of (node_at rs n).kind (number_of rs n v))
      bucket m k = rw (m.new, m.old, number_same n v) (k, refl)

  -- a pair of a node that is no bucket
  pair_same : (n : ℕ) (half : Bool) (l r v : ℕ) (p : ℕ × ℕ) → occurs n B ≡ 0 → (node_at rs n).kind ≡ join half l r → (Pair rs half l r v p → Pair R half l r v p) × (Pair R half l r v p → Pair rs half l r v p)
  pair_same n half l r v p o e =
      let (ol, or) = links_apart (node_at rs) B spares n o half l r e in
      (λ q. rw (c.same l ol, c.same r or) q, λ q. rw (c.same l ol, c.same r or) at q)

  -- a side that is 0 is left out, whichever node it would be of
  zero_clause : (xs : List Record) (l r r' number a : ℕ) → clause xs true l r number (a, 0) ≡ clause xs true l r' number (a, 0)
  unfolding clause side asks
  zero_clause xs l r r' number a = refl

  -- the clause and the sides of a pair of a bucket, over its new right side
  bucket_kept : (n : ℕ) (m : Moved n) (number : ℕ) (p : ℕ × ℕ) → p.1 ≤ (node_at rs m.r).maximum / 2 → Sides rs true m.l m.r p →
      Sides R true m.l m.r' p × (clause R true m.l m.r' number p ≡ clause rs true m.l m.r number p)
  unfolding asks
  bucket_kept n m number (a, b) q s = go m.right
    where
      go : ((m.r' ≡ m.r) × ((node_at rs m.r).maximum ≤ (node_at R m.r).maximum)) ⊎ ((node_at rs m.r).kind ≡ dummy) →
          Sides R true m.l m.r' (a, b) × (clause R true m.l m.r' number (a, b) ≡ clause rs true m.l m.r number (a, b))
      go (inl (is, grows)) =
          subst (λ (r : ℕ). Sides R true m.l r (a, b) × (clause R true m.l r number (a, b) ≡ clause rs true m.l m.r number (a, b))) (sym is)
          (sides_kept rs R moved_keeps true m.l m.r (a, b) s, clause_kept rs R moved_keeps true m.l m.r number (a, b) s)
      go (inr none) =
          let zero_max : (node_at rs m.r).maximum ≡ 0 = ((sound m.r).dummy_is none).0 in
          let is : b ≡ 0 = omega (arith, q) in
          let left : Sides R true m.l m.r (a, b) = sides_kept rs R moved_keeps true m.l m.r (a, b) s in
          subst (λ (k : ℕ). Sides R true m.l m.r' (a, k) × (clause R true m.l m.r' number (a, k) ≡ clause rs true m.l m.r number (a, k))) (sym is) (
            (left.0, λ z. absurd (omega arith)),
            zero_clause R m.l m.r' m.r number a ∙
                clause_kept rs R moved_keeps true m.l m.r number (a, 0) (subst (λ (k : ℕ). Sides rs true m.l m.r (a, k)) is s),
          )

  former_is : (n : ℕ) (m : Moved n) → former_half rs n ≡ (node_at rs m.r).maximum / 2
  unfolding former_half right_link
  former_is n m = ap (λ (k : Kind). (node_at rs (right_link k)).maximum / 2) m.old

  -- the left side of a bucket stays
  left_same : (n : ℕ) (m : Moved n) → node_at R m.l ≡ node_at rs m.l
  left_same n m = c.same m.l (spares n true m.l m.r m.old).0

  pub complete_moved : (fresh : ℕ) (cs : List (List ℤ)) (o : Output) → o.number < fresh → CompleteAt every rs cs o → CompleteAt (former rs B fresh) R cs o
  unfolding counts
  complete_moved fresh cs o low k half l r' p e q asked = either (Sides R half l r' p × Member (clause R half l r' o.number p) cs) o.node at_bucket at_other
    where
      at_other : occurs o.node B ≡ 0 → Sides R half l r' p × Member (clause R half l r' o.number p) cs
      at_other z =
          let e' : (node_at rs o.node).kind ≡ join half l r' = ap (λ (nd : Node). nd.kind) (sym (c.same o.node z)) ∙ e in
          let here = k half l r' p e' ((pair_same o.node half l r' o.value p z e').1 q) tt in
          (sides_kept rs R moved_keeps half l r' p here.0, subst (λ (x : List ℤ). Member x cs) (sym (clause_kept rs R moved_keeps half l r' o.number p here.0)) here.1)

      over : (m : Moved o.node) → p.1 ≤ (node_at rs m.r).maximum / 2 → Pair R true m.l m.r' o.value p → Sides R true m.l m.r' p × Member (clause R true m.l m.r' o.number p) cs
      over m f q' =
          let inside : Pair rs true m.l m.r o.value p = (subst (λ (nd : Node). p.0 ≤ nd.maximum) (left_same o.node m) q'.0, f, q'.2) in
          let here = k true m.l m.r p m.old inside tt in
          let there = bucket_kept o.node m o.number p f here.0 in
          (there.0, subst (λ (x : List ℤ). Member x cs) (sym there.1) here.1)

      at_bucket : 1 ≤ occurs o.node B → Sides R half l r' p × Member (clause R half l r' o.number p) cs
      at_bucket z =
          let m : Moved o.node = moved o.node z in
          let f : p.1 ≤ (node_at rs m.r).maximum / 2 = rw (former_is o.node m) at (asked low z) in
          let same : join half l r' ≡ join true m.l m.r' = sym e ∙ m.new in
          let (eh, el, er) = join_parts half true l m.l r' m.r' same in
          let q' : Pair R true m.l m.r' o.value p = rw (eh, el, er) at q in
          rw (eh, el, er) (over m f q')

  pub derived_moved : (x : List ℤ) → Derived rs x → Derived R x
  unfolding counts
  derived_moved x d = either (Derived R x) d.o.node at_bucket at_other
    where
      stands : Member d.o (outputs R)
      stands = subst (Member d.o) (sym c.outputs_same) d.claimed

      at_other : occurs d.o.node B ≡ 0 → Derived R x
      at_other z = record {
        o = d.o;
        half = d.half;
        l = d.l;
        r = d.r;
        p = d.p;
        claimed = stands;
        kind_is = ap (λ (nd : Node). nd.kind) (c.same d.o.node z) ∙ d.kind_is;
        pair = (pair_same d.o.node d.half d.l d.r d.o.value d.p z d.kind_is).0 d.pair;
        sides = sides_kept rs R moved_keeps d.half d.l d.r d.p d.sides;
        is = d.is ∙ sym (clause_kept rs R moved_keeps d.half d.l d.r d.o.number d.p d.sides);
      }

      -- the maximum of the right side did not shrink
      right_high : (m : Moved d.o.node) → d.p.1 ≤ (node_at rs m.r).maximum / 2 → d.p.1 ≤ (node_at R m.r').maximum / 2
      right_high m q = go m.right
        where
          go : ((m.r' ≡ m.r) × ((node_at rs m.r).maximum ≤ (node_at R m.r).maximum)) ⊎ ((node_at rs m.r).kind ≡ dummy) → d.p.1 ≤ (node_at R m.r').maximum / 2
          go (inl (is, grows)) = subst (λ (n : ℕ). d.p.1 ≤ (node_at R n).maximum / 2) (sym is) (omega arith)
          go (inr none) = omega (arith, q, ((sound m.r).dummy_is none).0)

      over : (m : Moved d.o.node) → Pair rs true m.l m.r d.o.value d.p → Sides rs true m.l m.r d.p → x ≡ clause rs true m.l m.r d.o.number d.p → Derived R x
      over m q s is =
          let there = bucket_kept d.o.node m d.o.number d.p q.1 s in
          record {
            o = d.o;
            half = true;
            l = m.l;
            r = m.r';
            p = d.p;
            claimed = stands;
            kind_is = m.new;
            pair = (subst (λ (nd : Node). d.p.0 ≤ nd.maximum) (sym (left_same d.o.node m)) q.0, right_high m q.1, q.2);
            sides = there.0;
            is = is ∙ sym there.1;
          }

      at_bucket : 1 ≤ occurs d.o.node B → Derived R x
      at_bucket z =
          let m : Moved d.o.node = moved d.o.node z in
          let same : join d.half d.l d.r ≡ join true m.l m.r = sym d.kind_is ∙ m.old in
          let (eh, el, er) = join_parts d.half true d.l m.l d.r m.r same in
          over m (rw (eh, el, er) at d.pair) (rw (eh, el, er) at d.sides) (rw (eh, el, er) at d.is)

  leaf_same : (n : ℕ) (x : ℤ) → (node_at R n).kind ≡ leaf x → (node_at rs n).kind ≡ leaf x
  leaf_same n x e =
      either ((node_at rs n).kind ≡ leaf x) n
      (λ o. let m : Moved n = moved n o in absurd (join_no_leaf (sym m.new ∙ e)))
      (λ o. ap (λ (nd : Node). nd.kind) (sym (c.same n o)) ∙ e)
    where
      join_no_leaf : {l r : ℕ} → join true l r ≡ leaf x → ⊥
      join_no_leaf q = let z : ◌≡◌ {A = ℕ} 0 1 = cc in omega arith

  claim_moved : (o : Output) → Claim rs o → Claim R o
  claim_moved o k =
      either (Claim R o) o.node
      (λ z. let m : Moved o.node = moved o.node z in record { half = true; l = m.l; r = m.r'; kind_is = m.new; positive = k.positive; apart = λ n x e. k.apart n x (leaf_same n x e) })
      (λ z. record { half = k.half; l = k.l; r = k.r; kind_is = ap (λ (nd : Node). nd.kind) (c.same o.node z) ∙ k.kind_is; positive = k.positive; apart = λ n x e. k.apart n x (leaf_same n x e) })

  -- the arena whose buckets were brought up to date
  pub told_moved : (fresh : ℕ) (cs : List (List ℤ)) → Told every (record { records = rs; fresh = fresh; clauses = cs }) → Told (former rs B fresh) (record { records = R; fresh = fresh; clauses = cs })
  told_moved fresh cs t = record {
    means = record {
      claims = over (Claim R) (All_map claim_moved (outputs rs) t.means.claims);
      rise = subst (Rise 1) (sym c.outputs_same) t.means.rise;
      complete = over (CompleteAt (former rs B fresh) R cs) (All_zip (complete_moved fresh cs) (outputs rs) t.numbers_low t.means.complete);
      derived = All_map derived_moved cs t.means.derived;
    };
    numbers_low = over (λ o. o.number < fresh) t.numbers_low;
    leaves_low = λ n x e. t.leaves_low n x (leaf_same n x e);
    fresh_positive = t.fresh_positive;
  }
    where
      over : (P : Output → Type 0) → All P (outputs rs) → All P (outputs R)
      over P a = subst (All P) (sym c.outputs_same) a
