-- Defining outputs keeps the clauses meaning what the outputs say, whichever clauses are asked of the earlier ones.
use Rattle.std.specs.Prelude.{◌≡◌, Bool, true, false, cond, ◌&&◌, ltb, eqb, ℤ}
use Rattle.std.proofs.Math.Path.{refl, subst}
use Rattle.std.proofs.Common.{sym, ap, ◌∙◌, inl, inr, arith, ltb-true, ltb-false, eq-eqb}
use mathlib.Core.List.{List, [], ◌∷◌, ◌++◌, map, append_assoc, append-nil}
use Prim.Native.Nat.{ℕ, zero, suc, ◌+◌, ◌-◌, ◌≤◌, ◌<◌, min, max}
use Rattle.std.proofs.Math.IntN.{nat_abs}
use Rattle.rules.specs.Lists.{in_turn}
use Rattle.rules.specs.Records.{Kind, leaf, join, dummy, Node, Output, Record, output, node_at, outputs}
use Rattle.rules.specs.Totalizer.{Arena, counts, asks, number_in, number_of, pairs_from, pairs, clause, write, take_number, Define, ask, ask_pair, define_join, define_kind, define}
use Rattle.laws.specs.Lists.Facts.{All, All_map, All_zip, All_append, map_append}
use Rattle.laws.specs.Numbers.Halving.{counts_asks}
use Rattle.laws.specs.Records.Places.{place, nodes_same, places_same, output_none, outputs_append, outputs_of_outputs}
use Rattle.laws.specs.WellFormed.Plain.{Sound, Rise}
use Rattle.guarantee.specs.Meaning.Truth.{Member, member_left, member_right}
use Rattle.guarantee.specs.Meaning.Derived.{ClaimedKind, Claimed, Sides, Pair, Derived, Asked, CompleteAt, Claim, Means, rise_high}
use Rattle.guarantee.specs.Meaning.Growing.{join_parts, Onto, onto_keeps, sides_kept, clause_kept, pair_onto, kind_onto, derived_onto, complete_onto, claim_onto}

-- an arena whose clauses mean what its outputs say; its numbers and its leaves' variables were taken before the next fresh one
pub record Told (asked : Asked) (s : Arena) : Type 0 where
  pub means : Means asked s.records s.clauses
  pub numbers_low : All (λ o. o.number < s.fresh) (outputs s.records)
  pub leaves_low : (n : ℕ) (x : ℤ) → (node_at s.records n).kind ≡ leaf x → nat_abs x < s.fresh
  pub fresh_positive : 1 ≤ s.fresh

-- t has the records and clauses of s, then only outputs and clauses
pub record Grown (s t : Arena) : Type 0 where
  pub more : List Output
  pub records_are : t.records ≡ s.records ++ map output more
  pub said : List (List ℤ)
  pub clauses_are : t.clauses ≡ s.clauses ++ said
  pub fresh_more : s.fresh ≤ t.fresh
  pub more_new : All (λ o. s.fresh ≤ o.number) more

pub grown_self : (s : Arena) → Grown s s
grown_self s = record {
  more = [];
  records_are = sym (append-nil s.records);
  said = [];
  clauses_are = sym (append-nil s.clauses);
  fresh_more = omega arith;
  more_new = tt;
}

pub grown_then : (s t u : Arena) → Grown s t → Grown t u → Grown s u
grown_then s t u f g = record {
  more = f.more ++ g.more;
  records_are =
      g.records_are ∙
      (ap (λ (rs : List Record). rs ++ map output g.more) f.records_are ∙
      (append_assoc s.records (map output f.more) (map output g.more) ∙
      ap (λ (rs : List Record). s.records ++ rs) (sym (map_append output f.more g.more))));
  said = f.said ++ g.said;
  clauses_are =
      g.clauses_are ∙
      (ap (λ (cs : List (List ℤ)). cs ++ g.said) f.clauses_are ∙ append_assoc s.clauses f.said g.said);
  fresh_more = omega (arith, f.fresh_more, g.fresh_more);
  more_new = All_append (λ o. s.fresh ≤ o.number) f.more g.more f.more_new (All_map (λ o h. omega (arith, f.fresh_more)) g.more g.more_new);
}

-- the nodes are the same
pub grown_nodes : (s t : Arena) → Grown s t → node_at t.records ≡ node_at s.records
grown_nodes s t g = ap node_at g.records_are ∙ nodes_same s.records (map output g.more) (output_none g.more)

pub grown_places : (s t : Arena) → Grown s t → place t.records ≡ place s.records
grown_places s t g = ap place g.records_are ∙ places_same s.records (map output g.more) (output_none g.more)

pub grown_outputs : (s t : Arena) (g : Grown s t) → outputs t.records ≡ outputs s.records ++ g.more
grown_outputs s t g =
    ap outputs g.records_are ∙
    (outputs_append s.records (map output g.more) ∙ ap (λ (os : List Output). outputs s.records ++ os) (outputs_of_outputs g.more))

pub grown_onto : (s t : Arena) → Grown s t → Onto s.records t.records
grown_onto s t g = record {
  nodes_kept = λ n h. ap (λ (at : ℕ → Node). at n) (grown_nodes s t g);
  more = g.more;
  outputs_are = grown_outputs s t g;
}

-- an output that stands goes on standing
pub member_grown : (s t : Arena) → Grown s t → (o : Output) → Member o (outputs s.records) → Member o (outputs t.records)
member_grown s t g o m = subst (Member o) (sym (grown_outputs s t g)) (member_left o (outputs s.records) g.more m)

-- the pairs of a value: within the two maxima, adding to it, and all of them
abbrev pub InPair : ℕ → ℕ → ℕ → ℕ × ℕ → Type 0
InPair left right v p = (p.0 ≤ left) × (p.1 ≤ right) × (p.0 + p.1 ≡ v)

from_in : (left right v k a : ℕ) → v - right ≤ a → k ≤ suc (min v left) - a → All (InPair left right v) (pairs_from k a v)
unfolding pairs_from
from_in left right v zero a p q = tt
from_in left right v (suc k) a p q = ((omega arith, omega arith, omega arith), from_in left right v k (suc a) (omega arith) (omega arith))

pub pairs_in : (left right v : ℕ) → All (InPair left right v) (pairs left right v)
unfolding pairs
pairs_in left right v = from_in left right v (suc (min v left) - (v - right)) (v - right) (omega arith) (omega arith)

from_all : (P : ℕ × ℕ → Type 0) (v k a x : ℕ) → All P (pairs_from k a v) → a ≤ x → x < a + k → P (x, v - x)
unfolding pairs_from
from_all P v zero a x h p q = absurd (omega arith)
from_all P v (suc k) a x h p q = go (ltb a x) refl (from_all P v k (suc a) x h.1)
  where
    go : (b : Bool) → ltb a x ≡ b → (suc a ≤ x → x < suc a + k → P (x, v - x)) → P (x, v - x)
    go true e ih = ih (ltb-true a x e) (omega arith)
    go false e ih =
        let is : x ≡ a = omega (arith, ltb-false a x e) in
        rw is h.0

pub pairs_all : (P : ℕ × ℕ → Type 0) (left right v : ℕ) (p : ℕ × ℕ) → All P (pairs left right v) → InPair left right v p → P p
unfolding pairs
pairs_all P left right v (a, b) h (q, q', e) =
    let is : v - a ≡ b = omega arith in
    subst (λ (x : ℕ). P (a, x)) is (from_all P v (suc (min v left) - (v - right)) (v - right) a h (omega arith) (omega arith))

-- a member of a list has its image among the images
pub all_images : (f : ℕ × ℕ → List ℤ) (ps : List (ℕ × ℕ)) → All (λ p. Member (f p) (map f ps)) ps
all_images f [] = tt
all_images f (p ∷ ps) = (inl refl, All_map (λ q m. inr m) ps (all_images f ps))

rise_snoc : (low : ℕ) (os : List Output) (o : Output) → Rise low os → low ≤ o.number → All (λ x. x.number < o.number) os → Rise low (os ++ (o ∷ []))
rise_snoc low [] o r h a = (h, tt)
rise_snoc low (x ∷ os) o r h a = (r.0, rise_snoc (suc x.number) os o r.1 a.0 a.1)

number_last : (os : List Output) (n v w : ℕ) → All (λ o. 1 ≤ o.number) os → 1 ≤ w → 1 ≤ number_in (os ++ (record { node = n; value = v; number = w } ∷ [])) n v
unfolding number_in
number_last [] n v w a h = rw (eq-eqb n n refl, eq-eqb v v refl) h
number_last (o ∷ os) n v w a h = go (eqb o.node n && eqb o.value v) (number_last os n v w a.1 h)
  where
    go : (b : Bool) → 1 ≤ number_in (os ++ (record { node = n; value = v; number = w } ∷ [])) n v →
        1 ≤ cond b o.number (number_in (os ++ (record { node = n; value = v; number = w } ∷ [])) n v)
    go true ih = a.0
    go false ih = ih

module _ (asked : Asked) (at : ℕ → Node) (there : ℕ → Bool) (nodes : Sound at there) where
  -- what a rule of defining does to an arena over these nodes
  pub record Defines (s t : Arena) : Type 0 where
    pub told : Told asked t
    pub grown : Grown s t

  -- an arena over these nodes
  pub record Over (s : Arena) : Type 0 where
    pub nodes_are : node_at s.records ≡ at
    pub places_are : place s.records ≡ there
    pub told : Told asked s

  pub defines_self : (s : Arena) → Over s → Defines s s
  defines_self s o = record { told = o.told; grown = grown_self s }

  pub defines_then : (s t u : Arena) → Defines s t → Defines t u → Defines s u
  defines_then s t u f g = record { told = g.told; grown = grown_then s t u f.grown g.grown }

  pub over_defines : (s t : Arena) → Over s → Defines s t → Over t
  over_defines s t o d = record {
    nodes_are = grown_nodes s t d.grown ∙ o.nodes_are;
    places_are = grown_places s t d.grown ∙ o.places_are;
    told = d.told;
  }

  claimed_defines : (s t : Arena) → Defines s t → (n v : ℕ) → Claimed s.records n v → Claimed t.records n v
  claimed_defines s t d n v c = (onto_keeps s.records t.records (grown_onto s t d.grown) n v c).0

  abbrev pub DefinesBy : ℕ → Define → Type 0
  DefinesBy k d = (s : Arena) (n v : ℕ) → Over s → (at n).height ≤ k → 1 ≤ v → v ≤ (at n).maximum → Defines s (d s n v) × Claimed (d s n v).records n v

  ask_defines : (k : ℕ) (d : Define) → DefinesBy k d → (s : Arena) (n v : ℕ) → Over s → (at n).height ≤ k → v ≤ (at n).maximum →
      Defines s (ask d s n v) × (1 ≤ v → Claimed (ask d s n v).records n v)
  unfolding ask
  ask_defines k d f s n zero o p q = (defines_self s o, λ z. absurd (omega arith))
  ask_defines k d f s n (suc v) o p q = let g = f s n (suc v) o p (omega arith) q in (g.0, λ z. g.1)

  pub pairs_define : (k : ℕ) (d : Define) → DefinesBy k d → (half : Bool) (l r : ℕ) → (at l).height ≤ k → (at r).height ≤ k → (v : ℕ) (ps : List (ℕ × ℕ)) →
      All (InPair (at l).maximum (counts half (at r).maximum) v) ps → (s : Arena) → Over s →
      Defines s (in_turn (ask_pair d half l r) s ps) × All (Sides (in_turn (ask_pair d half l r) s ps).records half l r) ps
  unfolding in_turn ask_pair
  pairs_define k d f half l r hl hr v [] a s o = (defines_self s o, tt)
  pairs_define k d f half l r hl hr v (p ∷ ps) a s o =
      let s₁ : Arena = ask d s l p.0 in
      let g₁ = ask_defines k d f s l p.0 o hl a.0.0 in
      let o₁ : Over s₁ = over_defines s s₁ o g₁.0 in
      let s₂ : Arena = ask d s₁ r (asks half p.1) in
      let g₂ = ask_defines k d f s₁ r (asks half p.1) o₁ hr (counts_asks half p.1 (at r).maximum a.0.1) in
      let s₃ : Arena = in_turn (ask_pair d half l r) s₂ ps in
      let g₃ = pairs_define k d f half l r hl hr v ps a.1 s₂ (over_defines s₁ s₂ o₁ g₂.0) in
      let g₂₃ : Defines s₁ s₃ = defines_then s₁ s₂ s₃ g₂.0 g₃.0 in (
        defines_then s s₁ s₃ g₁.0 g₂₃,
        ((λ z. claimed_defines s₁ s₃ g₂₃ l p.0 (g₁.1 z), λ z. claimed_defines s₂ s₃ g₃.0 r (asks half p.1) (g₂.1 z)), g₃.1),
      )

  pub sound_over : (rs : List Record) → node_at rs ≡ at → place rs ≡ there → Sound (node_at rs) (place rs)
  sound_over rs na pa = subst (λ (f : ℕ → Bool). Sound (node_at rs) f) (sym pa) (subst (λ (f : ℕ → Node). Sound f there) (sym na) nodes)

  kind_over : (rs : List Record) → node_at rs ≡ at → (n : ℕ) (kd : Kind) → (at n).kind ≡ kd → (node_at rs n).kind ≡ kd
  kind_over rs na n kd e = ap (λ (f : ℕ → Node). (f n).kind) na ∙ e

  -- the clauses of an output's pairs are derived, where the output stands in the records or was added since
  pub clauses_derived : (rs rs' : List Record) → node_at rs ≡ at → place rs ≡ there → Onto rs rs' → (o : Output) → Member o (outputs rs') →
      (half : Bool) (l r : ℕ) → (at o.node).kind ≡ join half l r → (ps : List (ℕ × ℕ)) →
      All (InPair (at l).maximum (counts half (at r).maximum) o.value) ps → All (Sides rs half l r) ps →
      All (Derived rs') (map (clause rs half l r o.number) ps)
  clauses_derived rs rs' na pa g o m half l r e [] a b = tt
  clauses_derived rs rs' na pa g o m half l r e (p ∷ ps) a b =
      let e' : (node_at rs o.node).kind ≡ join half l r = kind_over rs na o.node (join half l r) e in
      let nodes' : Sound (node_at rs) (place rs) = sound_over rs na pa in
      let in_rs : Pair rs half l r o.value p =
      subst (λ (f : ℕ → Node). InPair (f l).maximum (counts half (f r).maximum) o.value p) (sym na) a.0 in (
        record {
          o = o;
          half = half;
          l = l;
          r = r;
          p = p;
          claimed = m;
          kind_is = kind_onto rs rs' nodes' g o.node half l r e';
          pair = pair_onto rs rs' nodes' g o.node half l r o.value p e' in_rs;
          sides = sides_kept rs rs' (onto_keeps rs rs' g) half l r p b.0;
          is = sym (clause_kept rs rs' (onto_keeps rs rs' g) half l r o.number p b.0);
        },
        clauses_derived rs rs' na pa g o m half l r e ps a.1 b.1,
      )

  -- taking the next number for an output whose pairs' sides are claimed, and writing its clauses
  number_told : (s : Arena) → Over s → (n v : ℕ) (half : Bool) (l r : ℕ) → (at n).kind ≡ join half l r → 1 ≤ v →
      All (Sides s.records half l r) (pairs (at l).maximum (counts half (at r).maximum) v) →
      Told asked (take_number n v (write half l r s.fresh (pairs (at l).maximum (counts half (at r).maximum) v) s))
  unfolding take_number write
  number_told s ov n v half l r e j b = record {
    means = record {
      claims = in_outputs (Claim rs')
          (All_zip (λ x low k. claim_onto rs rs' nodes' g x (λ m y q. k.apart m y (back m y q)) k) (outputs rs) ov.told.numbers_low old.claims)
          (record {
            half = half;
            l = l;
            r = r;
            kind_is = kind_onto rs rs' nodes' g n half l r (kind_over rs ov.nodes_are n (join half l r) e);
            positive = j;
            apart = λ m y q. let low : nat_abs y < s.fresh = ov.told.leaves_low m y (back m y q) in λ z. omega arith;
          });
      rise = rw os' (rise_snoc 1 (outputs rs) o old.rise ov.told.fresh_positive ov.told.numbers_low);
      complete = in_outputs (CompleteAt asked rs' (s.clauses ++ cs))
          (All_zip (λ x k c. complete_onto rs rs' nodes' g asked s.clauses cs x k c) (outputs rs) old.claims old.complete)
          here;
      derived = All_append (Derived rs') s.clauses cs (All_map (derived_onto rs rs' nodes' g) s.clauses old.derived)
          (clauses_derived rs rs' ov.nodes_are ov.places_are g o (rw os' (member_right o (outputs rs) (o ∷ []) (inl refl))) half l r e ps (pairs_in (at l).maximum (counts half (at r).maximum) v) b);
    };
    numbers_low = in_outputs (λ x. x.number < suc s.fresh) (All_map (λ x low. omega arith) (outputs rs) ov.told.numbers_low) (omega arith);
    leaves_low = λ m y q. let low : nat_abs y < s.fresh = ov.told.leaves_low m y (back m y q) in omega arith;
    fresh_positive = omega arith;
  }
    where
      rs : List Record
      rs = s.records

      ps : List (ℕ × ℕ)
      ps = pairs (at l).maximum (counts half (at r).maximum) v

      o : Output
      o = record { node = n; value = v; number = s.fresh }

      rs' : List Record
      rs' = rs ++ (output o ∷ [])

      cs : List (List ℤ)
      cs = map (clause rs half l r s.fresh) ps

      old : Means asked rs s.clauses
      old = ov.told.means

      nodes' : Sound (node_at rs) (place rs)
      nodes' = sound_over rs ov.nodes_are ov.places_are

      same : node_at rs' ≡ node_at rs
      same = nodes_same rs (output o ∷ []) (output_none (o ∷ []))

      os' : outputs rs' ≡ outputs rs ++ (o ∷ [])
      os' = outputs_append rs (output o ∷ []) ∙ ap (λ (os : List Output). outputs rs ++ os) (outputs_of_outputs (o ∷ []))

      g : Onto rs rs'
      g = record { nodes_kept = λ m h. ap (λ (f : ℕ → Node). f m) same; more = o ∷ []; outputs_are = os' }

      back : (m : ℕ) (y : ℤ) → (node_at rs' m).kind ≡ leaf y → (node_at rs m).kind ≡ leaf y
      back m y q = ap (λ (f : ℕ → Node). (f m).kind) (sym same) ∙ q

      in_outputs : (P : Output → Type 0) → All P (outputs rs) → P o → All P (outputs rs')
      in_outputs P a p = rw os' (All_append P (outputs rs) (o ∷ []) a (p, tt))

      pair_there : (p : ℕ × ℕ) → Pair rs' half l r v p → Sides rs' half l r p × Member (clause rs' half l r s.fresh p) (s.clauses ++ cs)
      pair_there p q =
          let q' : InPair (at l).maximum (counts half (at r).maximum) v p =
          subst (λ (f : ℕ → Node). InPair (f l).maximum (counts half (f r).maximum) v p) (same ∙ ov.nodes_are) q in
          let c : Sides rs half l r p = pairs_all (Sides rs half l r) (at l).maximum (counts half (at r).maximum) v p b q' in
          let m : Member (clause rs half l r s.fresh p) cs =
          pairs_all (λ x. Member (clause rs half l r s.fresh x) cs) (at l).maximum (counts half (at r).maximum) v p (all_images (clause rs half l r s.fresh) ps) q' in (
            sides_kept rs rs' (onto_keeps rs rs' g) half l r p c,
            subst (λ (x : List ℤ). Member x (s.clauses ++ cs)) (sym (clause_kept rs rs' (onto_keeps rs rs' g) half l r s.fresh p c))
                (member_right (clause rs half l r s.fresh p) s.clauses cs m),
          )

      at_pair : (half' : Bool) (l' r' : ℕ) → half' ≡ half → l' ≡ l → r' ≡ r → (p : ℕ × ℕ) → Pair rs' half' l' r' v p →
          Sides rs' half' l' r' p × Member (clause rs' half' l' r' s.fresh p) (s.clauses ++ cs)
      at_pair half' l' r' eh el er p q =
          rw (eh, el, er) (pair_there p (rw (eh, el, er) at q))

      here : CompleteAt asked rs' (s.clauses ++ cs) o
      here half' l' r' p e' q z =
          let k : join half' l' r' ≡ join half l r = sym e' ∙ kind_onto rs rs' nodes' g n half l r (kind_over rs ov.nodes_are n (join half l r) e) in
          let (eh, el, er) = join_parts half' half l' l r' r k in
          at_pair half' l' r' eh el er p q

  numbers_positive : (s : Arena) → Over s → All (λ o. 1 ≤ o.number) (outputs s.records)
  numbers_positive s o = rise_high 1 (outputs s.records) o.told.means.rise

  kind_defines : (k : ℕ) (d : Define) → DefinesBy k d → (s : Arena) (n v : ℕ) → Over s → (at n).height ≤ suc k → 1 ≤ v → v ≤ (at n).maximum →
      (kd : Kind) → (at n).kind ≡ kd → Defines s (define_kind d n v kd s) × ClaimedKind kd (number_of (define_kind d n v kd s).records n v)
  unfolding define_kind
  kind_defines k d f s n v o p j m (leaf x) e = (defines_self s o, tt)
  kind_defines k d f s n v o p j m dummy e = absurd (omega (arith, ((nodes n).dummy_is e).0))
  kind_defines k d f s n v o p j m (join half l r) e =
      subst (λ (g : ℕ → Node). Result (pairs (g l).maximum (counts half (g r).maximum) v) (number_of s.records n v)) (sym o.nodes_are)
      (go (number_of s.records n v) refl)
    where
      ps : List (ℕ × ℕ)
      ps = pairs (at l).maximum (counts half (at r).maximum) v

      Result : List (ℕ × ℕ) → ℕ → Type 0
      Result qs number = Defines s (define_join d n v half l r qs number s) × (1 ≤ number_of (define_join d n v half l r qs number s).records n v)

      h : (at n).height ≡ suc (max (at l).height (at r).height)
      h = (nodes n).height_is half l r e

      t : Arena
      t = in_turn (ask_pair d half l r) s ps

      g : Defines s t × All (Sides t.records half l r) ps
      g = pairs_define k d f half l r (omega (arith, h)) (omega (arith, h)) v ps (pairs_in (at l).maximum (counts half (at r).maximum) v) s o

      u : Arena
      u = take_number n v (write half l r t.fresh ps t)

      last : Grown t u
      last = record { more = record { node = n; value = v; number = t.fresh } ∷ []; records_are = refl; said = map (clause t.records half l r t.fresh) ps; clauses_are = refl; fresh_more = omega arith; more_new = (omega arith, tt) }

      ot : Over t
      ot = over_defines s t o g.0

      go : (number : ℕ) → number_of s.records n v ≡ number → Result ps number
      go zero q = (
        record { told = number_told t ot n v half l r e j g.1; grown = grown_then s t u g.0.grown last },
        subst (λ (os : List Output). 1 ≤ number_in os n v) (sym (grown_outputs t u last))
            (number_last (outputs t.records) n v t.fresh (numbers_positive t ot) ot.told.fresh_positive),
      )
      go (suc number) q = (defines_self s o, omega arith)

  zero_defines : (s : Arena) (n v : ℕ) → Over s → (at n).height ≤ 0 → 1 ≤ v → v ≤ (at n).maximum → (kd : Kind) → (at n).kind ≡ kd → ClaimedKind kd (number_of s.records n v)
  zero_defines s n v o p j m (leaf x) e = tt
  zero_defines s n v o p j m (join half l r) e = absurd (omega (arith, (nodes n).height_is half l r e))
  zero_defines s n v o p j m dummy e = absurd (omega (arith, ((nodes n).dummy_is e).0))

  -- defining output v of a node of height at most k
  pub define_defines : (k : ℕ) → DefinesBy k (define k)
  unfolding define
  define_defines zero s n v o p j m =
      (defines_self s o, subst (λ (f : ℕ → Node). ClaimedKind (f n).kind (number_of s.records n v)) (sym o.nodes_are) (zero_defines s n v o p j m (at n).kind refl))
  define_defines (suc k) s n v o p j m =
      let g = kind_defines k (define k) (define_defines k) s n v o p j m (at n).kind refl in
      let t : Arena = define_kind (define k) n v (at n).kind s in
      subst (λ (f : ℕ → Node). Defines s (define_kind (define k) n v (f n).kind s) × Claimed (define_kind (define k) n v (f n).kind s).records n v) (sym o.nodes_are)
      (g.0, subst (λ (f : ℕ → Node). ClaimedKind (f n).kind (number_of t.records n v)) (sym (over_defines s t o g.0).nodes_are) g.1)
