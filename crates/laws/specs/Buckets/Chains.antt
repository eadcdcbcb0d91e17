-- A chain of buckets that stands among the records, and what it keeps as they grow.
use Rattle.std.specs.Prelude.{◌≡◌, refl, ◌≢◌, ◌⊎◌, Bool, true, false, ◌&&◌, List, [], ◌∷◌, ℕ, ◌≤◌, ◌<◌, eqb, length}
use Rattle.std.proofs.Common.{sym, ◌∙◌, ap, inl, inr, arith, eq-eqb}
use Rattle.std.proofs.lemmas.Bool.{false≢true}
use Rattle.rules.specs.Records.{Kind, leaf, join, dummy, Node, Record, node_at, left_link}
use Rattle.rules.specs.WellFormed.{above}
use Rattle.laws.specs.Lists.Facts.{All, All_map, occurs, occurs_other, or_right}
use Rattle.laws.specs.Records.Places.{place, place_inside}
use Rattle.laws.specs.WellFormed.Plain.{Sound, Spares, Ends, Linked}
use Rattle.laws.specs.Totalizer.Grows.{Grown, grown_at, grown_place, Unnamed}

-- the buckets `bs`, highest first, stand among the records: linked, lefts within, named by none but the one above; A is spared
pub record Standing (wait : Bool) (A : List ℕ) (rs : List Record) (bs : List ℕ) : Type 0 where
  pub sound : Sound (node_at rs) (place rs)
  pub there : All (λ b. place rs b ≡ true) bs
  pub linked : Linked (node_at rs) wait bs
  pub lefts : All (λ b. (node_at rs (left_link (node_at rs b).kind)).maximum ≤ 257) bs
  pub spares : Spares (node_at rs) bs
  pub others : Spares (node_at rs) A
  pub apart : All (λ b. occurs b A ≡ 0) bs

-- no bucket stands
pub standing_none : (wait : Bool) (A : List ℕ) (rs : List Record) → Sound (node_at rs) (place rs) → Spares (node_at rs) A →
    Standing wait A rs []
unfolding occurs
standing_none wait A rs s h = record {
  sound = s;
  there = tt;
  linked = tt;
  lefts = tt;
  spares = λ i half l r e. (refl, inl refl);
  others = h;
  apart = tt;
}

-- the left link of a node is below the record count
pub left_inside : (rs : List Record) → Sound (node_at rs) (place rs) → (b : ℕ) → place rs b ≡ true →
    left_link (node_at rs b).kind < length rs
unfolding left_link
left_inside rs s b h = go (node_at rs b).kind refl
  where
    go : (k : Kind) → (node_at rs b).kind ≡ k → left_link k < length rs
    go (leaf x) e = omega (arith, place_inside rs b h)
    go (join half l r) e = place_inside rs l ((s b).links_are half l r e).0
    go dummy e = omega (arith, place_inside rs b h)

module _ (rs rs' : List Record) (s : Sound (node_at rs) (place rs)) (g : Grown rs rs') where
  kind_same : (b : ℕ) → place rs b ≡ true → (node_at rs' b).kind ≡ (node_at rs b).kind
  kind_same b h = ap (λ (x : Node). x.kind) (grown_at rs rs' g b (place_inside rs b h))

  ends_grown : (wait : Bool) (b : ℕ) → place rs b ≡ true → Ends (node_at rs) wait b → Ends (node_at rs') wait b
  ends_grown true b h (l, r, k, d) = (l, r, kind_same b h ∙ k, kind_same r ((s b).links_are true l r k).1 ∙ d)
  ends_grown false b h (half, l, r, k, d) = (half, l, r, kind_same b h ∙ k, (λ e. d (sym (kind_same r ((s b).links_are half l r k).1) ∙ e)))

  -- links and left maxima stay as the records grow
  pub linked_grown : (wait : Bool) (bs : List ℕ) → All (λ b. place rs b ≡ true) bs → Linked (node_at rs) wait bs →
      Linked (node_at rs') wait bs
  linked_grown wait [] h l = tt
  linked_grown wait (b ∷ []) h l = ends_grown wait b h.0 l
  linked_grown wait (b ∷ c ∷ bs) h l = ((l.0.0, kind_same b h.0 ∙ l.0.1), linked_grown wait (c ∷ bs) h.1 l.1)

  pub lefts_grown : (bs : List ℕ) → All (λ b. place rs b ≡ true) bs →
      All (λ b. (node_at rs (left_link (node_at rs b).kind)).maximum ≤ 257) bs →
      All (λ b. (node_at rs' (left_link (node_at rs' b).kind)).maximum ≤ 257) bs
  lefts_grown [] h l = tt
  lefts_grown (b ∷ bs) h l =
      let same : node_at rs' (left_link (node_at rs' b).kind) ≡ node_at rs (left_link (node_at rs b).kind) =
      ap (λ (k : Kind). node_at rs' (left_link k)) (kind_same b h.0) ∙
      grown_at rs rs' g (left_link (node_at rs b).kind) (left_inside rs s b h.0) in
      let most : (node_at rs (left_link (node_at rs b).kind)).maximum ≤ 257 = l.0 in
      ((rw same most), lefts_grown bs h.1 l.1)

-- a chain stands as the records grow
pub standing_grown : (wait : Bool) (A : List ℕ) (rs rs' : List Record) (bs : List ℕ) → Standing wait A rs bs → Grown rs rs' →
    Spares (node_at rs') bs → Spares (node_at rs') A → Standing wait A rs' bs
standing_grown wait A rs rs' bs s g p o = record {
  sound = g.sound;
  there = All_map (grown_place rs rs' g) bs s.there;
  linked = linked_grown rs rs' s.sound g wait bs s.there s.linked;
  lefts = lefts_grown rs rs' s.sound g bs s.there s.lefts;
  spares = p;
  others = o;
  apart = s.apart;
}

pub above_cons : (b i r : ℕ) (bs : List ℕ) → above bs i r ≡ true → above (b ∷ bs) i r ≡ true
unfolding above
above_cons b i r [] e = absurd (false≢true e)
above_cons b i r (c ∷ bs) e = or_right (eqb b i && eqb c r) (above (c ∷ bs) i r) e

pub above_first : (b c : ℕ) (bs : List ℕ) → above (b ∷ c ∷ bs) b c ≡ true
unfolding above
above_first b c bs = rw (eq-eqb b b refl) (rw (eq-eqb c c refl) refl)

-- a bucket that no link names may join the list
pub spares_cons : (at : ℕ → Node) (b : ℕ) (bs : List ℕ) → Unnamed at b → Spares at bs → Spares at (b ∷ bs)
spares_cons at b bs u s i half l r e =
    let (nl, nr) = u i half l r e in
    let (left, right) = s i half l r e in
    (occurs_other l b bs nl ∙ left, go nr right)
  where
    go : r ≢ b → (occurs r bs ≡ 0) ⊎ (above bs i r ≡ true) → (occurs r (b ∷ bs) ≡ 0) ⊎ (above (b ∷ bs) i r ≡ true)
    go nr (inl z) = inl (occurs_other r b bs nr ∙ z)
    go nr (inr z) = inr (above_cons b i r bs z)

-- what is past the end is named by none
pub past_unnamed : (rs : List Record) → Sound (node_at rs) (place rs) → (b : ℕ) → length rs ≤ b → Unnamed (node_at rs) b
past_unnamed rs s b h i half l r e =
    let (left, right) = (s i).links_are half l r e in
    let l_in : l < length rs = place_inside rs l left in
    let r_in : r < length rs = place_inside rs r right in
    ((λ e. omega arith), (λ e. omega arith))
