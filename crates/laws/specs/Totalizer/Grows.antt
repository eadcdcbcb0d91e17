-- Nodes appended to sound records leave them sound.
use Rattle.std.specs.Prelude.{◌≡◌, refl, ◌≢◌, ◌⊎◌, Bool, true, false, List, [], ◌∷◌, ◌++◌, map, ℕ, suc, ◌+◌, ◌≤◌, ◌<◌, max, ltb, eqb, length, ℤ}
use Rattle.std.proofs.Common.{sym, ◌∙◌, ap, ap₂, subst, append-nil, append_assoc, arith, length-append, ltb-true, ltb-false, eqb-true}
use Rattle.std.proofs.lemmas.Bool.{false≢true, eqb-false}
use Rattle.std.proofs.Math.ListN.{get_or-eq_default}
use Rattle.rules.specs.Numbers.{lawful}
use Rattle.rules.specs.Records.{Kind, leaf, join, dummy, Node, Output, Record, node, node_at, node_of, outputs, left_link, right_link, leaf_node, dummy_node}
use Rattle.rules.specs.Totalizer.{counts}
use Rattle.rules.specs.WellFormed.{is_leaf, is_dummy, above}
use Rattle.laws.specs.Lists.Facts.{All, All_append, map_append, occurs}
use Rattle.laws.specs.Records.Places.{place, place_inside, place_more, join_place, node_at_append, node_at_last, outputs_append}
use Rattle.laws.specs.WellFormed.Plain.{Ruled, Sound, Spares}

-- a join's half
pub half_of : Kind → Bool
half_of (join half l r) = half
half_of (leaf x) = false
half_of dummy = false

-- a leaf and a dummy are nodes by the rule
pub ruled_leaf : (at : ℕ → Node) (pl : ℕ → Bool) (x : ℤ) → lawful x ≡ true → Ruled at pl (leaf_node x)
unfolding leaf_node is_leaf is_dummy
ruled_leaf at pl x h = record {
  links_are = λ half l r e. absurd (false≢true (sym (ap is_leaf e)));
  height_is = λ half l r e. absurd (false≢true (sym (ap is_leaf e)));
  maximum_is = λ half l r e. absurd (false≢true (sym (ap is_leaf e)));
  leaf_is = λ y e. (literal y e, refl, refl);
  dummy_is = λ e. absurd (false≢true (sym (ap is_leaf e)));
  within = omega arith;
}
  where
    literal : (y : ℤ) → leaf x ≡ leaf y → lawful y ≡ true
    literal y e =
        let is : x ≡ y = cc in
        subst (λ (z : ℤ). lawful z ≡ true) is h

pub ruled_dummy : (at : ℕ → Node) (pl : ℕ → Bool) → Ruled at pl dummy_node
unfolding dummy_node is_leaf is_dummy
ruled_dummy at pl = record {
  links_are = λ half l r e. absurd (false≢true (sym (ap is_dummy e)));
  height_is = λ half l r e. absurd (false≢true (sym (ap is_dummy e)));
  maximum_is = λ half l r e. absurd (false≢true (sym (ap is_dummy e)));
  leaf_is = λ x e. absurd (false≢true (sym (ap is_dummy e)));
  dummy_is = λ e. (refl, refl);
  within = omega arith;
}

-- and so is a join of two of them
pub ruled_join : (at : ℕ → Node) (pl : ℕ → Bool) (nd : Node) (half : Bool) (l r : ℕ) → nd.kind ≡ join half l r →
    nd.height ≡ suc (max (at l).height (at r).height) → nd.maximum ≡ (at l).maximum + counts half (at r).maximum →
    pl l ≡ true → pl r ≡ true → nd.maximum ≤ 513 → Ruled at pl nd
unfolding left_link right_link half_of is_leaf is_dummy
ruled_join at pl nd half l r k height maximum left right bound =
    record {
      links_are = λ h a b e.
          let ea : l ≡ a = ap left_link (sym k ∙ e) in
          let eb : r ≡ b = ap right_link (sym k ∙ e) in
          (subst (λ (n : ℕ). pl n ≡ true) ea left, subst (λ (n : ℕ). pl n ≡ true) eb right);
      height_is = λ h a b e.
          let ea : l ≡ a = ap left_link (sym k ∙ e) in
          let eb : r ≡ b = ap right_link (sym k ∙ e) in
          height ∙ ap₂ (λ (x y : ℕ). suc (max (at x).height (at y).height)) ea eb;
      maximum_is = λ h a b e.
          let ea : l ≡ a = ap left_link (sym k ∙ e) in
          let eb : r ≡ b = ap right_link (sym k ∙ e) in
          let eh : half ≡ h = ap half_of (sym k ∙ e) in
          maximum ∙ (ap₂ (λ (x y : ℕ). (at x).maximum + counts half (at y).maximum) ea eb ∙
          ap (λ (t : Bool). (at a).maximum + counts t (at b).maximum) eh);
      leaf_is = λ x e. absurd (false≢true (ap is_leaf (sym k ∙ e)));
      dummy_is = λ e. absurd (false≢true (ap is_dummy (sym k ∙ e)));
      within = bound;
    }

-- a node by the rule stays one where its links stay
pub ruled_same : (at at' : ℕ → Node) (pl pl' : ℕ → Bool) (nd : Node) → Ruled at pl nd →
    ((half : Bool) (l r : ℕ) → nd.kind ≡ join half l r → (at' l ≡ at l) × (at' r ≡ at r) × (pl' l ≡ true) × (pl' r ≡ true)) →
    Ruled at' pl' nd
ruled_same at at' pl pl' nd h same = record {
  links_are = λ half l r e. ((same half l r e).2, (same half l r e).3);
  height_is = λ half l r e. h.height_is half l r e ∙
      ap₂ (λ (x y : Node). suc (max x.height y.height)) (sym (same half l r e).0) (sym (same half l r e).1);
  maximum_is = λ half l r e. h.maximum_is half l r e ∙
      ap₂ (λ (x y : Node). x.maximum + counts half y.maximum) (sym (same half l r e).0) (sym (same half l r e).1);
  leaf_is = h.leaf_is;
  dummy_is = h.dummy_is;
  within = h.within;
}

pub ruled_more : (rs xs : List Record) (nd : Node) → Ruled (node_at rs) (place rs) nd → Ruled (node_at (rs ++ xs)) (place (rs ++ xs)) nd
ruled_more rs xs nd h =
    ruled_same (node_at rs) (node_at (rs ++ xs)) (place rs) (place (rs ++ xs)) nd h
    (λ half l r e.
    let (left, right) = h.links_are half l r e in (
      node_at_append rs xs l (place_inside rs l left),
      node_at_append rs xs r (place_inside rs r right),
      place_more rs xs l left,
      place_more rs xs r right,
    ))

-- the place of an appended record holds it, later ones nothing
pub at_snoc : (P : Node → Type 0) (rs : List Record) (nd : Node) → ((n : ℕ) → P (node_at rs n)) → P nd → P dummy_node → (n : ℕ) →
    P (node_at (rs ++ (node nd ∷ [])) n)
unfolding node_at node_of dummy_node
at_snoc P rs nd old new none n = go (ltb n (length rs)) refl (eqb n (length rs)) refl
  where
    go : (a : Bool) → ltb n (length rs) ≡ a → (b : Bool) → eqb n (length rs) ≡ b → P (node_at (rs ++ (node nd ∷ [])) n)
    go true e b f = subst P (sym (node_at_append rs (node nd ∷ []) n (ltb-true _ _ e))) (old n)
    go false e true f = subst P (sym (ap (node_at (rs ++ (node nd ∷ []))) (eqb-true n (length rs) f) ∙ node_at_last rs nd [])) new
    go false e false f =
        let low : length rs ≤ n = ltb-false n (length rs) e in
        let ne : n ≢ length rs = eqb-false n (length rs) f in
        subst P (sym (ap node_of (get_or-eq_default (rs ++ (node nd ∷ [])) _ (omega (arith, length-append rs (node nd ∷ [])))))) none

-- records with nodes appended, sound again
pub record Grown (rs rs' : List Record) : Type 0 where
  pub new : List Node
  pub is_new : rs' ≡ rs ++ map node new
  pub sound : Sound (node_at rs') (place rs')

pub grown_self : (rs : List Record) → Sound (node_at rs) (place rs) → Grown rs rs
grown_self rs s = record { new = []; is_new = sym (append-nil rs); sound = s }

pub grown_then : (rs rs' rs'' : List Record) → Grown rs rs' → Grown rs' rs'' → Grown rs rs''
grown_then rs rs' rs'' g h = record {
  new = g.new ++ h.new;
  is_new =
      h.is_new ∙
      (ap (λ (t : List Record). t ++ map node h.new) g.is_new ∙
      (append_assoc rs (map node g.new) (map node h.new) ∙
      ap (λ (t : List Record). rs ++ t) (sym (map_append node g.new h.new))));
  sound = h.sound;
}

pub grown_length : (rs rs' : List Record) → Grown rs rs' → length rs ≤ length rs'
grown_length rs rs' g = rw g.is_new (omega (arith, length-append rs (map node g.new)))

pub grown_at : (rs rs' : List Record) → Grown rs rs' → (n : ℕ) → n < length rs → node_at rs' n ≡ node_at rs n
grown_at rs rs' g n h = ap (λ (t : List Record). node_at t n) g.is_new ∙ node_at_append rs (map node g.new) n h

pub grown_place : (rs rs' : List Record) → Grown rs rs' → (n : ℕ) → place rs n ≡ true → place rs' n ≡ true
grown_place rs rs' g n h = ap (λ (t : List Record). place t n) g.is_new ∙ place_more rs (map node g.new) n h

pub grown_outputs : (rs rs' : List Record) → Grown rs rs' → outputs rs' ≡ outputs rs
unfolding outputs
grown_outputs rs rs' g =
    ap outputs g.is_new ∙ (outputs_append rs (map node g.new) ∙
    (ap (λ (t : List Output). outputs rs ++ t) (none g.new) ∙ append-nil (outputs rs)))
  where
    none : (ns : List Node) → outputs (map node ns) ≡ []
    none [] = refl
    none (n ∷ ns) = none ns

pub grown_all : (P : Record → Type 0) → ((n : Node) → P (node n)) → (rs rs' : List Record) → Grown rs rs' → All P rs → All P rs'
grown_all P f rs rs' g h = subst (λ (t : List Record). All P t) (sym g.is_new) (All_append P rs (map node g.new) h (every g.new))
  where
    every : (ns : List Node) → All P (map node ns)
    every [] = tt
    every (n ∷ ns) = (f n, every ns)

pub grown_one : (rs : List Record) (nd : Node) → Sound (node_at rs) (place rs) → Ruled (node_at rs) (place rs) nd →
    Grown rs (rs ++ (node nd ∷ []))
grown_one rs nd s h = record {
  new = nd ∷ [];
  is_new = refl;
  sound =
      let xs : List Record = node nd ∷ [] in
      at_snoc (Ruled (node_at (rs ++ xs)) (place (rs ++ xs))) rs nd (λ n. ruled_more rs xs (node_at rs n) (s n)) (ruled_more rs xs nd h)
      (ruled_dummy (node_at (rs ++ xs)) (place (rs ++ xs)));
}

-- no link names n
abbrev pub Unnamed : (ℕ → Node) → ℕ → Type 0
Unnamed at n = (i : ℕ) (half : Bool) (l r : ℕ) → (at i).kind ≡ join half l r → (l ≢ n) × (r ≢ n)

-- the newest node is named by none
pub newest_unnamed : (rs : List Record) (nd : Node) → Sound (node_at rs) (place rs) → Ruled (node_at rs) (place rs) nd →
    Unnamed (node_at (rs ++ (node nd ∷ []))) (length rs)
newest_unnamed rs nd s h =
    at_snoc (λ x. (half : Bool) (l r : ℕ) → x.kind ≡ join half l r → (l ≢ length rs) × (r ≢ length rs)) rs nd
    (λ n half l r e. apart l r ((s n).links_are half l r e)) (λ half l r e. apart l r (h.links_are half l r e))
    (λ half l r e. apart l r ((ruled_dummy (node_at rs) (place rs)).links_are half l r e))
  where
    apart : (l r : ℕ) → (place rs l ≡ true) × (place rs r ≡ true) → (l ≢ length rs) × (r ≢ length rs)
    apart l r p =
        let left : l < length rs = place_inside rs l p.0 in
        let right : r < length rs = place_inside rs r p.1 in
        ((λ e. omega arith), (λ e. omega arith))

-- a node appended whose links name no bucket
pub spares_one : (rs : List Record) (nd : Node) (A : List ℕ) → Spares (node_at rs) A →
    ((half : Bool) (l r : ℕ) → nd.kind ≡ join half l r → (occurs l A ≡ 0) × ((occurs r A ≡ 0) ⊎ (above A (length rs) r ≡ true))) →
    Spares (node_at (rs ++ (node nd ∷ []))) A
unfolding dummy_node is_dummy
spares_one rs nd A s h i half l r e = go (ltb i (length rs)) refl (eqb i (length rs)) refl
  where
    xs : List Record
    xs = node nd ∷ []

    go : (a : Bool) → ltb i (length rs) ≡ a → (b : Bool) → eqb i (length rs) ≡ b → (occurs l A ≡ 0) ×
        ((occurs r A ≡ 0) ⊎ (above A i r ≡ true))
    go true p b q = s i half l r (ap (λ (x : Node). x.kind) (sym (node_at_append rs (node nd ∷ []) i (ltb-true _ _ p))) ∙ e)
    go false p true q =
        let is : i ≡ length rs = eqb-true i (length rs) q in
        let k : nd.kind ≡ join half l r = ap (λ (x : Node). x.kind) (sym (ap (node_at (rs ++ (node nd ∷ []))) is ∙ node_at_last rs nd [])) ∙
        e in
        subst (λ (j : ℕ). (occurs l A ≡ 0) × ((occurs r A ≡ 0) ⊎ (above A j r ≡ true))) (sym is) (h half l r k)
    go false p false q =
        let there : i < length (rs ++ (node nd ∷ [])) =
        place_inside (rs ++ (node nd ∷ [])) i (join_place (rs ++ (node nd ∷ [])) i half l r e) in
        let low : length rs ≤ i = ltb-false i (length rs) p in
        let ne : i ≢ length rs = eqb-false i (length rs) q in
        absurd (omega (arith, length-append rs (node nd ∷ [])))
