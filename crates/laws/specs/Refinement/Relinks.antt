-- Old buckets brought up to date from the lowest to the root: each linked to the one below, by the rule again, no maximum less.
use Rattle.std.specs.Prelude.{◌≡◌, ◌≢◌, Bool, false, length}
use Rattle.std.proofs.Math.Path.{refl, ap, subst}
use Rattle.std.proofs.Common.{sym, ◌∙◌, ap₂, arith}
use Rattle.std.proofs.Math.Bool.{true}
use mathlib.Core.List.{List, [], ◌∷◌, ◌++◌, reverse, reverse-cons}
use Prim.Native.Nat.{ℕ, suc, ◌+◌, ◌/◌, ◌≤◌, ◌<◌, max}
use Rattle.std.proofs.Math.ListN.{length-set, set}
use Rattle.rules.specs.Records.{Kind, join, Node, Record, node, node_at, left_link, right_link, outputs}
use Rattle.rules.specs.Totalizer.{counts, joining}
use Rattle.rules.specs.Refinement.{relink}
use Rattle.laws.specs.Lists.Facts.{All, All_map, All_set, occurs, occurs_here, occurs_none, occurs_more}
use Rattle.laws.specs.Records.Places.{place, place_inside, node_at_set, node_at_set_other, place_set, outputs_set}
use Rattle.laws.specs.WellFormed.Plain.{Ruled, Sound, Spares, Linked}
use Rattle.laws.specs.Totalizer.Grows.{ruled_join, ruled_same}

-- the first of a list, d where it is empty
abbrev pub first : List ℕ → ℕ → ℕ
first [] d = d
first (x ∷ xs) d = x

-- the same from the root: the buckets below first, then the bucket itself
unfoldable pub climb : List Record → ℕ → List ℕ → List Record
unfolding joining node_at left_link
climb rs below [] = rs
climb rs below (b ∷ bs) = set (climb rs below bs) b
    (node (joining (climb rs below bs) true (left_link (node_at (climb rs below bs) b).kind) (first bs below)))

last_of : List ℕ → ℕ → ℕ
last_of [] d = d
last_of (x ∷ xs) d = last_of xs x

last_snoc : (xs : List ℕ) (x d : ℕ) → last_of (xs ++ (x ∷ [])) d ≡ x
unfolding last_of
last_snoc [] x d = refl
last_snoc (y ∷ ys) x d = last_snoc ys x y

last_reverse : (bs : List ℕ) (d : ℕ) → last_of (reverse bs) d ≡ first bs d
unfolding last_of
last_reverse [] d = refl
last_reverse (b ∷ bs) d = ap (λ (t : List ℕ). last_of t d) (reverse-cons b bs) ∙ last_snoc (reverse bs) b d

relink_snoc : (rs : List Record) (below : ℕ) (xs : List ℕ) (b : ℕ) →
    relink rs below (xs ++ (b ∷ [])) ≡ set (relink rs below xs) b
    (node (joining (relink rs below xs) true (left_link (node_at (relink rs below xs) b).kind) (last_of xs below)))
unfolding relink last_of
relink_snoc rs below [] b = refl
relink_snoc rs below (x ∷ xs) b = relink_snoc (set rs x (node (joining rs true (left_link (node_at rs x).kind) below))) x xs b

pub relink_climb : (rs : List Record) (below : ℕ) (bs : List ℕ) → relink rs below (reverse bs) ≡ climb rs below bs
unfolding relink climb
relink_climb rs below [] = refl
relink_climb rs below (b ∷ bs) =
    ap (relink rs below) (reverse-cons b bs) ∙
    (relink_snoc rs below (reverse bs) b ∙
    ap₂ (λ (t : List Record) (n : ℕ). set t b (node (joining t true (left_link (node_at t b).kind) n))) (relink_climb rs below bs)
    (last_reverse bs below))

-- buckets in a chain are joins, and their heights fall
pub linked_joins : (at : ℕ → Node) (wait : Bool) (bs : List ℕ) → Linked at wait bs →
    All (λ b. (half : Bool) × (l : ℕ) × (r : ℕ) × ((at b).kind ≡ join half l r)) bs
linked_joins at wait [] h = tt
linked_joins at true (b ∷ []) h = ((true, h.0, h.1, h.2), tt)
linked_joins at false (b ∷ []) h = ((h.0, h.1, h.2, h.3), tt)
linked_joins at wait (b ∷ c ∷ bs) h = ((true, h.0.0, c, h.0.1), linked_joins at wait (c ∷ bs) h.1)

pub heights_fall : (at : ℕ → Node) (pl : ℕ → Bool) → Sound at pl → (wait : Bool) (b : ℕ) (bs : List ℕ) → Linked at wait (b ∷ bs) →
    All (λ c. (at c).height < (at b).height) bs
heights_fall at pl s wait b [] h = tt
heights_fall at pl s wait b (c ∷ bs) h =
    let up : (at b).height ≡ suc (max (at h.0.0).height (at c).height) = (s b).height_is true h.0.0 c h.0.1 in
    (omega arith, All_map (λ d (k : (at d).height < (at c).height). omega arith) bs (heights_fall at pl s wait c bs h.1))

-- so no bucket stands twice
pub linked_once : (at : ℕ → Node) (pl : ℕ → Bool) → Sound at pl → (wait : Bool) (b : ℕ) (bs : List ℕ) → Linked at wait (b ∷ bs) →
    occurs b bs ≡ 0
linked_once at pl s wait b bs h = occurs_none (λ c. (at c).height < (at b).height) b bs (heights_fall at pl s wait b bs h)
    (λ (k : (at b).height < (at b).height). omega arith)

-- a chain without its first bucket
pub linked_rest : (at : ℕ → Node) (wait : Bool) (b : ℕ) (bs : List ℕ) → Linked at wait (b ∷ bs) → Linked at wait bs
linked_rest at wait b [] h = tt
linked_rest at wait b (c ∷ bs) h = h.1

module _ (rs : List Record) (B : List ℕ) (below : ℕ) (sound : Sound (node_at rs) (place rs)) (spares : Spares (node_at rs) B)
    (below_there : place rs below ≡ true) (below_apart : occurs below B ≡ 0) where
  abbrev left_of : ℕ → ℕ
  left_of b = left_link (node_at rs b).kind

  -- bucket b of R, over `next`
  pub record Step (R : List Record) (b next : ℕ) : Type 0 where
    pub kind_is : (node_at R b).kind ≡ join true (left_of b) next
    pub ruled : Ruled (node_at R) (place R) (node_at R b)
    pub grows : (node_at rs b).maximum ≤ (node_at R b).maximum

  abbrev pub Steps : List Record → List ℕ → Type 0
  Steps R [] = Unit {0}
  Steps R (b ∷ bs) = Step R b (first bs below) × Steps R bs

  -- R is rs with the buckets `bs` up to date
  pub record Climbed (bs : List ℕ) (R : List Record) : Type 0 where
    pub same : (i : ℕ) → occurs i bs ≡ 0 → node_at R i ≡ node_at rs i
    pub places : place R ≡ place rs
    pub outputs_same : outputs R ≡ outputs rs
    pub size : length R ≡ length rs
    pub kept : (p : Record → Bool) → ((n : Node) → p (node n) ≡ true) → All (λ r. p r ≡ true) rs → All (λ r. p r ≡ true) R
    pub steps : Steps R bs

  apart_of : (x b : ℕ) → occurs x B ≡ 0 → 1 ≤ occurs b B → x ≢ b
  apart_of x b none some e =
      let z : occurs b B ≡ 0 = ap (λ n. occurs n B) (sym e) ∙ none in
      omega arith

  -- the left link of a bucket is none
  pub left_apart : (b : ℕ) → (half : Bool) × (l : ℕ) × (r : ℕ) × ((node_at rs b).kind ≡ join half l r) → occurs (left_of b) B ≡ 0
  unfolding left_link
  left_apart b (half, l, r, k) = ap (λ (x : Kind). occurs (left_link x) B) k ∙ (spares b half l r k).0

  left_there : (b : ℕ) → (half : Bool) × (l : ℕ) × (r : ℕ) × ((node_at rs b).kind ≡ join half l r) → place rs (left_of b) ≡ true
  unfolding left_link
  left_there b (half, l, r, k) = ap (λ (x : Kind). place rs (left_link x)) k ∙ ((sound b).links_are half l r k).0

  -- setting another bucket leaves those below as they are
  steps_set : (R : List Record) (b : ℕ) (nd : Node) → place R b ≡ true → (bs : List ℕ) → occurs b bs ≡ 0 → below ≢ b → 1 ≤ occurs b B →
      All (λ c. (half : Bool) × (l : ℕ) × (r : ℕ) × ((node_at rs c).kind ≡ join half l r)) bs → Steps R bs → Steps (set R b (node nd)) bs
  unfolding left_link right_link
  steps_set R b nd there [] out apart mem joins s = tt
  steps_set R b nd there (c ∷ bs) out apart mem joins s =
      let ne : c ≢ b = λ e. omega (arith, out, occurs_here b c bs (sym e)) in
      let out' : occurs b bs ≡ 0 = omega (arith, out, occurs_more b c bs) in
      let c_same : node_at (set R b (node nd)) c ≡ node_at R c = node_at_set_other R b c (node nd) ne in
      let left_ne : left_of c ≢ b = apart_of (left_of c) b (left_apart c joins.0) mem in
      let next_ne : first bs below ≢ b = not_first bs out' in (
        record {
          kind_is = ap (λ (x : Node). x.kind) c_same ∙ s.0.kind_is;
          ruled =
              subst (λ (x : Node). Ruled (node_at (set R b (node nd))) (place (set R b (node nd))) x) (sym c_same)
              (ruled_same (node_at R) (node_at (set R b (node nd))) (place R) (place (set R b (node nd))) (node_at R c) s.0.ruled
              (λ half l r e.
              let l_is : left_of c ≡ l = ap left_link (sym s.0.kind_is ∙ e) in
              let r_is : first bs below ≡ r = ap right_link (sym s.0.kind_is ∙ e) in
              let p : place (set R b (node nd)) ≡ place R = place_set R b nd there in (
                node_at_set_other R b l (node nd) (subst (λ (x : ℕ). x ≢ b) l_is left_ne),
                node_at_set_other R b r (node nd) (subst (λ (x : ℕ). x ≢ b) r_is next_ne),
                ap (λ (f : ℕ → Bool). f l) p ∙ (s.0.ruled.links_are half l r e).0,
                ap (λ (f : ℕ → Bool). f r) p ∙ (s.0.ruled.links_are half l r e).1,
              )));
          grows = rw c_same s.0.grows;
        },
        steps_set R b nd there bs out' apart mem joins.1 s.1,
      )
    where
      not_first : (bs : List ℕ) → occurs b bs ≡ 0 → first bs below ≢ b
      not_first [] o = apart
      not_first (d ∷ ds) o = λ e. omega (arith, o, occurs_here b d ds (sym e))

  -- what the next bucket below gives
  record Under (R : List Record) (b next : ℕ) : Type 0 where
    next_there : place rs next ≡ true
    next_most : (node_at R next).maximum ≤ 513
    next_other : next ≢ b
    enough : (node_at rs b).maximum ≤ (node_at rs (left_of b)).maximum + (node_at R next).maximum / 2

  under : (R : List Record) (b : ℕ) (bs : List ℕ) → Climbed bs R → occurs b bs ≡ 0 → 1 ≤ occurs b B → All (λ c. place rs c ≡ true) bs →
      All (λ c. 1 ≤ occurs c B) bs → Linked (node_at rs) true (b ∷ bs) → Under R b (first bs below)
  unfolding left_link counts
  under R b [] c out mem there mems (l, r, k, d) =
      let m : (node_at rs b).maximum ≡ (node_at rs l).maximum + (node_at rs r).maximum / 2 = (sound b).maximum_is true l r k in
      let z : (node_at rs r).maximum ≡ 0 = ((sound r).dummy_is d).0 in
      let l_is : left_of b ≡ l = ap left_link k in
      let e : (node_at rs (left_of b)).maximum ≡ (node_at rs l).maximum = ap (λ n. (node_at rs n).maximum) l_is in
      record {
        next_there = below_there;
        next_most = omega (arith, (sound below).within, ap (λ (x : Node). x.maximum) (c.same below (nothing below)));
        next_other = apart_of below b below_apart mem;
        enough = omega arith;
      }
    where
      nothing : (n : ℕ) → occurs n [] ≡ 0
      nothing n = occurs_none (λ k. k < 0) n [] tt (λ (h : n < 0). omega arith)
  under R b (x ∷ xs) c out mem there mems h =
      let l : ℕ = h.0.0 in
      let m : (node_at rs b).maximum ≡ (node_at rs l).maximum + (node_at rs x).maximum / 2 = (sound b).maximum_is true l x h.0.1 in
      let l_is : left_of b ≡ l = ap left_link h.0.1 in
      let e : (node_at rs (left_of b)).maximum ≡ (node_at rs l).maximum = ap (λ n. (node_at rs n).maximum) l_is in
      record {
        next_there = there.0;
        next_most = c.steps.0.ruled.within;
        next_other = λ q. omega (arith, out, occurs_here b x xs (sym q));
        enough = omega (arith, m, e, c.steps.0.grows);
      }

  climb_on : (b : ℕ) (bs : List ℕ) (R : List Record) → Climbed bs R → Linked (node_at rs) true (b ∷ bs) → place rs b ≡ true →
      All (λ c. place rs c ≡ true) bs → 1 ≤ occurs b B → All (λ c. 1 ≤ occurs c B) bs →
      (node_at rs (left_of b)).maximum ≤ 257 → Climbed (b ∷ bs)
      (set R b (node (joining R true (left_link (node_at R b).kind) (first bs below))))
  unfolding joining counts
  climb_on b bs R c chain there thens mem mems few =
      let next : ℕ = first bs below in
      let joins = linked_joins (node_at rs) true (b ∷ bs) chain in
      let out : occurs b bs ≡ 0 = linked_once (node_at rs) (place rs) sound true b bs chain in
      let u : Under R b next = under R b bs c out mem thens mems chain in
      let b_same : node_at R b ≡ node_at rs b = c.same b out in
      let l : ℕ = left_link (node_at R b).kind in
      let l_is : l ≡ left_of b = ap (λ (x : Node). left_link x.kind) b_same in
      let l_out : occurs l B ≡ 0 = ap (λ n. occurs n B) l_is ∙ left_apart b joins.0 in
      let l_ne : l ≢ b = apart_of l b l_out mem in
      let l_rest : occurs l bs ≡ 0 = occurs_none (λ c. 1 ≤ occurs c B) l bs mems (λ (k : 1 ≤ occurs l B). omega arith) in
      let l_same : node_at R l ≡ node_at rs (left_of b) = c.same l l_rest ∙ ap (node_at rs) l_is in
      let l_there : place R l ≡ true = ap (λ (f : ℕ → Bool). f l) c.places ∙ (ap (place rs) l_is ∙ left_there b joins.0) in
      let n_there : place R next ≡ true = ap (λ (f : ℕ → Bool). f next) c.places ∙ u.next_there in
      let b_there : place R b ≡ true = ap (λ (f : ℕ → Bool). f b) c.places ∙ there in
      let nd : Node = joining R true l next in
      let R' : List Record = set R b (node nd) in
      let at_b : node_at R' b ≡ nd = node_at_set R b nd (place_inside R b b_there) in
      let p : place R' ≡ place R = place_set R b nd b_there in
      let sum : (node_at R l).maximum ≡ (node_at rs (left_of b)).maximum = ap (λ (x : Node). x.maximum) l_same in
      let ruled : Ruled (node_at R) (place R) nd = ruled_join (node_at R) (place R) nd true l next refl refl refl l_there n_there
      (omega (arith, few, u.next_most)) in
      let ruled' : Ruled (node_at R') (place R') nd =
      ruled_join (node_at R') (place R') nd true l next refl
      (ap₂ (λ (x y : Node). suc (max x.height y.height)) (sym (node_at_set_other R b l (node nd) l_ne))
      (sym (node_at_set_other R b next (node nd) u.next_other)))
      (ap₂ (λ (x y : Node). x.maximum + y.maximum / 2) (sym (node_at_set_other R b l (node nd) l_ne))
      (sym (node_at_set_other R b next (node nd) u.next_other)))
      (ap (λ (f : ℕ → Bool). f l) p ∙ l_there) (ap (λ (f : ℕ → Bool). f next) p ∙ n_there) ruled.within in
      record {
        same = λ i h. other i h (nd);
        places = p ∙ c.places;
        outputs_same = outputs_set R b nd b_there ∙ c.outputs_same;
        size = length-set R b (node nd) ∙ c.size;
        kept = λ t f h. All_set (λ r. t r ≡ true) R b (node nd) (c.kept t f h) (f nd);
        steps = (
          record {
            kind_is = ap (λ (x : Node). x.kind) at_b ∙ ap (λ (n : ℕ). join true n next) l_is;
            ruled = subst (λ (x : Node). Ruled (node_at R') (place R') x) (sym at_b) ruled';
            grows = rw at_b (omega (arith, sum, u.enough));
          },
          steps_set R b nd b_there bs out (apart_of below b below_apart mem) mem joins.1 c.steps,
        );
      }
    where
      other : (i : ℕ) → occurs i (b ∷ bs) ≡ 0 → (nd : Node) → node_at (set R b (node nd)) i ≡ node_at rs i
      other i h nd =
          let ne : i ≢ b = λ e. omega (arith, h, occurs_here i b bs e) in
          node_at_set_other R b i (node nd) ne ∙ c.same i (omega (arith, h, occurs_more i b bs))

  -- the whole chain brought up to date
  pub climbed : (bs : List ℕ) → Linked (node_at rs) true bs → All (λ c. place rs c ≡ true) bs → All (λ c. 1 ≤ occurs c B) bs →
      All (λ c. (node_at rs (left_of c)).maximum ≤ 257) bs → Climbed bs (climb rs below bs)
  unfolding climb
  climbed [] chain there mems few = record {
    same = λ i h. refl;
    places = refl;
    outputs_same = refl;
    size = refl;
    kept = λ P f h. h;
    steps =
        tt;
  }
  climbed (b ∷ bs) chain there mems few =
      climb_on b bs (climb rs below bs) (climbed bs (linked_rest (node_at rs) true b bs chain) there.1 mems.1 few.1) chain
      there.0 there.1 mems.0 mems.1 few.0
