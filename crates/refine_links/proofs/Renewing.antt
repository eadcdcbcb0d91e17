-- The rule of linking buckets anew, over records: what it keeps, and the sizes that it makes.
use mathlib.Core.Path.{◌≡◌, refl, ap, ◌∙◌, subst}
use mathlib.Core.Logic.{◌≢◌}
use mathlib.Core.Bool.{Bool, true, false}
use mathlib.Core.List.{List, [], ◌∷◌}
use Prim.Native.Nat.{ℕ, zero, suc, ◌≤◌, ◌<◌, max}
use native.Mathlib.Omega.{arith}
use lib.Dec.{ltb}
use lib.ListN.{length, get_or, set, take, length-set}
use lib.Seq.{get_or-set_same, get_or-set_other, get_or-take, take-set-lt, take-set-le}
use borrow.Author.Tests.{ltb-true, ltb-false}
use Rattle.rules.specs.Records.{Node, Record, node, unknown, node_of, outputs}
use Rattle.rules.specs.WellFormed.{is_node}
use Rattle.rules.specs.Refinement.{relink}
use Rattle.laws.specs.Lists.Facts.{All, All_map, occurs, occurs_here, occurs_more}
use Rattle.laws.specs.Records.Places.{place, place_set, outputs_set}
use Rattle.records.specs.Carries.{size, peak}
use Rattle.refine_links.specs.Linked.{renewed, linked}

-- the first of the buckets, then those above
pub relink_first : (rs : List Record) (below b : ℕ) (above : List ℕ) → relink rs below (b ∷ above) ≡ relink (linked rs below b) b above
unfolding relink linked renewed
relink_first rs below b above = refl

pub linked_length : (rs : List Record) (below b : ℕ) → length (linked rs below b) ≡ length rs
unfolding linked
linked_length rs below b = length-set rs b (node (renewed rs below b))

pub relink_length : (rs : List Record) (below : ℕ) (bs : List ℕ) → length (relink rs below bs) ≡ length rs
unfolding relink linked
relink_length rs below [] = refl
relink_length rs below (b ∷ bs) = relink_length (linked rs below b) b bs ∙ linked_length rs below b

-- a record that is none of the buckets is kept
pub relink_other : (rs : List Record) (below : ℕ) (bs : List ℕ) (k : ℕ) (d : Record) → occurs k bs ≡ 0 → get_or (relink rs below bs) k d ≡ get_or rs k d
unfolding relink linked
relink_other rs below [] k d h = refl
relink_other rs below (b ∷ bs) k d h =
    relink_other (linked rs below b) b bs k d (omega (arith, h, occurs_more k b bs)) ∙
    other k b (λ e. omega (arith, h, occurs_here k b bs e))
  where
    other : (k b : ℕ) → k ≢ b → get_or (linked rs below b) k d ≡ get_or rs k d
    other k b ne = get_or-set_other rs b k (node (renewed rs below b)) d ne

-- where every bucket is a node, the places of nodes and the outputs are kept
pub relink_places : (rs : List Record) (below : ℕ) (bs : List ℕ) → All (λ b. place rs b ≡ true) bs →
    (place (relink rs below bs) ≡ place rs) × (outputs (relink rs below bs) ≡ outputs rs)
unfolding relink linked
relink_places rs below [] h = (refl, refl)
relink_places rs below (b ∷ bs) h =
    let p : place (linked rs below b) ≡ place rs = place_set rs b (renewed rs below b) h.0 in
    let ih = relink_places (linked rs below b) b bs (All_map (λ n e. ap (λ (f : ℕ → Bool). f n) p ∙ e) bs h.1) in
    (ih.0 ∙ p, ih.1 ∙ outputs_set rs b (renewed rs below b) h.0)

-- so the outputs among the first records are kept
outputs_front : (rs : List Record) (n b : ℕ) (nd : Node) → place rs b ≡ true → outputs (take n (set rs b (node nd))) ≡ outputs (take n rs)
unfolding place
outputs_front rs n b nd h = go (ltb b n) refl
  where
    go : (t : Bool) → ltb b n ≡ t → outputs (take n (set rs b (node nd))) ≡ outputs (take n rs)
    go true e =
        let low : b < n = ltb-true b n e in
        ap outputs (take-set-lt n rs b (node nd) low) ∙ outputs_set (take n rs) b nd (ap is_node (get_or-take n rs b unknown low) ∙ h)
    go false e = ap outputs (take-set-le n rs b (node nd) (ltb-false b n e))

pub relink_front : (rs : List Record) (below : ℕ) (bs : List ℕ) (n : ℕ) → All (λ b. place rs b ≡ true) bs →
    outputs (take n (relink rs below bs)) ≡ outputs (take n rs)
unfolding relink linked
relink_front rs below [] n h = refl
relink_front rs below (b ∷ bs) n h =
    let p : place (linked rs below b) ≡ place rs = place_set rs b (renewed rs below b) h.0 in
    relink_front (linked rs below b) b bs n (All_map (λ m e. ap (λ (f : ℕ → Bool). f m) p ∙ e) bs h.1) ∙
    outputs_front rs n b (renewed rs below b) h.0

-- Sizes -----------------------------------------------------------------------------------------------------------------------

pub peak_set : (rs : List Record) (n : ℕ) (r : Record) → peak (set rs n r) ≤ max (peak rs) (size r)
unfolding peak
peak_set [] n r = omega arith
peak_set (q ∷ rs) zero r = omega arith
peak_set (q ∷ rs) (suc n) r = omega (arith, peak_set rs n r)

pub peak_at : (rs : List Record) (n : ℕ) → size (get_or rs n unknown) ≤ peak rs
unfolding peak size node_of
peak_at [] n = omega arith
peak_at (r ∷ rs) zero = omega arith
peak_at (r ∷ rs) (suc n) = omega (arith, peak_at rs n)

-- a bucket that stands once keeps the size that it was linked with
pub peak_linked : (rs : List Record) (below b : ℕ) (above : List ℕ) → b < length rs → occurs b above ≡ 0 →
    size (node (renewed rs below b)) ≤ peak (relink rs below (b ∷ above))
unfolding linked
peak_linked rs below b above h none =
    let at : get_or (relink rs below (b ∷ above)) b unknown ≡ node (renewed rs below b) =
    ap (λ (x : List Record). get_or x b unknown) (relink_first rs below b above) ∙
    (relink_other (linked rs below b) b above b unknown none ∙ here) in
    subst (λ (r : Record). size r ≤ peak (relink rs below (b ∷ above))) at (peak_at (relink rs below (b ∷ above)) b)
  where
    here : get_or (linked rs below b) b unknown ≡ node (renewed rs below b)
    here = get_or-set_same rs b (node (renewed rs below b)) unknown h
