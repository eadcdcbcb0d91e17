-- Heights fall along links, so there are more records than any node is high.
use Rattle.std.specs.Prelude.{◌≡◌, refl, ◌≢◌, Bool, true, false, List, [], ◌∷◌, map, ℕ, zero, suc, ◌≤◌, ◌<◌, max, eqb, leb, length}
use Rattle.std.proofs.Common.{sym, ◌∙◌, ap, subst, arith, eqb-true, leb-true, leb-false}
use Rattle.std.proofs.lemmas.List.{length-map}
use Rattle.std.proofs.lemmas.Bool.{eqb-false}
use Rattle.rules.specs.Lists.{rising}
use Rattle.rules.specs.Records.{Kind, leaf, join, dummy, Record, node_at}
use Rattle.laws.specs.Lists.Facts.{occurs, occurs_here, occurs_other, occurs_more, rising_has, rising_length}
use Rattle.laws.specs.Records.Places.{place, place_inside}
use Rattle.laws.specs.WellFormed.Plain.{Sound}
use Rattle.laws.specs.Lists.Pigeons.{at_least_all}

-- what stands in a list has its image in the list of images
occurs_image : (f : ℕ → ℕ) (n : ℕ) (xs : List ℕ) → 1 ≤ occurs n xs → 1 ≤ occurs (f n) (map f xs)
unfolding occurs
occurs_image f n [] h = absurd (omega arith)
occurs_image f n (x ∷ xs) h = go (eqb n x) refl (occurs_image f n xs)
  where
    go : (b : Bool) → eqb n x ≡ b → (1 ≤ occurs n xs → 1 ≤ occurs (f n) (map f xs)) → 1 ≤ occurs (f n) (f x ∷ map f xs)
    go true e ih = omega (arith, occurs_here (f n) (f x) (map f xs) (ap f (eqb-true n x e)))
    go false e ih = omega (arith, occurs_more (f n) (f x) (map f xs), ih (omega (arith, h, occurs_other n x xs (eqb-false n x e))))

module _ (rs : List Record) (sound : Sound (node_at rs) (place rs)) where
  -- below a node there is one of every lower height
  pub every_height : (h n k : ℕ) → place rs n ≡ true → (node_at rs n).height ≡ h → k ≤ h → (m : ℕ) × (place rs m ≡ true) ×
      ((node_at rs m).height ≡ k)
  every_height zero n k there e le = (n, there, e ∙ omega arith)
  every_height (suc h) n k there e le =
      go (eqb k (suc h)) refl (λ m p q i. every_height h m k p q i)
    where
      lower : ((m : ℕ) → place rs m ≡ true → (node_at rs m).height ≡ h → k ≤ h → (m : ℕ) × (place rs m ≡ true) × ((node_at rs m).height ≡ k)) →
          k ≤ h →
          (kd : Kind) → (node_at rs n).kind ≡ kd → (m : ℕ) × (place rs m ≡ true) × ((node_at rs m).height ≡ k)
      lower ih low (leaf x) j = absurd (omega (arith, e, ((sound n).leaf_is x j).2))
      lower ih low dummy j = absurd (omega (arith, e, ((sound n).dummy_is j).1))
      lower ih low (join half l r) j =
          let up : (node_at rs n).height ≡ suc (max (node_at rs l).height (node_at rs r).height) = (sound n).height_is half l r j in
          let (lt, rt) = (sound n).links_are half l r j in
          side (leb (node_at rs r).height (node_at rs l).height) refl up lt rt
        where
          side : (b : Bool) → leb (node_at rs r).height (node_at rs l).height ≡ b →
              (node_at rs n).height ≡ suc (max (node_at rs l).height (node_at rs r).height) → place rs l ≡ true → place rs r ≡ true →
              (m : ℕ) × (place rs m ≡ true) × ((node_at rs m).height ≡ k)
          side true q up lt rt = ih l lt (omega (arith, e, up, leb-true (node_at rs r).height (node_at rs l).height q)) low
          side false q up lt rt = ih r rt (omega (arith, e, up, leb-false (node_at rs r).height (node_at rs l).height q)) low

      go : (b : Bool) → eqb k (suc h) ≡ b → ((m : ℕ) → place rs m ≡ true → (node_at rs m).height ≡ h → k ≤ h → (m : ℕ) × (place rs m ≡ true) ×
          ((node_at rs m).height ≡ k)) →
          (m : ℕ) × (place rs m ≡ true) × ((node_at rs m).height ≡ k)
      go true q ih = (n, there, e ∙ sym (eqb-true k (suc h) q))
      go false q ih =
          let ne : k ≢ suc h = eqb-false k (suc h) q in
          lower ih (omega arith) (node_at rs n).kind refl

  -- a node's height is below the number of records
  pub heights_below : (n : ℕ) → place rs n ≡ true → (node_at rs n).height < length rs
  heights_below n there =
      let f : ℕ → ℕ = λ i. (node_at rs i).height in
      let xs : List ℕ = map f (rising (length rs) 0) in
      let each : (i : ℕ) → i < suc (node_at rs n).height → 1 ≤ occurs i xs = λ i h.
      let (m, p, e) = every_height (node_at rs n).height n i there refl (omega arith) in
      subst (λ (j : ℕ). 1 ≤ occurs j xs) e (occurs_image f m (rising (length rs) 0)
      (rising_has (length rs) 0 m (omega arith) (omega (arith, place_inside rs m p)))) in
      omega (arith, at_least_all (suc (node_at rs n).height) xs each, length-map (rising (length rs) 0) f, rising_length (length rs) 0)
