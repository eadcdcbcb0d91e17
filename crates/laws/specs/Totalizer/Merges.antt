-- Merging a list: a node whose maximum is the sum of the members', a new join where there are two or more.
use Rattle.std.specs.Prelude.{◌≡◌, refl, Bool, true, ℕ, zero, suc, ◌+◌, ◌/◌, ◌≤◌, ◌<◌, take, drop}
use Rattle.std.proofs.Math.Path.{sym, ap}
use Rattle.std.proofs.Common.{◌∙◌, ap₂, subst, arith, take-append-drop, length-take, length-drop, drop_at}
use Rattle.std.proofs.Math.Logic.{inl}
use Rattle.std.proofs.Math.Bool.{false}
use mathlib.Core.List.{List, [], ◌∷◌, ◌++◌, map}
use Rattle.std.proofs.Math.ListN.{length}
use Rattle.rules.specs.Lists.{total}
use Rattle.rules.specs.Records.{join, Node, Record, node_at, left_link, right_link}
use Rattle.rules.specs.Totalizer.{counts, joining, add, merge_by, merge}
use Rattle.laws.specs.Lists.Facts.{All, All_map, All_first, All_second, total_append, total_cong, occurs, occurs_none}
use Rattle.laws.specs.Records.Places.{place, place_inside, place_last, node_at_last}
use Rattle.laws.specs.WellFormed.Plain.{Ruled, Sound, Spares}
use Rattle.laws.specs.Totalizer.Grows.{ruled_join, Grown, grown_self, grown_then, grown_length, grown_at, grown_place, grown_one, Unnamed, newest_unnamed, spares_one}

-- the maxima of a list of nodes, added up
abbrev pub maxima : List Record → List ℕ → ℕ
maxima rs ms = total (map (λ (m : ℕ). (node_at rs m).maximum) ms)

-- they stay as records grow
pub maxima_grown : (rs rs' : List Record) → Grown rs rs' → (ms : List ℕ) → All (λ m. place rs m ≡ true) ms → maxima rs' ms ≡ maxima rs ms
maxima_grown rs rs' g ms h =
    total_cong (λ (m : ℕ). (node_at rs' m).maximum) (λ (m : ℕ). (node_at rs m).maximum) ms
    (All_map (λ m p. ap (λ (x : Node). x.maximum) (grown_at rs rs' g m (place_inside rs m p))) ms h)

-- what merging a list makes
pub record Merged (rs : List Record) (ms : List ℕ) (r : List Record × ℕ) : Type 0 where
  pub grown : Grown rs r.0
  pub there : place r.0 r.1 ≡ true
  pub sum_is : (node_at r.0 r.1).maximum ≡ maxima rs ms
  pub spared : (A : List ℕ) → All (λ a. a < length rs) A → All (λ m. occurs m A ≡ 0) ms → Spares (node_at rs) A → Spares (node_at r.0) A ×
      (occurs r.1 A ≡ 0)

-- what it makes of two or more: a new join that no link names
pub record Crowned (rs : List Record) (ms : List ℕ) (r : List Record × ℕ) : Type 0 where
  pub left : ℕ
  pub right : ℕ
  pub kind_is : (node_at r.0 r.1).kind ≡ join false left right
  pub unnamed : Unnamed (node_at r.0) r.1
  pub fresh : length rs ≤ r.1
  pub left_most : (node_at r.0 left).maximum ≤ maxima rs ms
  pub right_is : (node_at r.0 right).maximum ≡ maxima rs (drop (length ms / 2) ms)

-- the members a and those that avoid a list of places
avoid_later : (rs rs' : List Record) → Grown rs rs' → (A : List ℕ) → All (λ a. a < length rs) A → All (λ a. a < length rs') A
avoid_later rs rs' g A h =
    let le : length rs ≤ length rs' = grown_length rs rs' g in
    All_map (λ a (k : a < length rs). omega arith) A h

pub not_among_later : (n k : ℕ) (A : List ℕ) → All (λ a. a < n) A → n ≤ k → occurs k A ≡ 0
not_among_later n k A h i = occurs_none (λ a. a < n) k A h (λ (j : k < n). omega arith)

-- a node joined of two
pub record Joined (rs : List Record) (half : Bool) (l r : ℕ) : Type 0 where
  pub ruled : Ruled (node_at rs) (place rs) (joining rs half l r)
  pub grown : Grown rs (add rs (joining rs half l r)).0
  pub there : place (add rs (joining rs half l r)).0 (length rs) ≡ true
  pub is : node_at (add rs (joining rs half l r)).0 (length rs) ≡ joining rs half l r
  pub unnamed : Unnamed (node_at (add rs (joining rs half l r)).0) (length rs)

pub joined : (rs : List Record) (half : Bool) (l r : ℕ) → Sound (node_at rs) (place rs) → place rs l ≡ true → place rs r ≡ true →
    (node_at rs l).maximum + counts half (node_at rs r).maximum ≤ 513 → Joined rs half l r
unfolding add joining
joined rs half l r s a b h =
    let nd : Node = joining rs half l r in
    let ruled : Ruled (node_at rs) (place rs) nd = ruled_join (node_at rs) (place rs) nd half l r refl refl refl a b h in
    record {
      ruled = ruled;
      grown = grown_one rs nd s ruled;
      there = place_last rs nd [];
      is = node_at_last rs nd [];
      unnamed = newest_unnamed rs nd s ruled;
    }

module _ (rs : List Record) (xs ys : List ℕ) (a c : List Record × ℕ) (m : Merged rs xs a) (n : Merged a.0 ys c)
    (iy : All (λ m. place rs m ≡ true) ys) (few : maxima rs (xs ++ ys) ≤ 513) where
  all_grown : Grown rs c.0
  all_grown = grown_then rs a.0 c.0 m.grown n.grown

  left_is : (node_at c.0 a.1).maximum ≡ maxima rs xs
  left_is = ap (λ (x : Node). x.maximum) (grown_at a.0 c.0 n.grown a.1 (place_inside a.0 a.1 m.there)) ∙ m.sum_is

  right_part : (node_at c.0 c.1).maximum ≡ maxima rs ys
  right_part = n.sum_is ∙ maxima_grown rs a.0 m.grown ys iy

  join_of : Joined c.0 false a.1 c.1
  unfolding counts
  join_of =
      joined c.0 false a.1 c.1 n.grown.sound (grown_place a.0 c.0 n.grown a.1 m.there) n.there
      (omega (arith, left_is, right_part, few, total_append (λ (m : ℕ). (node_at rs m).maximum) xs ys))

  pub merged_two : Merged rs (xs ++ ys) (add c.0 (joining c.0 false a.1 c.1))
  unfolding add joining counts left_link right_link
  merged_two = record {
    grown = grown_then rs c.0 (add c.0 (joining c.0 false a.1 c.1)).0 all_grown join_of.grown;
    there = join_of.there;
    sum_is =
        ap (λ (x : Node). x.maximum) join_of.is ∙
        (ap₂ (λ x y. x + y) left_is right_part ∙ sym (total_append (λ (m : ℕ). (node_at rs m).maximum) xs ys));
    spared = λ A below avoid s.
        let first : Spares (node_at a.0) A × (occurs a.1 A ≡ 0) = m.spared A below (All_first (λ m. occurs m A ≡ 0) xs ys avoid) s in
        let second : Spares (node_at c.0) A × (occurs c.1 A ≡ 0) =
        n.spared A (avoid_later rs a.0 m.grown A below) (All_second (λ m. occurs m A ≡ 0) xs ys avoid) first.0 in (
          spares_one c.0 (joining c.0 false a.1 c.1) A second.0
              (λ half l r e. (
                ap (λ k. occurs k A) (sym (ap left_link e)) ∙ first.1,
                inl (ap (λ k. occurs k A) (sym (ap right_link e)) ∙ second.1),
              )),
          not_among_later (length rs) (length c.0) A below (grown_length rs c.0 all_grown),
        );
  }

  pub crowned_two : length (xs ++ ys) / 2 ≡ length xs → Crowned rs (xs ++ ys) (add c.0 (joining c.0 false a.1 c.1))
  unfolding add joining
  crowned_two half =
      let rs' : List Record = (add c.0 (joining c.0 false a.1 c.1)).0 in
      let left_in : a.1 < length c.0 = place_inside c.0 a.1 (grown_place a.0 c.0 n.grown a.1 m.there) in
      record {
        left = a.1;
        right = c.1;
        kind_is = ap (λ (x : Node). x.kind) join_of.is;
        unnamed = join_of.unnamed;
        fresh = grown_length rs c.0 all_grown;
        left_most =
            let e : (node_at rs' a.1).maximum ≡ maxima rs xs =
            ap (λ (x : Node). x.maximum) (grown_at c.0 rs' join_of.grown a.1 left_in) ∙ left_is in
            omega (arith, e, total_append (λ (m : ℕ). (node_at rs m).maximum) xs ys);
        right_is =
            ap (λ (x : Node). x.maximum) (grown_at c.0 rs' join_of.grown c.1 (place_inside c.0 c.1 n.there)) ∙
            (right_part ∙ ap (maxima rs) (sym (drop_at xs ys (length (xs ++ ys) / 2) (sym half))));
      }

-- merging with fuel enough
pub merge_by_made : (f : ℕ) (rs : List Record) (ms : List ℕ) → Sound (node_at rs) (place rs) → All (λ m. place rs m ≡ true) ms →
    1 ≤ length ms → length ms ≤ f → maxima rs ms ≤ 513 →
    Merged rs ms (merge_by f rs ms) × (2 ≤ length ms → Crowned rs ms (merge_by f rs ms))
unfolding merge_by total
merge_by_made zero rs ms s a p q few = absurd (omega arith)
merge_by_made (suc f) rs [] s a p q few = absurd (omega arith)
merge_by_made (suc f) rs (m ∷ []) s a p q few = (
  record { grown = grown_self rs s; there = a.0; sum_is = omega arith; spared = λ A below avoid h. (h, avoid.0) },
  (λ two. absurd (omega arith)),
)
merge_by_made (suc f) rs (m ∷ m' ∷ ms) s a p q few =
    let all : List ℕ = m ∷ m' ∷ ms in
    let k : ℕ = length all / 2 in
    let xs : List ℕ = take k all in
    let ys : List ℕ = drop k all in
    let parts : xs ++ ys ≡ all = take-append-drop k all in
    let a' : All (λ m. place rs m ≡ true) (xs ++ ys) = subst (λ (t : List ℕ). All (λ m. place rs m ≡ true) t) (sym parts) a in
    let iy : All (λ m. place rs m ≡ true) ys = All_second (λ m. place rs m ≡ true) xs ys a' in
    let few' : maxima rs (xs ++ ys) ≤ 513 = subst (λ (t : List ℕ). maxima rs t ≤ 513) (sym parts) few in
    let add_up : maxima rs (xs ++ ys) ≡ maxima rs xs + maxima rs ys = total_append (λ (m : ℕ). (node_at rs m).maximum) xs ys in
    let first : List Record × ℕ = merge_by f rs xs in
    let m₁ : Merged rs xs first = (merge_by_made f rs xs s (All_first (λ m. place rs m ≡ true) xs ys a') (omega (arith, length-take k all))
    (omega (arith, length-take k all)) (omega arith)).0 in
    let second : List Record × ℕ = merge_by f first.0 ys in
    let m₂ : Merged first.0 ys second =
    (merge_by_made f first.0 ys m₁.grown.sound (All_map (grown_place rs first.0 m₁.grown) ys iy)
    (omega (arith, length-drop k all)) (omega (arith, length-drop k all))
    (omega (arith, maxima_grown rs first.0 m₁.grown ys iy))).0 in
    let half : length (xs ++ ys) / 2 ≡ length xs = ap (λ (t : List ℕ). length t / 2) parts ∙ omega (arith, length-take k all) in (
      subst (λ (t : List ℕ). Merged rs t (merge_by (suc f) rs all)) parts (merged_two rs xs ys first second m₁ m₂ iy few'),
      (λ two. subst (λ (t : List ℕ). Crowned rs t (merge_by (suc f) rs all)) parts (crowned_two rs xs ys first second m₁ m₂ iy few' half)),
    )

-- merging a list
pub merge_made : (rs : List Record) (ms : List ℕ) → Sound (node_at rs) (place rs) → All (λ m. place rs m ≡ true) ms → 1 ≤ length ms →
    maxima rs ms ≤ 513 →
    Merged rs ms (merge rs ms) × (2 ≤ length ms → Crowned rs ms (merge rs ms))
unfolding merge
merge_made rs ms s a p few = merge_by_made (length ms) rs ms s a p (omega arith) few

-- any fuel that is at least the length merges the same
pub merge_fuel : (f g : ℕ) (rs : List Record) (ms : List ℕ) → length ms ≤ f → length ms ≤ g → merge_by f rs ms ≡ merge_by g rs ms
unfolding merge_by
merge_fuel zero zero rs ms h k = refl
merge_fuel zero (suc g) rs [] h k = refl
merge_fuel zero (suc g) rs (m ∷ ms) h k = absurd (omega arith)
merge_fuel (suc f) zero rs [] h k = refl
merge_fuel (suc f) zero rs (m ∷ ms) h k = absurd (omega arith)
merge_fuel (suc f) (suc g) rs [] h k = refl
merge_fuel (suc f) (suc g) rs (m ∷ []) h k = refl
merge_fuel (suc f) (suc g) rs (m ∷ m' ∷ ms) h k =
    let all : List ℕ = m ∷ m' ∷ ms in
    let n : ℕ = length all / 2 in
    let first : merge_by f rs (take n all) ≡ merge_by g rs (take n all) =
    merge_fuel f g rs (take n all) (omega (arith, length-take n all)) (omega (arith, length-take n all)) in
    let second : merge_by f (merge_by f rs (take n all)).0 (drop n all) ≡ merge_by g (merge_by f rs (take n all)).0 (drop n all) =
    merge_fuel f g (merge_by f rs (take n all)).0 (drop n all) (omega (arith, length-drop n all)) (omega (arith, length-drop n all)) in
    ap (λ (c : List Record × ℕ). add c.0 (joining c.0 false (merge_by f rs (take n all)).1 c.1)) second ∙
    ap (λ (a : List Record × ℕ). add (merge_by g a.0 (drop n all)).0
    (joining (merge_by g a.0 (drop n all)).0 false a.1 (merge_by g a.0 (drop n all)).1)) first
