-- Buckets built one over another: each with a tare, and the top one of a first build without.
use Rattle.std.specs.Prelude.{◌≡◌, refl, Bool, true, false, ℕ, ◌+◌, ◌/◌, ◌≤◌, ◌<◌, drop, pos}
use Rattle.std.proofs.Common.{sym, length-append}
use Rattle.std.proofs.Math.Path.{ap}
use Rattle.std.proofs.lemmas.Bool.{false≢true}
use mathlib.Core.List.{List, [], ◌∷◌, ◌++◌, map}
use native.Mathlib.Omega.{arith}
use Rattle.std.proofs.Math.ListN.{length}
use Rattle.rules.specs.Lists.{total, sort}
use Rattle.rules.specs.Numbers.{lawful}
use Rattle.rules.specs.Records.{Node, Record, node, node_at, leaf_node}
use Rattle.rules.specs.Totalizer.{add, merge}
use Rattle.rules.specs.Buckets.{with_tare, lower, with_below, bucket, left_out, buckets_over}
use Rattle.rules.specs.WellFormed.{is_leaf}
use Rattle.laws.specs.Lists.Facts.{All, All_map, All_append, total_append, occurs, occurs_none}
use Rattle.laws.specs.Lists.Sorts.{All_sort, total_sort, length_sort, ordered_sort}
use Rattle.laws.specs.Records.Places.{place, place_inside, place_last, node_at_last}
use Rattle.laws.specs.WellFormed.Plain.{Spares}
use Rattle.laws.specs.Totalizer.Grows.{ruled_leaf, Grown, grown_self, grown_then, grown_length, grown_place, grown_one, spares_one}
use Rattle.laws.specs.Totalizer.Merges.{maxima, maxima_grown, not_among_later}
use Rattle.laws.specs.Queue.Runs.{lower_order}
use Rattle.laws.specs.Buckets.Chains.{Standing, standing_grown}
use Rattle.laws.specs.Buckets.Next.{Raised, raised, ordered_drop}

-- the members of a bucket: nodes below `low` that avoid A, their maxima adding to at most 256
pub record Fit (rs : List Record) (low : ℕ) (A : List ℕ) (ms : List ℕ) : Type 0 where
  pub there : All (λ m. place rs m ≡ true) ms
  pub old : All (λ m. m < low) ms
  pub avoid : All (λ m. occurs m A ≡ 0) ms
  pub few : maxima rs ms ≤ 256

pub fit_grown : (rs rs' : List Record) (low : ℕ) (A ms : List ℕ) → Grown rs rs' → Fit rs low A ms → Fit rs' low A ms
fit_grown rs rs' low A ms g f = record {
  there = All_map (grown_place rs rs' g) ms f.there;
  old = f.old;
  avoid = f.avoid;
  few = omega (arith, f.few, maxima_grown rs rs' g ms f.there);
}

-- members that stand below the buckets are none of them
avoid_fresh : (low : ℕ) (bs ms : List ℕ) → All (λ b. low ≤ b) bs → All (λ m. m < low) ms → All (λ m. occurs m bs ≡ 0) ms
avoid_fresh low bs ms h k = All_map (λ m (i : m < low). occurs_none (λ b. low ≤ b) m bs h (λ (j : low ≤ m). omega arith)) ms k

-- members in any order, sorted and merged over the buckets below
sorted_raised : (wait : Bool) (A : List ℕ) (rs : List Record) (below ms : List ℕ) → All (λ a. a < length rs) A → Standing wait A rs below →
    All (λ m. place rs m ≡ true) ms → All (λ m. occurs m A ≡ 0) ms → All (λ m. occurs m below ≡ 0) ms → 1 ≤ length ms → maxima rs ms ≤ 257 →
    (below ≡ [] → wait ≡ false → (2 ≤ length ms) × (1 ≤ maxima rs ms)) →
    Raised wait A rs below (with_below wait below (merge rs (sort (lower rs) ms)))
sorted_raised wait A rs below ms inside s there avoid apart some few foot =
    let xs : List ℕ = sort (lower rs) ms in
    let count : length xs ≡ length ms = length_sort (lower rs) ms in
    let sum : maxima rs xs ≡ maxima rs ms = total_sort (lower rs) (λ (m : ℕ). (node_at rs m).maximum) ms in
    raised wait A rs below xs inside s (All_sort (lower rs) (λ m. place rs m ≡ true) ms there)
    (All_sort (lower rs) (λ m. occurs m A ≡ 0) ms avoid) (All_sort (lower rs) (λ m. occurs m below ≡ 0) ms apart)
    (omega arith) (omega arith)
    (λ e w. let (two, one) = foot e w in (
      omega arith,
      ordered_drop rs xs (length xs / 2) (ordered_sort (lower rs) (lower_order rs) ms) (omega arith) (omega arith),
    ))

-- a bucket with its tare
pub tared : (wait : Bool) (A : List ℕ) (rs : List Record) (low : ℕ) (below : List ℕ) (tare : ℕ) (tares ms : List ℕ) →
    All (λ a. a < length rs) A → low ≤ length rs → Standing wait A rs below → All (λ b. low ≤ b) below →
    Fit rs low A ms → lawful (pos tare) ≡ true → (below ≡ [] → 1 ≤ length ms) →
    Raised wait A rs below (bucket wait rs below (tare ∷ tares) ms)
unfolding bucket with_tare add leaf_node is_leaf total
tared wait A rs low below tare tares ms inside under s fresh f law some =
    let nd : Node = leaf_node (pos tare) in
    let n : ℕ = length rs in
    let rs₁ : List Record = rs ++ (node nd ∷ []) in
    let g : Grown rs rs₁ = grown_one rs nd s.sound (ruled_leaf (node_at rs) (place rs) (pos tare) law) in
    let none : (B : List ℕ) → Spares (node_at rs) B → Spares (node_at rs₁) B =
    λ B h. spares_one rs nd B h (λ half l r e. absurd (false≢true (sym (ap is_leaf e)))) in
    let s₁ : Standing wait A rs₁ below = standing_grown wait A rs rs₁ below s g (none below s.spares) (none A s.others) in
    let inside₁ : All (λ a. a < length rs₁) A = All_map (λ a (h : a < length rs). omega (arith, grown_length rs rs₁ g)) A inside in
    let f₁ : Fit rs₁ low A ms = fit_grown rs rs₁ low A ms g f in
    let one : (node_at rs₁ n).maximum ≡ 1 = ap (λ (x : Node). x.maximum) (node_at_last rs nd []) in
    let sum : maxima rs₁ (ms ++ (n ∷ [])) ≡ maxima rs₁ ms + maxima rs₁ (n ∷ []) =
    total_append (λ (m : ℕ). (node_at rs₁ m).maximum) ms (n ∷ []) in
    let low_below : All (λ b. b < n) below = All_map (place_inside rs) below s.there in
    let h : Raised wait A rs₁ below (with_below wait below (merge rs₁ (sort (lower rs₁) (ms ++ (n ∷ []))))) =
    sorted_raised wait A rs₁ below (ms ++ (n ∷ [])) inside₁ s₁
    (All_append (λ m. place rs₁ m ≡ true) ms (n ∷ []) f₁.there (place_last rs nd [], tt))
    (All_append (λ m. occurs m A ≡ 0) ms (n ∷ []) f₁.avoid (not_among_later (length rs) n A inside (omega arith), tt))
    (All_append (λ m. occurs m below ≡ 0) ms (n ∷ []) (avoid_fresh low below ms fresh f₁.old)
    (not_among_later n n below low_below (omega arith), tt))
    (omega (arith, length-append ms (n ∷ []))) (omega (arith, f₁.few))
    (λ e w. (omega (arith, length-append ms (n ∷ []), some e), omega arith)) in
    record { standing = h.standing; grown = grown_then rs rs₁ _ g h.grown; fresh = omega (arith, h.fresh, grown_length rs rs₁ g) }

-- a bucket without one
pub untared : (wait : Bool) (A : List ℕ) (rs : List Record) (low : ℕ) (below ms : List ℕ) → All (λ a. a < length rs) A →
    Standing wait A rs below → All (λ b. low ≤ b) below →
    Fit rs low A ms → 1 ≤ length ms → (below ≡ [] → wait ≡ false → (2 ≤ length ms) × (1 ≤ maxima rs ms)) →
    Raised wait A rs below (bucket wait rs below [] ms)
unfolding bucket with_tare
untared wait A rs low below ms inside s fresh f some foot =
    sorted_raised wait A rs below ms inside s f.there f.avoid (avoid_fresh low below ms fresh f.old) some (omega (arith, f.few))
    foot

-- the buckets of a list of members, built over those that stand
pub record Tower (wait : Bool) (A : List ℕ) (rs : List Record) (low : ℕ) (below : List ℕ) (mss : List (List ℕ)) (r : List Record × List ℕ)
    : Type 0 where
  pub standing : Standing wait A r.0 r.1
  pub grown : Grown rs r.0
  pub fresh : All (λ b. low ≤ b) r.1
  pub many : length r.1 ≤ length below + length mss
  pub some : 1 ≤ length below + total (map length mss) → 1 ≤ length r.1

module _ (wait : Bool) (A : List ℕ) (low : ℕ) where
  -- one bucket raised, then the rest over it
  raised_then : (rs : List Record) (below ts ms : List ℕ) (mss : List (List ℕ)) (r : List Record × ℕ) → All (λ a. a < length rs) A →
      low ≤ length rs → All (λ b. low ≤ b) below → All (Fit rs low A) mss → Raised wait A rs below r →
      ((rs₁ : List Record) (b : ℕ) → All (λ a. a < length rs₁) A → low ≤ length rs₁ → Standing wait A rs₁ (b ∷ below) →
      All (λ b. low ≤ b) (b ∷ below) → All (Fit rs₁ low A) mss → Tower wait A rs₁ low (b ∷ below) mss (buckets_over wait rs₁ (b ∷ below) ts mss)) →
      Tower wait A rs low below (ms ∷ mss) (buckets_over wait r.0 (r.1 ∷ below) ts mss)
  unfolding total
  raised_then rs below ts ms mss r inside under fresh fits h go =
      let le : length rs ≤ length r.0 = grown_length rs r.0 h.grown in
      let t : Tower wait A r.0 low (r.1 ∷ below) mss (buckets_over wait r.0 (r.1 ∷ below) ts mss) =
      go r.0 r.1 (All_map (λ a (k : a < length rs). omega arith) A inside) (omega arith) h.standing
      (omega (arith, h.fresh), fresh) (All_map (λ ms f. fit_grown rs r.0 low A ms h.grown f) mss fits) in
      record {
        standing = t.standing;
        grown = grown_then rs r.0 _ h.grown t.grown;
        fresh = t.fresh;
        many = omega (arith, t.many);
        some = λ k. t.some (omega arith);
      }

  -- all with tares
  pub tower : (mss : List (List ℕ)) (rs : List Record) (below tares : List ℕ) → All (λ a. a < length rs) A → low ≤ length rs →
      Standing wait A rs below → All (λ b. low ≤ b) below →
      All (Fit rs low A) mss → All (λ t. lawful (pos t) ≡ true) tares → length mss ≤ length tares →
      Tower wait A rs low below mss (buckets_over wait rs below tares mss)
  unfolding buckets_over left_out total
  tower [] rs below tares inside under s fresh fits laws enough = record {
    standing = s;
    grown = grown_self rs s.sound;
    fresh = fresh;
    many = omega arith;
    some = λ h. omega arith;
  }
  tower (ms ∷ mss) rs below [] inside under s fresh fits laws enough = absurd (omega arith)
  tower ([] ∷ mss) rs [] (t ∷ ts) inside under s fresh fits laws enough =
      let h : Tower wait A rs low [] mss (buckets_over wait rs [] ts mss) =
      tower mss rs [] ts inside under s fresh fits.1 laws.1 (omega arith) in
      record {
        standing = h.standing;
        grown = h.grown;
        fresh = h.fresh;
        many = omega (arith, h.many);
        some =
            λ k. h.some (omega arith);
      }
  tower ((m ∷ ms) ∷ mss) rs [] (t ∷ ts) inside under s fresh fits laws enough =
      raised_then rs [] ts (m ∷ ms) mss (bucket wait rs [] (t ∷ ts) (m ∷ ms)) inside under fresh fits.1
      (tared wait A rs low [] t ts (m ∷ ms) inside under s fresh fits.0 laws.0 (λ e. omega arith))
      (λ rs₁ b i u s f k. tower mss rs₁ (b ∷ []) ts i u s f k laws.1 (omega arith))
  tower (ms ∷ mss) rs (c ∷ bs) (t ∷ ts) inside under s fresh fits laws enough =
      raised_then rs (c ∷ bs) ts ms mss (bucket wait rs (c ∷ bs) (t ∷ ts) ms) inside under fresh fits.1
      (tared wait A rs low (c ∷ bs) t ts ms inside under s fresh fits.0 laws.0 (λ e. absurd (cons_nil e)))
      (λ rs₁ b i u s f k. tower mss rs₁ (b ∷ c ∷ bs) ts i u s f k laws.1 (omega arith))
    where
      cons_nil : c ∷ bs ≡ [] → ⊥
      cons_nil e =
          let z : length (c ∷ bs) ≡ 0 = ap length e in
          omega arith

-- where there are no members nothing is built
pub buckets_none : (wait : Bool) (mss : List (List ℕ)) (rs : List Record) (tares : List ℕ) → total (map length mss) ≡ 0 →
    buckets_over wait rs [] tares mss ≡ (rs, [])
unfolding buckets_over left_out total
buckets_none wait [] rs tares h = refl
buckets_none wait ([] ∷ mss) rs tares h = buckets_none wait mss rs (drop 1 tares) (omega arith)
buckets_none wait ((m ∷ ms) ∷ mss) rs tares h = absurd (omega arith)
