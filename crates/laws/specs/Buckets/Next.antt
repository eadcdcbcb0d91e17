-- A bucket raised over those that stand: joined with the one below, over a dummy, or merged of two members.
use Rattle.std.specs.Prelude.{◌≡◌, refl, Bool, true, false, List, [], ◌∷◌, ◌++◌, ℕ, zero, suc, ◌/◌, ◌≤◌, ◌<◌, length, drop}
use Rattle.std.proofs.Common.{sym, ◌∙◌, ap, inl, inr, arith, ltb-false}
use Rattle.std.proofs.lemmas.Bool.{false≢true}
use Rattle.rules.specs.Lists.{total}
use Rattle.rules.specs.Records.{Kind, join, Node, Record, node, node_at, left_link, right_link, dummy_node}
use Rattle.rules.specs.Totalizer.{counts, joining, add, merge}
use Rattle.rules.specs.Buckets.{lower, with_below}
use Rattle.rules.specs.WellFormed.{above, is_dummy}
use Rattle.laws.specs.Lists.Facts.{All, All_map, occurs, occurs_other}
use Rattle.laws.specs.Lists.Sorts.{Ordered}
use Rattle.laws.specs.Records.Places.{place, place_inside, place_last, node_at_last}
use Rattle.laws.specs.WellFormed.Plain.{Spares}
use Rattle.laws.specs.Totalizer.Grows.{ruled_dummy, Grown, grown_then, grown_length, grown_at, grown_place, grown_one, spares_one}
use Rattle.laws.specs.Totalizer.Merges.{maxima, Merged, Crowned, Joined, joined, merge_made, not_among_later}
use Rattle.laws.specs.Buckets.Chains.{Standing, standing_grown, linked_grown, lefts_grown, above_first, spares_cons, past_unnamed}

-- a chain with one bucket more, and what was added
pub record Raised (wait : Bool) (A : List ℕ) (rs : List Record) (below : List ℕ) (r : List Record × ℕ) : Type 0 where
  pub standing : Standing wait A r.0 (r.1 ∷ below)
  pub grown : Grown rs r.0
  pub fresh : length rs ≤ r.1

-- a member is joined with the bucket below, halved
raise_over : (wait : Bool) (A : List ℕ) (rs : List Record) (m c : ℕ) (bs : List ℕ) → All (λ a. a < length rs) A →
    Standing wait A rs (c ∷ bs) →
    place rs m ≡ true → occurs m A ≡ 0 → occurs m (c ∷ bs) ≡ 0 → (node_at rs m).maximum ≤ 257 →
    Raised wait A rs (c ∷ bs) (add rs (joining rs true m c))
unfolding add joining counts left_link right_link
raise_over wait A rs m c bs inside s there ma mb few =
    let top : (node_at rs c).maximum ≤ 513 = (s.sound c).within in
    let j : Joined rs true m c = joined rs true m c s.sound there s.there.0 (omega arith) in
    let rs' : List Record = rs ++ (node (joining rs true m c) ∷ []) in
    let b : ℕ = length rs in
    let g : Grown rs rs' = j.grown in
    let kind_is : (node_at rs' b).kind ≡ join true m c = ap (λ (x : Node). x.kind) j.is in
    let left_is : node_at rs' (left_link (node_at rs' b).kind) ≡ node_at rs m = ap (λ (k : Kind). node_at rs' (left_link k)) kind_is ∙
    grown_at rs rs' g m (place_inside rs m there) in
    let m_in : m < length rs = place_inside rs m there in
    record {
      standing = record {
        sound = g.sound;
        there = (j.there, All_map (grown_place rs rs' g) (c ∷ bs) s.there);
        linked = ((m, kind_is), linked_grown rs rs' s.sound g wait (c ∷ bs) s.there s.linked);
        lefts = (rw left_is few, lefts_grown rs rs' s.sound g (c ∷ bs) s.there s.lefts);
        spares =
            spares_one rs (joining rs true m c) (b ∷ c ∷ bs)
            (spares_cons (node_at rs) b (c ∷ bs) (past_unnamed rs s.sound b (omega arith)) s.spares)
            (λ half l r e. (
              ap (λ k. occurs k (b ∷ c ∷ bs)) (sym (ap left_link e)) ∙ (occurs_other m b (c ∷ bs) (λ q. omega arith) ∙ mb),
              inr (ap (λ k. above (b ∷ c ∷ bs) b k) (sym (ap right_link e)) ∙ above_first b c bs),
            ));
        others =
            spares_one rs (joining rs true m c) A s.others
            (λ half l r e. (
              ap (λ k. occurs k A) (sym (ap left_link e)) ∙ ma,
              inl (ap (λ k. occurs k A) (sym (ap right_link e)) ∙ s.apart.0),
            ));
        apart = (not_among_later (length rs) b A inside (omega arith), s.apart);
      };
      grown = g;
      fresh = omega arith;
    }

-- the lowest bucket over a dummy
raise_dummy : (A : List ℕ) (rs : List Record) (m : ℕ) → All (λ a. a < length rs) A → Standing true A rs [] → place rs m ≡ true →
    occurs m A ≡ 0 → (node_at rs m).maximum ≤ 257 →
    Raised true A rs [] (add (add rs dummy_node).0 (joining (add rs dummy_node).0 true m (length rs)))
unfolding add joining counts left_link right_link dummy_node is_dummy occurs
raise_dummy A rs m inside s there ma few =
    let d : ℕ = length rs in
    let rs₁ : List Record = rs ++ (node dummy_node ∷ []) in
    let g₁ : Grown rs rs₁ = grown_one rs dummy_node s.sound (ruled_dummy (node_at rs) (place rs)) in
    let d_is : node_at rs₁ d ≡ dummy_node = node_at_last rs dummy_node [] in
    let m_is : node_at rs₁ m ≡ node_at rs m = grown_at rs rs₁ g₁ m (place_inside rs m there) in
    let m_there : place rs₁ m ≡ true = grown_place rs rs₁ g₁ m there in
    let few' : (node_at rs₁ m).maximum ≤ 257 = rw m_is few in
    let zero_is : (node_at rs₁ d).maximum ≡ 0 = ap (λ (x : Node). x.maximum) d_is in
    let j : Joined rs₁ true m d = joined rs₁ true m d g₁.sound m_there (place_last rs dummy_node []) (omega arith) in
    let rs₂ : List Record = rs₁ ++ (node (joining rs₁ true m d) ∷ []) in
    let b : ℕ = length rs₁ in
    let g₂ : Grown rs₁ rs₂ = j.grown in
    let kind_is : (node_at rs₂ b).kind ≡ join true m d = ap (λ (x : Node). x.kind) j.is in
    let left_is : node_at rs₂ (left_link (node_at rs₂ b).kind) ≡ node_at rs₁ m = ap (λ (k : Kind). node_at rs₂ (left_link k)) kind_is ∙
    grown_at rs₁ rs₂ g₂ m (place_inside rs₁ m m_there) in
    let others₁ : Spares (node_at rs₁) A = spares_one rs dummy_node A s.others (λ half l r e. absurd (false≢true (sym (ap is_dummy e))))
    in
    let d_none : occurs d A ≡ 0 = not_among_later (length rs) d A inside (omega arith) in
    record {
      standing = record {
        sound = g₂.sound;
        there = (j.there, tt);
        linked = (
          m,
          d,
          kind_is,
          ap (λ (x : Node). x.kind) (grown_at rs₁ rs₂ g₂ d (place_inside rs₁ d (place_last rs dummy_node []))) ∙
              ap (λ (x : Node). x.kind) d_is,
        );
        lefts = (rw left_is few', tt);
        spares = spares_cons (node_at rs₂) b [] j.unnamed (λ i half l r e. (refl, inl refl));
        others =
            spares_one rs₁ (joining rs₁ true m d) A others₁
            (λ half l r e. (ap (λ k. occurs k A) (sym (ap left_link e)) ∙ ma, inl (ap (λ k. occurs k A) (sym (ap right_link e)) ∙ d_none)));
        apart = (not_among_later (length rs) b A inside (grown_length rs rs₁ g₁), tt);
      };
      grown = grown_then rs rs₁ rs₂ g₁ g₂;
      fresh = grown_length rs rs₁ g₁;
    }

-- the lowest bucket where nothing waits: two or more members merged
raise_merged : (A : List ℕ) (rs : List Record) (xs : List ℕ) (r : List Record × ℕ) → Merged rs xs r → Crowned rs xs r →
    Spares (node_at r.0) A → occurs r.1 A ≡ 0 →
    maxima rs xs ≤ 257 → 1 ≤ maxima rs (drop (length xs / 2) xs) → Raised false A rs [] r
unfolding left_link occurs
raise_merged A rs xs r m c others apart few some = record {
  standing = record {
    sound = m.grown.sound;
    there = (m.there, tt);
    linked = (false, c.left, c.right, c.kind_is, (λ e. absurd (omega (arith, ((m.grown.sound c.right).dummy_is e).0, c.right_is))));
    lefts = (most, tt);
    spares = spares_cons (node_at r.0) r.1 [] c.unnamed (λ i half l r e. (refl, inl refl));
    others = others;
    apart = (apart, tt);
  };
  grown = m.grown;
  fresh = c.fresh;
}
  where
    most : (node_at r.0 (left_link (node_at r.0 r.1).kind)).maximum ≤ 257
    most =
        let is : node_at r.0 (left_link (node_at r.0 r.1).kind) ≡ node_at r.0 c.left =
        ap (λ (k : Kind). node_at r.0 (left_link k)) c.kind_is in
        rw is (omega (arith, c.left_most))

-- members, sorted, merged over the buckets below
pub raised : (wait : Bool) (A : List ℕ) (rs : List Record) (below xs : List ℕ) → All (λ a. a < length rs) A → Standing wait A rs below →
    All (λ m. place rs m ≡ true) xs → All (λ m. occurs m A ≡ 0) xs → All (λ m. occurs m below ≡ 0) xs → 1 ≤ length xs → maxima rs xs ≤ 257 →
    (below ≡ [] → wait ≡ false → (2 ≤ length xs) × (1 ≤ maxima rs (drop (length xs / 2) xs))) →
    Raised wait A rs below (with_below wait below (merge rs xs))
unfolding with_below
raised wait A rs below xs inside s there avoid apart some few foot = go wait below s apart foot
  where
    made : Merged rs xs (merge rs xs) × (2 ≤ length xs → Crowned rs xs (merge rs xs))
    made = merge_made rs xs s.sound there some (omega arith)

    rs₁ : List Record
    rs₁ = (merge rs xs).0

    m : ℕ
    m = (merge rs xs).1

    most : (node_at rs₁ m).maximum ≤ 257
    most = omega (arith, made.0.sum_is)

    inside₁ : All (λ a. a < length rs₁) A
    inside₁ = All_map (λ a (h : a < length rs). omega (arith, grown_length rs rs₁ made.0.grown)) A inside

    others₁ : Spares (node_at rs₁) A × (occurs m A ≡ 0)
    others₁ = made.0.spared A inside avoid s.others

    more : (wait : Bool) (bs : List ℕ) (r : List Record × ℕ) → Raised wait A rs₁ bs r → Raised wait A rs bs r
    more wait bs r h = record {
      standing = h.standing;
      grown = grown_then rs rs₁ r.0 made.0.grown h.grown;
      fresh =
          omega (arith, h.fresh, grown_length rs rs₁ made.0.grown);
    }

    stands₁ : (wait : Bool) (bs : List ℕ) → Standing wait A rs bs → All (λ m. occurs m bs ≡ 0) xs → Standing wait A rs₁ bs ×
        (occurs m bs ≡ 0)
    stands₁ wait bs s apart =
        let low : All (λ b. b < length rs) bs = All_map (place_inside rs) bs s.there in
        let kept : Spares (node_at rs₁) bs × (occurs m bs ≡ 0) = made.0.spared bs low apart s.spares in
        (standing_grown wait A rs rs₁ bs s made.0.grown kept.0 others₁.0, kept.1)

    go : (wait : Bool) (below : List ℕ) → Standing wait A rs below → All (λ m. occurs m below ≡ 0) xs →
        (below ≡ [] → wait ≡ false → (2 ≤ length xs) × (1 ≤ maxima rs (drop (length xs / 2) xs))) →
        Raised wait A rs below (with_below wait below (merge rs xs))
    go wait (c ∷ bs) s apart foot =
        let k : Standing wait A rs₁ (c ∷ bs) × (occurs m (c ∷ bs) ≡ 0) = stands₁ wait (c ∷ bs) s apart in
        more wait (c ∷ bs) _ (raise_over wait A rs₁ m c bs inside₁ k.0 made.0.there others₁.1 k.1 most)
    go true [] s apart foot =
        let k : Standing true A rs₁ [] × (occurs m [] ≡ 0) = stands₁ true [] s apart in
        more true [] _ (raise_dummy A rs₁ m inside₁ k.0 made.0.there others₁.1 most)
    go false [] s apart foot =
        let f : (2 ≤ length xs) × (1 ≤ maxima rs (drop (length xs / 2) xs)) = foot refl refl in
        raise_merged A rs xs (merge rs xs) made.0 (made.1 f.0) others₁.0 others₁.1 few f.1

-- the later half of an ordered list weighs something where the list does
pub ordered_drop : (rs : List Record) (xs : List ℕ) (k : ℕ) → Ordered (lower rs) xs → k < length xs → 1 ≤ maxima rs xs →
    1 ≤ maxima rs (drop k xs)
unfolding lower total
ordered_drop rs xs zero o h some = some
ordered_drop rs [] (suc k) o h some = absurd (omega arith)
ordered_drop rs (x ∷ []) (suc k) o h some = absurd (omega arith)
ordered_drop rs (x ∷ y ∷ ys) (suc k) o h some =
    ordered_drop rs (y ∷ ys) k o.1 (omega arith) (omega (arith, some, ltb-false (node_at rs y).maximum (node_at rs x).maximum o.0.0))
