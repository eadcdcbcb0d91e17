-- The buckets of a first build: all but the top one with a tare.
use Rattle.std.specs.Prelude.{◌≡◌, refl, ◌≢◌, ◌⊎◌, Bool, true, false, List, [], ◌∷◌, ◌++◌, map, ℕ, zero, suc, ◌+◌, ◌≤◌, ◌<◌, leb, eqb, length, drop, pos}
use Rattle.std.proofs.Common.{sym, ◌∙◌, ap, subst, inr, arith, leb-true, leb-false, eqb-true}
use Rattle.std.proofs.Math.Logic.{inl}
use Rattle.std.proofs.lemmas.Bool.{false≢true, eqb-false}
use Rattle.std.proofs.Math.Seq.{drop-nil, drop-length}
use Rattle.rules.specs.Lists.{total, sort, in_turn, insert}
use Rattle.rules.specs.Numbers.{lawful}
use Rattle.rules.specs.Records.{Kind, Entry, Record, node_at, left_link}
use Rattle.rules.specs.Totalizer.{merge, merge_by}
use Rattle.rules.specs.Build.{some_wait}
use Rattle.rules.specs.Buckets.{with_tare, with_below, bucket, left_out, buckets_over}
use Rattle.laws.specs.Lists.Facts.{All, All_map, total_le, length_total, occurs, occurs_none}
use Rattle.laws.specs.Records.Places.{place, place_inside, join_place}
use Rattle.laws.specs.WellFormed.Plain.{Sound, Spares}
use Rattle.laws.specs.Totalizer.Grows.{Grown, grown_self, grown_then, grown_length}
use Rattle.laws.specs.Totalizer.Merges.{maxima, maxima_grown}
use Rattle.laws.specs.Queue.Several.{Lone}
use Rattle.laws.specs.Buckets.Chains.{Standing, standing_none, spares_cons}
use Rattle.laws.specs.Buckets.Next.{Raised}
use Rattle.laws.specs.Buckets.Towers.{Fit, fit_grown, untared, Tower, tower, buckets_none}

drop_next : {A : Type 0} (n : ℕ) (xs : List A) → drop n (drop 1 xs) ≡ drop (suc n) xs
drop_next n [] = drop-nil n
drop_next n (x ∷ xs) = refl

-- the buckets of two lists of members, one list after the other
pub buckets_split : (wait : Bool) (xs ys : List (List ℕ)) (rs : List Record) (below tares : List ℕ) →
    buckets_over wait rs below tares (xs ++ ys) ≡ buckets_over wait (buckets_over wait rs below tares xs).0
    (buckets_over wait rs below tares xs).1 (drop (length xs) tares) ys
unfolding buckets_over left_out
buckets_split wait [] ys rs below tares = refl
buckets_split wait ([] ∷ xs) ys rs [] tares =
    buckets_split wait xs ys rs [] (drop 1 tares) ∙
    ap (λ (t : List ℕ). buckets_over wait (buckets_over wait rs [] (drop 1 tares) xs).0 (buckets_over wait rs [] (drop 1 tares) xs).1 t
    ys) (drop_next (length xs) tares)
buckets_split wait ((m ∷ ms) ∷ xs) ys rs [] tares =
    let b : List Record × ℕ = bucket wait rs [] tares (m ∷ ms) in
    let r : List Record × List ℕ = buckets_over wait b.0 (b.1 ∷ []) (drop 1 tares) xs in
    buckets_split wait xs ys b.0 (b.1 ∷ []) (drop 1 tares) ∙
    ap (λ (t : List ℕ). buckets_over wait r.0 r.1 t ys) (drop_next (length xs) tares)
buckets_split wait (ms ∷ xs) ys rs (c ∷ bs) tares =
    let b : List Record × ℕ = bucket wait rs (c ∷ bs) tares ms in
    let r : List Record × List ℕ = buckets_over wait b.0 (b.1 ∷ c ∷ bs) (drop 1 tares) xs in
    buckets_split wait xs ys b.0 (b.1 ∷ c ∷ bs) (drop 1 tares) ∙
    ap (λ (t : List ℕ). buckets_over wait r.0 r.1 t ys) (drop_next (length xs) tares)

-- one bucket over what stands
one_bucket : (wait : Bool) (rs : List Record) (bs : List ℕ) (m : ℕ) (ms : List ℕ) →
    buckets_over wait rs bs [] ((m ∷ ms) ∷ []) ≡ ((bucket wait rs bs [] (m ∷ ms)).0, (bucket wait rs bs [] (m ∷ ms)).1 ∷ bs)
unfolding buckets_over left_out
one_bucket wait rs [] m ms = refl
one_bucket wait rs (b ∷ bs) m ms = refl

-- a lone member is its own bucket
lone_bucket : (rs : List Record) (m : ℕ) → buckets_over (some_wait []) rs [] [] ((m ∷ []) ∷ []) ≡ (rs, m ∷ [])
unfolding buckets_over left_out bucket with_tare sort in_turn insert merge merge_by with_below some_wait
lone_bucket rs m = refl

no_queue : (q : List Entry) → some_wait q ≡ false → length q ≡ 0
unfolding some_wait
no_queue [] e = refl
no_queue (x ∷ q) e = absurd (false≢true (sym e))

-- what a first build makes over the queue's records
pub record Topped (rs : List Record) (q : List Entry) (n : ℕ) (r : List Record × List ℕ) : Type 0 where
  pub standing : Standing (some_wait q) [] r.0 r.1
  pub grown : Grown rs r.0
  pub many : length r.1 ≤ n
  pub some : 1 ≤ length r.1
  pub free : All (λ e. occurs e.node r.1 ≡ 0) q

-- one bucket, a join of its own
lone_topped : (rs : List Record) (m : ℕ) → Sound (node_at rs) (place rs) → Lone (node_at rs) m → Topped rs [] 1 (rs, m ∷ [])
unfolding left_link some_wait occurs
lone_topped rs m s l = record {
  standing = record {
    sound = s;
    there = (join_place rs m l.half l.left l.right l.kind_is, tt);
    linked = (l.half, l.left, l.right, l.kind_is, (λ e. absurd (omega (arith, ((s l.right).dummy_is e).0, l.right_some))));
    lefts = (left_few, tt);
    spares = spares_cons (node_at rs) m [] l.unnamed (λ i half a b e. (refl, inl refl));
    others = λ i half a b e. (refl, inl refl);
    apart = (refl, tt);
  };
  grown = grown_self rs s;
  many = omega arith;
  some = omega arith;
  free = tt;
}
  where
    left_few : (node_at rs (left_link (node_at rs m).kind)).maximum ≤ 257
    left_few =
        let is : node_at rs (left_link (node_at rs m).kind) ≡ node_at rs l.left =
        ap (λ (k : Kind). node_at rs (left_link k)) l.kind_is in
        rw is l.left_few

module _ (rs : List Record) (q : List Entry) (init : List (List ℕ)) (m : ℕ) (ms tares : List ℕ) (sound : Sound (node_at rs) (place rs))
    (fits : All (Fit rs (length rs) []) init) (fit : Fit rs (length rs) [] (m ∷ ms)) (laws : All (λ t. lawful (pos t) ≡ true) tares)
    (count : length init ≡ length tares)
    (each : All (λ x. 1 ≤ (node_at rs x).maximum) (m ∷ ms)) (queue_there : All (λ e. place rs e.node ≡ true) q) where
  abbrev lower_part : List Record × List ℕ
  lower_part = buckets_over (some_wait q) rs [] tares init

  none_spared : Spares (node_at rs) []
  unfolding occurs
  none_spared i half l r e = (refl, inl refl)

  lower_tower : Tower (some_wait q) [] rs (length rs) [] init lower_part
  lower_tower = tower (some_wait q) [] (length rs) init rs [] tares tt (omega arith) (standing_none (some_wait q) [] rs sound none_spared)
      tt fits laws (omega arith)

  no_tares : drop (length init) tares ≡ []
  no_tares = ap (λ k. drop k tares) count ∙ drop-length tares

  -- the top bucket over those below, or where something waits, or of two members
  top_raised : (r : List Record × List ℕ) → Tower (some_wait q) [] rs (length rs) [] init r →
      (r.1 ≡ [] → some_wait q ≡ false → 2 ≤ length (m ∷ ms)) →
      Topped rs q (suc (length init)) (buckets_over (some_wait q) r.0 r.1 [] ((m ∷ ms) ∷ []))
  top_raised r t foot =
      let g : Grown rs r.0 = t.grown in
      let fit₁ : Fit r.0 (length rs) [] (m ∷ ms) = fit_grown rs r.0 (length rs) [] (m ∷ ms) g fit in
      let sum : maxima r.0 (m ∷ ms) ≡ maxima rs (m ∷ ms) = maxima_grown rs r.0 g (m ∷ ms) fit.there in
      let some : 1 ≤ maxima rs (m ∷ ms) = omega (
        arith,
        length_total (m ∷ ms),
        total_le (λ x. 1) (λ (x : ℕ). (node_at rs x).maximum) (m ∷ ms) each,
      ) in
      let h : Raised (some_wait q) [] r.0 r.1 (bucket (some_wait q) r.0 r.1 [] (m ∷ ms)) =
      untared (some_wait q) [] r.0 (length rs) r.1 (m ∷ ms) tt t.standing t.fresh fit₁ (omega arith)
      (λ e w. (foot e w, omega arith)) in
      let fresh : All (λ b. length rs ≤ b) ((bucket (some_wait q) r.0 r.1 [] (m ∷ ms)).1 ∷ r.1) =
      (omega (arith, h.fresh, grown_length rs r.0 g), t.fresh) in
      subst (λ (x : List Record × List ℕ). Topped rs q (suc (length init)) x) (sym (one_bucket (some_wait q) r.0 r.1 m ms)) (record {
        standing = h.standing;
        grown = grown_then rs r.0 _ g h.grown;
        many = omega (arith, t.many);
        some = omega arith;
        free = All_map (λ e p. apart e.node (place_inside rs e.node p) _ fresh) q queue_there;
      })
    where
      apart : (n : ℕ) → n < length rs → (bs : List ℕ) → All (λ b. length rs ≤ b) bs → occurs n bs ≡ 0
      apart n i bs k = occurs_none (λ b. length rs ≤ b) n bs k (λ (j : length rs ≤ n). omega arith)

  -- two or more things are left, or one join of its own
  abbrev Left_over : Type 0
  Left_over = (2 ≤ length q + (total (map length init) + length (m ∷ ms))) ⊎ ((q ≡ []) × All (Lone (node_at rs)) (m ∷ ms))

  topped_over : Left_over → Topped rs q (suc (length init)) (buckets_over (some_wait q) lower_part.0 lower_part.1 [] ((m ∷ ms) ∷ []))
  topped_over (inl two) = top_raised lower_part lower_tower (λ e w. few e w)
    where
      few : lower_part.1 ≡ [] → some_wait q ≡ false → 2 ≤ length (m ∷ ms)
      few e w = go (eqb (total (map length init)) 0) refl
        where
          go : (b : Bool) → eqb (total (map length init)) 0 ≡ b → 2 ≤ length (m ∷ ms)
          go true z = omega (arith, two, eqb-true (total (map length init)) 0 z, no_queue q w)
          go false z =
              let ne : total (map length init) ≢ 0 = eqb-false (total (map length init)) 0 z in
              absurd (omega (arith, lower_tower.some (omega arith), ap length e))
  topped_over (inr lone) = go ms refl (leb 1 (length lower_part.1)) refl
    where
      go : (xs : List ℕ) → ms ≡ xs → (b : Bool) → leb 1 (length lower_part.1) ≡ b →
          Topped rs q (suc (length init)) (buckets_over (some_wait q) lower_part.0 lower_part.1 [] ((m ∷ ms) ∷ []))
      go xs f true z = top_raised lower_part lower_tower (λ e w. absurd (omega (arith, leb-true 1 (length lower_part.1) z, ap length e)))
      go (x ∷ xs) f false z = top_raised lower_part lower_tower (λ e w. omega (arith, ap length f))
      go [] f false z =
          let none : length lower_part.1 < 1 = leb-false 1 (length lower_part.1) z in
          let empty : total (map length init) ≡ 0 = not_some (total (map length init)) (λ k. lower_tower.some (omega arith)) none in
          let same : lower_part ≡ (rs, []) = buckets_none (some_wait q) init rs tares empty in
          let now : Topped rs [] 1 (rs, m ∷ []) = lone_topped rs m sound lone.1.0 in
          subst (λ (p : List Record × List ℕ). Topped rs q (suc (length init))
          (buckets_over (some_wait q) p.0 p.1 [] ((m ∷ ms) ∷ []))) (sym same)
          (subst (λ (ys : List ℕ). Topped rs q (suc (length init)) (buckets_over (some_wait q) rs [] [] ((m ∷ ys) ∷ []))) (sym f)
          (subst (λ (es : List Entry). Topped rs es (suc (length init)) (buckets_over (some_wait es) rs [] [] ((m ∷ []) ∷ [])))
          (sym lone.0)
          (subst (λ (x : List Record × List ℕ). Topped rs [] (suc (length init)) x) (sym (lone_bucket rs m)) (wider now))))
        where
          wider : Topped rs [] 1 (rs, m ∷ []) → Topped rs [] (suc (length init)) (rs, m ∷ [])
          wider h = record { standing = h.standing; grown = h.grown; many = omega (arith, h.many); some = h.some; free = h.free }

          not_some : (n : ℕ) → (1 ≤ n → 1 ≤ length lower_part.1) → length lower_part.1 < 1 → n ≡ 0
          not_some zero h k = refl
          not_some (suc n) h k = absurd (omega (arith, h (omega arith)))

  -- the buckets of a first build stand
  pub topped : Left_over → Topped rs q (suc (length init)) (buckets_over (some_wait q) rs [] tares (init ++ ((m ∷ ms) ∷ [])))
  topped left =
      subst (λ (x : List Record × List ℕ). Topped rs q (suc (length init)) x)
      (sym (buckets_split (some_wait q) init ((m ∷ ms) ∷ []) rs [] tares ∙
      ap (λ (t : List ℕ). buckets_over (some_wait q) lower_part.0 lower_part.1 t ((m ∷ ms) ∷ [])) no_tares))
      (topped_over left)
