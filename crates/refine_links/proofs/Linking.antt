-- One bucket linked anew over the words, and the turns of the loop over all of them.
use mathlib.Core.Path.{◌≡◌, refl, sym, ap, ap₂, ◌∙◌, subst}
use mathlib.Core.Bool.{Bool, true, false, cond, false≢true, true≢false}
use mathlib.Core.List.{List, [], ◌∷◌, ◌++◌, reverse}
use Prim.Native.Nat.{ℕ, suc, ◌+◌, ◌*◌, ◌-◌, ◌/◌, ◌≤◌, ◌<◌, max}
use native.Mathlib.Omega.{arith}
use lib.Dec.{ltb}
use lib.ListN.{length, get_or, take, drop, get_or-append, take-append-drop, drop_of_length-le}
use lib.Seq.{get_or-take, get_or-drop, get_or-append-add, length-take-le, drop-cons}
use borrow.Author.Tests.{ltb-true, ltb-false}
use Rattle.rules.specs.Records.{Record, node, node_of, node_at, left_link, node_image, record_image, image_of}
use Rattle.rules.specs.Totalizer.{counts, joining}
use Rattle.rules.specs.Refinement.{relink}
use Rattle.laws.specs.Lists.Facts.{All, All_self, occurs, occurs_here, occurs_append}
use Rattle.laws.specs.WellFormed.Keeps.{All_reverse}
use Rattle.laws.specs.Records.Words.{image_length}
use Rattle.records.specs.Words.{put_record}
use Rattle.records.specs.Carries.{Stores, size, peak}
use Rattle.records_words.proofs.Lay.{laid_front}
use Rattle.records.proofs.Entry.{patched}
use Rattle.refine_links.specs.declared.Bucket.{Bucket}
use Rattle.refine_links.specs.Patched.{bucket_words}
use Rattle.refine_links.specs.Linked.{Lies, renewed, linked, Links, Relinks}
use Rattle.refine_links.proofs.Slots.{All_at, occurs_reverse}
use Rattle.refine_links.proofs.Renewing.{linked_length, relink_first, peak_set, peak_linked}

pub lies_stores : (s : List ℕ) (records : ℕ) (s₀ : List ℕ) (rs : List Record) → Lies s records s₀ rs → Stores s records rs
lies_stores s records s₀ rs h = record {
  image_is =
      ap (take (8 * records)) h.store_is ∙ laid_front (image_of rs) s₀ (8 * records) (omega (arith, image_length rs, h.count_is));
  count_is = h.count_is;
}

-- the words of another record are kept
pub put_other : (s : List ℕ) (n : ℕ) (ws : List ℕ) (i : ℕ) → length ws ≡ 8 → (i / 8 ≡ n → ⊥) → get_or (put_record s n ws) i 0 ≡ get_or s i 0
unfolding put_record
put_other s n ws i eight ne = go (ltb n (length s / 8)) refl
  where
    tail : List ℕ
    tail = drop (8 * n + 8) s

    side : (b : Bool) → ltb i (8 * n) ≡ b → 8 * n + 8 ≤ length s → get_or (take (8 * n) s ++ (ws ++ tail)) i 0 ≡ get_or s i 0
    side true e h =
        let k : i < 8 * n = ltb-true i (8 * n) e in
        get_or-append (take (8 * n) s) (ws ++ tail) 0 i (omega (arith, length-take-le (8 * n) s (omega arith))) ∙ get_or-take (8 * n) s i 0 k
    side false e h =
        let low : 8 * n ≤ i = ltb-false i (8 * n) e in
        let far : 8 * n + 8 ≤ i = omega (arith, ne) in
        let k : length (take (8 * n) s) ≡ 8 * n = length-take-le (8 * n) s (omega arith) in
        let at : i ≡ length (take (8 * n) s) + (length ws + (i - (8 * n + 8))) = omega arith in
        ap (λ (j : ℕ). get_or (take (8 * n) s ++ (ws ++ tail)) j 0) at ∙
        (get_or-append-add (take (8 * n) s) (ws ++ tail) (length ws + (i - (8 * n + 8))) 0 ∙
        (get_or-append-add ws tail (i - (8 * n + 8)) 0 ∙
        (get_or-drop (8 * n + 8) s (i - (8 * n + 8)) 0 ∙
        ap (λ (j : ℕ). get_or s j 0) (omega arith))))

    go : (b : Bool) → ltb n (length s / 8) ≡ b → get_or (cond b (take (8 * n) s ++ (ws ++ tail)) s) i 0 ≡ get_or s i 0
    go true e = let k : n < length s / 8 = ltb-true n (length s / 8) e in side (ltb i (8 * n)) refl (omega arith)
    go false e = refl

-- the words of a bucket that was patched
pub bucket_put : (s s' : List ℕ) (n : ℕ) (x : Bucket) (l below top high : ℕ) →
    x ≡ record { left = l; right = below; maximum = top; height = high } → s' ≡ put_record s n (bucket_words x) →
    s' ≡ put_record s n (2 ∷ l ∷ below ∷ 1 ∷ top ∷ high ∷ 0 ∷ 0 ∷ [])
bucket_put s s' n x l below top high e p = p ∙ ap (λ (z : Bucket). put_record s n (bucket_words z)) e

-- A bucket, by what was read of the records ---------------------------------------------------------------------------------------

module _ (s : List ℕ) (records b below l half bm lm lh bh top high : ℕ)
    (el : (rs : List Record) → Stores s records rs → l ≡ left_link (node_at rs b).kind)
    (ebm : (rs : List Record) → Stores s records rs → bm ≡ (node_at rs below).maximum) (ehalf : half ≡ counts true bm)
    (elm : (rs : List Record) → Stores s records rs → lm ≡ (node_at rs l).maximum) (etop : top ≡ lm + half)
    (elh : (rs : List Record) → Stores s records rs → lh ≡ (node_at rs l).height)
    (ebh : (rs : List Record) → Stores s records rs → bh ≡ (node_at rs below).height) (ehigh : high ≡ suc (max lh bh)) where
  module _ (rs : List Record) (h : Stores s records rs) where
    top_is : top ≡ (renewed rs below b).maximum
    unfolding renewed joining
    top_is =
        etop ∙ ap₂ ◌+◌ (elm rs h ∙ ap (λ (n : ℕ). (node_at rs n).maximum) (el rs h)) (ehalf ∙ ap (counts true) (ebm rs h))

    high_is : high ≡ (renewed rs below b).height
    unfolding renewed joining
    high_is =
        ehigh ∙ ap₂ (λ (x y : ℕ). suc (max x y)) (elh rs h ∙ ap (λ (n : ℕ). (node_at rs n).height) (el rs h)) (ebh rs h)

    size_is : size (node (renewed rs below b)) ≡ max top high
    unfolding size node_of
    size_is = ap₂ max (sym top_is) (sym high_is)

    image_is : record_image (node (renewed rs below b)) ≡ 2 ∷ l ∷ below ∷ 1 ∷ top ∷ high ∷ 0 ∷ 0 ∷ []
    unfolding record_image node_image renewed joining
    image_is =
        ap₂ (λ (x y : ℕ). 2 ∷ x ∷ below ∷ 1 ∷ y ∷ (renewed rs below b).height ∷ 0 ∷ 0 ∷ []) (sym (el rs h)) (sym top_is) ∙
        ap (λ (x : ℕ). 2 ∷ l ∷ below ∷ 1 ∷ top ∷ x ∷ 0 ∷ 0 ∷ []) (sym high_is)

  -- a size that does not fit
  pub link_over : 4294967295 < max top high → Links s s records b below false
  link_over i = record {
    same_length = refl;
    kept = λ k ne. refl;
    done = λ s₀ rs h in_rs yes. absurd (false≢true yes);
    over = λ s₀ rs h nay. omega (arith, size_is rs (lies_stores s records s₀ rs h));
  }

  pub link_done : (s' : List ℕ) → length s' ≡ length s → top ≤ 4294967295 → high ≤ 4294967295 →
      s' ≡ put_record s b (2 ∷ l ∷ below ∷ 1 ∷ top ∷ high ∷ 0 ∷ 0 ∷ []) → Links s s' records b below true
  unfolding linked
  link_done s' long i j p = record {
    same_length = long;
    kept = λ k ne. ap (λ (x : List ℕ). get_or x k 0) p ∙ put_other s b (2 ∷ l ∷ below ∷ 1 ∷ top ∷ high ∷ 0 ∷ 0 ∷ []) k refl ne;
    done = λ s₀ rs h in_rs yes.
        let at : Stores s records rs = lies_stores s records s₀ rs h in
        let n : length (linked rs below b) ≡ length rs = linked_length rs below b in
        record {
          store_is = p ∙ (ap (put_record s b) (sym (image_is rs at)) ∙ patched s s₀ rs b (node (renewed rs below b)) h.store_is in_rs h.room);
          count_is = omega (arith, h.count_is);
          room = omega (arith, h.room);
          small = omega (arith, peak_set rs b (node (renewed rs below b)), size_is rs at, h.small);
        };
    over = λ s₀ rs h nay. absurd (true≢false nay);
  }

-- The loop over all of them ----------------------------------------------------------------------------------------------------------

-- after i buckets: what is left of the work, from here, is the whole work
pub record Going (s s' : List ℕ) (records : ℕ) (xs : List ℕ) (below i next : ℕ) : Type 0 where
  pub same_length : length s' ≡ length s
  pub kept : (k : ℕ) → occurs (k / 8) xs ≡ 0 → get_or s' k 0 ≡ get_or s k 0
  pub left : (s₀ : List ℕ) (rs : List Record) → Lies s records s₀ rs → All (λ b. b < length rs) xs →
      (qs : List Record) × Lies s' records s₀ qs × (length qs ≡ length rs) ×
      (relink qs next (drop i (reverse xs)) ≡ relink rs below (reverse xs))

pub going_start : (s : List ℕ) (records : ℕ) (xs : List ℕ) (below : ℕ) → Going s s records xs below 0 below
going_start s records xs below = record {
  same_length = refl;
  kept = λ k h. refl;
  left = λ s₀ rs h a. (rs, h, refl, refl);
}

pub going_end : (s s' : List ℕ) (records : ℕ) (xs : List ℕ) (below i next : ℕ) → i ≡ length (reverse xs) → Going s s' records xs below i next →
    Relinks s s' records xs below true
unfolding relink
going_end s s' records xs below i next e g = record {
  same_length = g.same_length;
  kept = g.kept;
  done = λ s₀ rs h a yes.
      let x = g.left s₀ rs h a in
      let none : drop i (reverse xs) ≡ [] = drop_of_length-le (reverse xs) {i = i} (omega arith) in
      subst (Lies s' records s₀) (ap (relink x.0 next) (sym none) ∙ x.3) x.1;
  fit = λ s₀ rs h a once small. refl;
}

-- one turn, at bucket b
module _ (s s' s'' : List ℕ) (records : ℕ) (xs : List ℕ) (below i next b : ℕ) (at : (i < length (reverse xs)) × (b ≡ get_or (reverse xs) i b))
    (g : Going s s' records xs below i next) where
  abbrev above : List ℕ
  above = drop (i + 1) (reverse xs)

  here : drop i (reverse xs) ≡ b ∷ above
  here =
      let up : suc i ≡ i + 1 = omega arith in
      drop-cons (reverse xs) i b at.0 ∙ ap₂ (λ (c j : ℕ). c ∷ drop j (reverse xs)) (sym at.1) up

  fact : (P : ℕ → Type 0) → All P xs → P b
  fact P a = subst P (sym at.1) (All_at P (reverse xs) i b at.0 (All_reverse P xs a))

  stands : (k : ℕ) → occurs (k / 8) xs ≡ 0 → k / 8 ≡ b → ⊥
  stands k none e =
      let z : occurs b xs ≡ 0 = ap (λ (n : ℕ). occurs n xs) (sym e) ∙ none in
      omega (arith, fact (λ n. 1 ≤ occurs n xs) (All_self xs))

  inside : (rs qs : List Record) → length qs ≡ length rs → All (λ c. c < length rs) xs → b < length qs
  inside rs qs n a = subst (λ (k : ℕ). b < k) (sym n) (fact (λ c. c < length rs) a)

  pub going_turn : (r : Bool) → r ≡ true → Links s' s'' records b next r → Going s s'' records xs below (i + 1) b
  going_turn r e p = record {
    same_length = p.same_length ∙ g.same_length;
    kept = λ k none. p.kept k (stands k none) ∙ g.kept k none;
    left = λ s₀ rs h a.
        let x = g.left s₀ rs h a in
        let qs : List Record = x.0 in
        let first : relink qs next (drop i (reverse xs)) ≡ relink (linked qs next b) b above
        = ap (relink qs next) here ∙ relink_first qs next b above in
        (linked qs next b, p.done s₀ qs x.1 (inside rs qs x.2 a) e, linked_length qs next b ∙ x.2, sym first ∙ x.3);
  }

  -- no bucket above is the same one
  alone : ((n : ℕ) → occurs n xs ≤ 1) → occurs b above ≡ 0
  alone once =
      let all : occurs b (reverse xs) ≡ occurs b (take i (reverse xs)) + occurs b (drop i (reverse xs)) =
      ap (occurs b) (sym (take-append-drop i (reverse xs))) ∙ occurs_append b (take i (reverse xs)) (drop i (reverse xs)) in
      let last : occurs b (drop i (reverse xs)) ≡ suc (occurs b above) = ap (occurs b) here ∙ occurs_here b b above refl in
      omega (arith, once b, occurs_reverse b xs, all, last)

  pub going_over : (r : Bool) → r ≡ false → Links s' s'' records b next r → Relinks s s'' records xs below false
  going_over r e p = record {
    same_length = p.same_length ∙ g.same_length;
    kept = λ k none. p.kept k (stands k none) ∙ g.kept k none;
    done = λ s₀ rs h a yes. absurd (false≢true yes);
    fit = λ s₀ rs h a once small.
        let x = g.left s₀ rs h a in
        let qs : List Record = x.0 in
        let whole : relink qs next (b ∷ above) ≡ relink rs below (reverse xs) = ap (relink qs next) (sym here) ∙ x.3 in
        let most : size (node (renewed qs next b)) ≤ peak (relink rs below (reverse xs))
        = subst (λ (t : List Record). size (node (renewed qs next b)) ≤ peak t) whole (peak_linked qs next b above (inside rs qs x.2 a) (alone once)) in
        absurd (omega (arith, most, p.over s₀ qs x.1 e, small));
  }
