-- Buckets set aside one after the other, and put back.
use mathlib.Core.Path.{◌≡◌, refl, sym, ap, ◌∙◌, subst}
use mathlib.Core.Logic.{◌≢◌}
use mathlib.Core.Bool.{Bool, true, false}
use mathlib.Core.List.{List, [], ◌∷◌}
use Prim.Native.Nat.{ℕ, zero, suc, ◌+◌, ◌*◌, ◌-◌, ◌/◌, ◌≤◌, ◌<◌}
use native.Mathlib.Omega.{arith}
use lib.Dec.{ltb, eqb}
use lib.ListN.{length, get_or, take}
use lib.Seq.{take-suc, take-length, get_or-take, length-take-le}
use borrow.Author.Tests.{ltb-true, ltb-false, eqb-true, eqb-false}
use Rattle.laws.specs.Lists.Facts.{All, occurs, occurs_here, occurs_other, occurs_append}
use Rattle.encode_undo.specs.Copies.{copied, Saved, Saves, Restores}
use Rattle.encode_undo.proofs.Copying.{copied_length, copied_in, copied_below, copied_above, front_same}

-- the record of a bucket lies within the store
pub slot : (s buckets : List ℕ) (i : ℕ) → i < length buckets → All (λ b. 8 * b + 8 ≤ length s) buckets → 8 * get_or buckets i 0 + 8 ≤ length s
slot s [] i h a = absurd (omega arith)
slot s (b ∷ bs) zero h a = a.0
slot s (b ∷ bs) (suc i) h a = slot s bs i (omega arith) a.1

-- the first i buckets are saved
pub saves_start : (s w buckets : List ℕ) → Saves s w w buckets 0
saves_start s w buckets = record {
  same_length = refl;
  saved = record { at = λ i j h k. absurd (omega arith) };
  below = λ k h. refl;
  above = λ k h. refl;
}

pub saves_turn : (s w w' w'' buckets : List ℕ) (i : ℕ) → i < 20 → 2208 ≤ length w → 8 * get_or buckets i 0 + 8 ≤ length s →
    w'' ≡ copied s (8 * get_or buckets i 0) w' (2048 + 8 * i) 8 → Saves s w w' buckets i → Saves s w w'' buckets (i + 1)
saves_turn s w w' w'' buckets i low room in-s p h = record {
  same_length = ap length p ∙ (copied_length s (8 * b) w' (2048 + 8 * i) 8 in-s in_w ∙ h.same_length);
  saved = record { at = λ k j here few. go k j few here (ltb k i) refl };
  below = λ k here. ap (λ (z : List ℕ). get_or z k 0) p ∙ (copied_below s (8 * b) w' (2048 + 8 * i) 8 in-s in_w k (omega arith) ∙ h.below k here);
  above = λ k here. ap (λ (z : List ℕ). get_or z k 0) p ∙ (copied_above s (8 * b) w' (2048 + 8 * i) 8 in-s in_w k (omega arith) ∙ h.above k (omega arith));
}
  where
    b : ℕ
    b = get_or buckets i 0

    in_w : 2048 + 8 * i + 8 ≤ length w'
    in_w = omega (arith, h.same_length)

    go : (k j : ℕ) → j < 8 → k < i + 1 → (t : Bool) → ltb k i ≡ t → get_or w'' (2048 + 8 * k + j) 0 ≡ get_or s (8 * get_or buckets k 0 + j) 0
    go k j few here true e =
        let less : k < i = ltb-true k i e in
        ap (λ (z : List ℕ). get_or z (2048 + 8 * k + j) 0) p ∙
        (copied_below s (8 * b) w' (2048 + 8 * i) 8 in-s in_w (2048 + 8 * k + j) (omega arith) ∙ h.saved.at k j less few)
    go k j few here false e =
        let not_less : i ≤ k = ltb-false k i e in
        let is : k ≡ i = omega arith in
        subst (λ (n : ℕ). get_or w'' (2048 + 8 * n + j) 0 ≡ get_or s (8 * get_or buckets n 0 + j) 0) (sym is)
        (ap (λ (z : List ℕ). get_or z (2048 + 8 * i + j) 0) p ∙ copied_in s (8 * b) w' (2048 + 8 * i) 8 in-s in_w j few)

-- what was saved of all, was saved of the first
fewer : (o w buckets : List ℕ) (i used : ℕ) → i ≤ used → Saved o w buckets used → Saved o w buckets i
fewer o w buckets i used h g = record { at = λ k j here few. g.at k j (omega arith) few }

-- one slot more
occurs_slot : (xs : List ℕ) (i n : ℕ) → i < length xs → occurs n (take (i + 1) xs) ≡ occurs n (take i xs) + occurs n (get_or xs i 0 ∷ [])
occurs_slot xs i n h =
    let up : i + 1 ≡ suc i = omega arith in
    ap (λ (j : ℕ). occurs n (take j xs)) up ∙ (ap (occurs n) (take-suc xs i 0 h) ∙ occurs_append n (take i xs) (get_or xs i 0 ∷ []))

pub restores_start : (s w buckets : List ℕ) → Restores s s w buckets 0
unfolding occurs
restores_start s w buckets = record {
  same_length = refl;
  back = λ o g k h. absurd (omega arith);
  others = λ k h. refl;
}

pub restores_turn : (s s' s'' w buckets : List ℕ) (i : ℕ) → i < length buckets → i < 20 → 2208 ≤ length w → 8 * get_or buckets i 0 + 8 ≤ length s →
    s'' ≡ copied w (2048 + 8 * i) s' (8 * get_or buckets i 0) 8 → Restores s s' w buckets i → Restores s s'' w buckets (i + 1)
unfolding occurs
restores_turn s s' s'' w buckets i inside low room in-s p h = record {
  same_length = ap length p ∙ (copied_length w (2048 + 8 * i) s' (8 * b) 8 in_w in_s' ∙ h.same_length);
  back = λ o g k here. at k o g here (eqb (k / 8) b) refl;
  others = λ k none. none_at k none (eqb (k / 8) b) refl;
}
  where
    b : ℕ
    b = get_or buckets i 0

    in_w : 2048 + 8 * i + 8 ≤ length w
    in_w = omega arith

    in_s' : 8 * b + 8 ≤ length s'
    in_s' = omega (arith, h.same_length)

    kept : (k : ℕ) → k / 8 ≢ b → get_or s'' k 0 ≡ get_or s' k 0
    kept k ne = side (ltb k (8 * b)) refl
      where
        side : (t : Bool) → ltb k (8 * b) ≡ t → get_or s'' k 0 ≡ get_or s' k 0
        side true e =
            let less : k < 8 * b = ltb-true k (8 * b) e in
            ap (λ (z : List ℕ). get_or z k 0) p ∙ copied_below w (2048 + 8 * i) s' (8 * b) 8 in_w in_s' k less
        side false e =
            let more : 8 * b ≤ k = ltb-false k (8 * b) e in
            ap (λ (z : List ℕ). get_or z k 0) p ∙ copied_above w (2048 + 8 * i) s' (8 * b) 8 in_w in_s' k (omega (arith, ne))

    at : (k : ℕ) (o : List ℕ) → Saved o w buckets (i + 1) → 1 ≤ occurs (k / 8) (take (i + 1) buckets) → (t : Bool) → eqb (k / 8) b ≡ t → get_or s'' k 0 ≡ get_or o k 0
    at k o g here true e =
        let is : k / 8 ≡ b = eqb-true (k / 8) b e in
        let j : ℕ = k - 8 * b in
        let few : j < 8 = omega arith in
        let back : 8 * b + j ≡ k = omega arith in
        subst (λ (n : ℕ). get_or s'' n 0 ≡ get_or o n 0) back
        (ap (λ (z : List ℕ). get_or z (8 * b + j) 0) p ∙
        (copied_in w (2048 + 8 * i) s' (8 * b) 8 in_w in_s' j few ∙ g.at i j (omega arith) few))
    at k o g here false e =
        let ne : k / 8 ≢ b = eqb-false (k / 8) b e in
        let one : occurs (k / 8) (b ∷ []) ≡ 0 = occurs_other (k / 8) b [] ne in
        kept k ne ∙ h.back o (fewer o w buckets i (i + 1) (omega arith) g) k (omega (arith, here, occurs_slot buckets i (k / 8) inside, one))

    none_at : (k : ℕ) → occurs (k / 8) (take (i + 1) buckets) ≡ 0 → (t : Bool) → eqb (k / 8) b ≡ t → get_or s'' k 0 ≡ get_or s k 0
    none_at k none true e =
        let one : occurs (k / 8) (b ∷ []) ≡ 1 = occurs_here (k / 8) b [] (eqb-true (k / 8) b e) in
        absurd (omega (arith, none, occurs_slot buckets i (k / 8) inside, one))
    none_at k none false e =
        kept k (eqb-false (k / 8) b e) ∙ h.others k (omega (arith, none, occurs_slot buckets i (k / 8) inside))

-- a store whose buckets were changed, and whose front was kept since, has its front again as it was saved
pub restored_front : (s s' x x' w buckets : List ℕ) (used n : ℕ) → Saved s w buckets used →
    ((k : ℕ) → occurs (k / 8) (take used buckets) ≡ 0 → get_or s' k 0 ≡ get_or s k 0) → take n x ≡ take n s' → Restores x x' w buckets used →
    length x ≡ length s → n ≤ length s → take n x' ≡ take n s
restored_front s s' x x' w buckets used n saved same front r long h =
    front_same x' s n (r.same_length ∙ long) h (λ k low. go k low (occurs (k / 8) (take used buckets)) refl)
  where
    go : (k : ℕ) → k < n → (m : ℕ) → occurs (k / 8) (take used buckets) ≡ m → get_or x' k 0 ≡ get_or s k 0
    go k low zero e =
        r.others k e ∙
        (sym (get_or-take n x k 0 low) ∙ (ap (λ (z : List ℕ). get_or z k 0) front ∙ (get_or-take n s' k 0 low ∙ same k e)))
    go k low (suc m) e = r.back s saved k (omega arith)

-- The used slots of an array as a slice --------------------------------------------------------------------------------------------

module _ (o w xs : List ℕ) (n : ℕ) (few : n ≤ length xs) where
  many : length (take n xs) ≡ n
  many = length-take-le n xs few

  pub saved_slots : Saved o w (take n xs) (length (take n xs)) → Saved o w xs n
  saved_slots h = record { at = λ i j here low. h.at i j (omega (arith, many)) low ∙ ap (λ (b : ℕ). get_or o (8 * b + j) 0) (get_or-take n xs i 0 here) }

  pub slots_saved : Saved o w xs n → Saved o w (take n xs) (length (take n xs))
  slots_saved h = record {
    at = λ i j here low.
        let less : i < n = omega (arith, many) in h.at i j less low ∙ ap (λ (b : ℕ). get_or o (8 * b + j) 0) (sym (get_or-take n xs i 0 less));
  }

pub restores_slots : (s s' w xs : List ℕ) (n : ℕ) → n ≤ length xs → Restores s s' w (take n xs) (length (take n xs)) → Restores s s' w xs n
restores_slots s s' w xs n few r =
    let all : take (length (take n xs)) (take n xs) ≡ take n xs = take-length (take n xs) in
    record {
      same_length = r.same_length;
      back = λ o g k here. r.back o (slots_saved o w xs n few g) k (rw all here);
      others = λ k none. r.others k (rw all none);
    }
