-- The links of the first records are those up to their count.
use Rattle.std.specs.Prelude.{◌≡◌, refl, Bool, true, false, cond, ◌⊎◌, List, [], ◌∷◌, ◌++◌, ℕ, zero, suc, ◌+◌, ◌≤◌, ◌<◌, leb, length, take, drop}
use Rattle.std.proofs.Common.{sym, ◌∙◌, ap, inl, inr, ⊎_elim, append-nil, append_assoc, arith, length-append, take-append-drop, take_all, length-take-le, leb-true, leb-false, le-leb}
use Rattle.std.proofs.Math.Path.{fun_ext}
use Rattle.std.proofs.lemmas.Bool.{lt-leb}
use Rattle.links.specs.Links.{View, Slot, same_slot, Links, put, links_of}
use Rattle.links.specs.Slots.{up_to, cut}
use Rattle.links.specs.Walks.{Sure, output_inside}
use Rattle.links.specs.Turns.{slot_true, put_here, put_there, Turn, other, away, twice, hung, sure_links, links_turn}

pub cut_low : (m : ℕ) (L : Links) (s : Slot) → L s ≤ m → cut m L s ≡ L s
unfolding cut up_to
cut_low m L s h = ap (λ b. cond b (L s) 0) (le-leb (L s) m h)

pub cut_high : (m : ℕ) (L : Links) (s : Slot) → m < L s → cut m L s ≡ 0
unfolding cut up_to
cut_high m L s h = ap (λ b. cond b (L s) 0) (lt-leb (L s) m h)

pub cut_at_most : (m : ℕ) (L : Links) (s : Slot) → ((cut m L s ≡ L s) × (L s ≤ m)) ⊎ ((cut m L s ≡ 0) × (m < L s))
cut_at_most m L s = go (leb (L s) m) refl
  where
    go : (b : Bool) → leb (L s) m ≡ b → ((cut m L s ≡ L s) × (L s ≤ m)) ⊎ ((cut m L s ≡ 0) × (m < L s))
    go true e = inl (cut_low m L s (leb-true _ _ e), leb-true _ _ e)
    go false e = inr (cut_high m L s (leb-false _ _ e), leb-false _ _ e)

pub cut_all : (m : ℕ) (L : Links) → ((s : Slot) → L s ≤ m) → cut m L ≡ L
cut_all m L h = fun_ext (λ s. cut_low m L s (h s))

-- links are up to the record count
pub sure_most : (ks : List View) (L : Links) → Sure ks L → (s : Slot) → L s ≤ length ks
sure_most ks L sure s = go (L s) refl
  where
    go : (x : ℕ) → L s ≡ x → L s ≤ length ks
    go zero e = omega arith
    go (suc q) e = omega (arith, output_inside ks q (sure s q e).output_there)

cut_cut : (m k : ℕ) (L : Links) → m ≤ k → cut m (cut k L) ≡ cut m L
cut_cut m k L h = fun_ext go
  where
    go : (s : Slot) → cut m (cut k L) s ≡ cut m L s
    go s = ⊎_elim low high (cut_at_most k L s)
      where
        low : (cut k L s ≡ L s) × (L s ≤ k) → cut m (cut k L) s ≡ cut m L s
        low (e, i) = ⊎_elim
            (λ c. cut_low m (cut k L) s (omega (arith, e, c.1)) ∙ (e ∙ sym c.0))
            (λ c. cut_high m (cut k L) s (omega (arith, e, c.1)) ∙ sym c.0) (cut_at_most m L s)

        high : (cut k L s ≡ 0) × (k < L s) → cut m (cut k L) s ≡ cut m L s
        high (e, i) = cut_low m (cut k L) s (omega (arith, e)) ∙ (e ∙ sym (cut_high m L s (omega arith)))

-- one record more puts a link past what was there
turn_cut : (ks : List View) (L L' : Links) (x : View) (m : ℕ) → m ≤ length ks → Turn ks L x L' → cut m L' ≡ cut m L
turn_cut ks L L' x m h (other e) = refl
turn_cut ks L L' x m h (away e) = refl
turn_cut ks L L' x m h (twice l) = refl
turn_cut ks L L' x m h (hung {t = t} l z i) = fun_ext (λ s. go s (same_slot s t) refl)
  where
    go : (s : Slot) (b : Bool) → same_slot s t ≡ b → cut m (put L t (suc (length ks))) s ≡ cut m L s
    go s true e =
        let is : s ≡ t = slot_true s t e in
        let new : put L t (suc (length ks)) s ≡ suc (length ks) = ap (put L t (suc (length ks))) is ∙ put_here L t (suc (length ks)) in
        let old : L s ≡ 0 = ap L is ∙ z in
        cut_high m (put L t (suc (length ks))) s (omega arith) ∙ sym (cut_low m L s (omega arith) ∙ old)
    go s false e =
        let same : put L t (suc (length ks)) s ≡ L s = put_there L t s (suc (length ks)) e in
        ⊎_elim
        (λ c. cut_low m (put L t (suc (length ks))) s (omega (arith, same, c.1)) ∙ (same ∙ sym c.0))
        (λ c. cut_high m (put L t (suc (length ks))) s (omega (arith, same, c.1)) ∙ sym c.0) (cut_at_most m L s)

-- what is appended adds only links past the records before
pub links_prefix : (ks xs : List View) → links_of ks ≡ cut (length ks) (links_of (ks ++ xs))
links_prefix ks [] = sym (cut_all (length ks) (links_of ks) (sure_most ks (links_of ks) (sure_links ks))) ∙
    ap (λ k. cut (length ks) (links_of k)) (sym (append-nil ks))
links_prefix ks (x ∷ xs) =
    let K : List View = ks ++ (x ∷ []) in
    let one : length K ≡ length ks + 1 = length-append ks (x ∷ []) in
    sym (cut_all (length ks) (links_of ks) (sure_most ks (links_of ks) (sure_links ks))) ∙
    (sym (turn_cut ks (links_of ks) (links_of K) x (length ks) (omega arith) (links_turn ks x)) ∙
    (ap (cut (length ks)) (links_prefix K xs) ∙
    (cut_cut (length ks) (length K) (links_of (K ++ xs)) (omega arith) ∙
    ap (λ k. cut (length ks) (links_of k)) (append_assoc ks (x ∷ []) xs))))

pub links_take : (m : ℕ) (ks : List View) → links_of (take m ks) ≡ cut m (links_of ks)
links_take m ks = go (leb m (length ks)) refl
  where
    go : (b : Bool) → leb m (length ks) ≡ b → links_of (take m ks) ≡ cut m (links_of ks)
    go true e =
        links_prefix (take m ks) (drop m ks) ∙
        (ap (λ k. cut k (links_of (take m ks ++ drop m ks))) (length-take-le m ks (leb-true _ _ e)) ∙
        ap (λ k. cut m (links_of k)) (take-append-drop m ks))
    go false e =
        let far : length ks < m = leb-false m (length ks) e in
        ap links_of (take_all m ks (omega arith)) ∙ sym (cut_all m (links_of ks) (λ s. omega (arith, sure_most ks (links_of ks) (sure_links ks) s)))

-- a link stays, and was there if it is to a place before
pub links_stay : (ks xs : List View) (s : Slot) (q : ℕ) → links_of ks s ≡ suc q → links_of (ks ++ xs) s ≡ suc q
links_stay ks xs s q e =
    let is : links_of ks s ≡ cut (length ks) (links_of (ks ++ xs)) s = ap (λ (f : Links). f s) (links_prefix ks xs) in
    ⊎_elim (λ c. sym c.0 ∙ (sym is ∙ e)) (λ c. absurd (omega (arith, is, e, c.0))) (cut_at_most (length ks) (links_of (ks ++ xs)) s)

pub links_was : (ks xs : List View) (s : Slot) (q : ℕ) → links_of (ks ++ xs) s ≡ suc q → q < length ks → links_of ks s ≡ suc q
links_was ks xs s q e h = ap (λ (f : Links). f s) (links_prefix ks xs) ∙ (cut_low (length ks) (links_of (ks ++ xs)) s (omega arith) ∙ e)

pub links_not_yet : (ks xs : List View) (s : Slot) (q : ℕ) → links_of (ks ++ xs) s ≡ suc q → length ks ≤ q → links_of ks s ≡ 0
links_not_yet ks xs s q e h = ap (λ (f : Links). f s) (links_prefix ks xs) ∙ cut_high (length ks) (links_of (ks ++ xs)) s (omega arith)
