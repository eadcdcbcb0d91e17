-- One record more: which link is put.
use Rattle.std.specs.Prelude.{◌≡◌, refl, ◌⊎◌, Bool, true, false, List, [], ◌∷◌, ◌++◌, ℕ, zero, suc, ◌≤◌, eqb, ltb, length, get_or}
use Rattle.std.proofs.Common.{sym, ◌∙◌, ap, subst, inl, inr, ⊎_elim, append-nil, append_assoc, arith, eqb-true, eq-eqb}
use Rattle.std.proofs.lemmas.Bool.{false≢true}
use Rattle.std.proofs.Math.ListN.{get_or-append}
use Rattle.std.proofs.Math.Seq.{get_or-append_seam}
use Rattle.links.specs.Links.{View, a_node, an_output, neither, Slot, root, next, same_slot, Links, none, put, Way, found, ended, way, hit, hang, sees_node, link, links_from, links_of}
use Rattle.laws.specs.Records.Words.{both}
use Rattle.laws.specs.Lists.Facts.{and_true}
use Rattle.links.specs.Slots.{sees_output, stands, low}
use Rattle.links.specs.Walks.{Leads, ends, goes, Linked, Sure, inside, stands_low, walk_leads, end_stands}

-- a fact of every list, one element more at a time
pub snoc_ind : {A : Type 0} (P : List A → Type 0) → P [] → ((xs : List A) (x : A) → P xs → P (xs ++ (x ∷ []))) → (xs : List A) → P xs
snoc_ind {A = A} P none step xs = go [] xs none
  where
    go : (before rest : List A) → P before → P (before ++ rest)
    go before [] h = subst P (sym (append-nil before)) h
    go before (x ∷ rest) h = subst P (append_assoc before (x ∷ []) rest) (go (before ++ (x ∷ [])) rest (step before x h))

-- slots that test the same are
pub slot_self : (s : Slot) → same_slot s s ≡ true
unfolding same_slot
slot_self (root n) = eq-eqb n n refl
slot_self (next p k) = and_true (eq-eqb p p refl) (eq-eqb k k refl)

pub slot_true : (s t : Slot) → same_slot s t ≡ true → s ≡ t
unfolding same_slot
slot_true (root n) (root m) e = ap root (eqb-true n m e)
slot_true (root n) (next q j) e = absurd (false≢true e)
slot_true (next p k) (root m) e = absurd (false≢true e)
slot_true (next p k) (next q j) e =
    let (a, b) = both (eqb p q) (eqb k j) e in
    let pq : p ≡ q = eqb-true p q a in
    let kj : k ≡ j = eqb-true k j b in
    cc

pub put_here : (L : Links) (s : Slot) (x : ℕ) → put L s x s ≡ x
unfolding put
put_here L s x = rw (slot_self s, put) refl

pub put_there : (L : Links) (s t : Slot) (x : ℕ) → same_slot t s ≡ false → put L s x t ≡ L t
unfolding put
put_there L s t x e = rw (e, put) refl

-- what a link of the put ones is
pub put_cases : (L : Links) (s t : Slot) (x y : ℕ) → put L s x t ≡ y → ((t ≡ s) × (y ≡ x)) ⊎ ((same_slot t s ≡ false) × (L t ≡ y))
put_cases L s t x y e = go (same_slot t s) refl
  where
    go : (b : Bool) → same_slot t s ≡ b → ((t ≡ s) × (y ≡ x)) ⊎ ((same_slot t s ≡ false) × (L t ≡ y))
    go true q =
        let is : t ≡ s = slot_true t s q in
        inl (is, sym e ∙ (ap (put L s x) is ∙ put_here L s x))
    go false q = inr (q, sym (put_there L s t x q) ∙ e)

-- no link is lost where there was none
pub put_keeps : (L : Links) (s : Slot) (x : ℕ) → L s ≡ 0 → (t : Slot) (q : ℕ) → L t ≡ suc q → put L s x t ≡ suc q
put_keeps L s x z t q e = go (same_slot t s) refl
  where
    go : (b : Bool) → same_slot t s ≡ b → put L s x t ≡ suc q
    go true i =
        let is : t ≡ s = slot_true t s i in
        absurd (omega (arith, e, z, ap L is))
    go false i = put_there L s t x i ∙ e

-- the links of one record more
links_more : (before : List View) (L : Links) (xs ys : List View) →
    links_from before L (xs ++ ys) ≡ links_from (before ++ xs) (links_from before L xs) ys
unfolding links_from
links_more before L [] ys = ap (λ b. links_from b L ys) (sym (append-nil before))
links_more before L (x ∷ xs) ys =
    links_more (before ++ (x ∷ [])) (link before L x) xs ys ∙
    ap (λ b. links_from b (links_from (before ++ (x ∷ [])) (link before L x) xs) ys) (append_assoc before (x ∷ []) xs)

pub links_snoc : (ks : List View) (x : View) → links_of (ks ++ (x ∷ [])) ≡ link ks (links_of ks) x
unfolding links_of links_from
links_snoc ks x = links_more [] none ks (x ∷ [])

-- the ways of linking one record more
pub data Turn (ks : List View) (L : Links) : View → Links → Type 0 where
  other : {x : View} → sees_output x ≡ false → Turn ks L x L
  away : {n v : ℕ} → sees_node (get_or ks n neither) ≡ false → Turn ks L (an_output n v) L
  twice : {n v q : ℕ} → Leads (hit ks n v) L v (root n) (found q) → Turn ks L (an_output n v) L
  hung : {n v : ℕ} {t : Slot} → Leads (hit ks n v) L v (root n) (ended t) → L t ≡ 0 → stands ks t ≡ true →
      Turn ks L (an_output n v) (put L t (suc (length ks)))

pub end_zero : {is : ℕ → Bool} {L : Links} {w : ℕ} {s t : Slot} → Leads is L w s (ended t) → L t ≡ 0
end_zero (ends e) = e
end_zero (goes e i l) = end_zero l

pub turn : (ks : List View) (L : Links) → Sure ks L → (x : View) → Turn ks L x (link ks L x)
unfolding link sees_output hang stands
turn ks L sure a_node = other refl
turn ks L sure neither = other refl
turn ks L sure (an_output n v) = go (sees_node (get_or ks n neither)) refl
  where
    way_of : (r : Way) → stands ks (root n) ≡ true → Leads (hit ks n v) L v (root n) r → Turn ks L (an_output n v) (hang L (length ks) r)
    way_of (found q) h l = twice l
    way_of (ended t) h l = hung l (end_zero l) (end_stands ks (hit ks n v) L sure l h)

    go : (b : Bool) → sees_node (get_or ks n neither) ≡ b →
        Turn ks L (an_output n v) (elim b [ true ↦ hang L (length ks) (way ks L n v) | false ↦ L ])
    go true e = way_of (way ks L n v) e (walk_leads ks (hit ks n v) L sure (length ks) v (root n) (omega arith))
    go false e = away e

-- a slot of the record that comes next is empty
pub next_empty : (ks : List View) (L : Links) → Sure ks L → (s : Slot) → suc (length ks) ≤ low s → L s ≡ 0
next_empty ks L sure s h = go (L s) refl
  where
    go : (x : ℕ) → L s ≡ x → L s ≡ 0
    go zero e = e
    go (suc q) e = absurd (omega (arith, stands_low ks s (sure s q e).slot_there))

pub new_empty : (ks : List View) (L : Links) → Sure ks L → (t : Slot) (x : ℕ) → stands ks t ≡ true → (s : Slot) → suc (length ks) ≤ low s →
    put L t x s ≡ 0
new_empty ks L sure t x h s past = go (same_slot s t) refl
  where
    go : (b : Bool) → same_slot s t ≡ b → put L t x s ≡ 0
    go true e =
        let is : low t ≡ low s = ap low (sym (slot_true s t e)) in
        absurd (omega (arith, is, past, stands_low ks t h))
    go false e = put_there L t s x e ∙ next_empty ks L sure s past

-- what stood there stands there
pub still : (test : View → Bool) → test neither ≡ false → (ks xs : List View) (p : ℕ) →
    test (get_or ks p neither) ≡ true → test (get_or (ks ++ xs) p neither) ≡ true
still test z ks xs p e = ap test (get_or-append ks xs neither p (inside test z ks p e)) ∙ e

stands_more : (ks xs : List View) (s : Slot) → stands ks s ≡ true → stands (ks ++ xs) s ≡ true
unfolding stands sees_node sees_output
stands_more ks xs (root n) e = still sees_node refl ks xs n e
stands_more ks xs (next p k) e =
    let (a, b) = both (sees_output (get_or ks p neither)) (ltb k 4) e in
    and_true (still sees_output refl ks xs p a) b

linked_more : (ks xs : List View) (s : Slot) (q : ℕ) → Linked ks s q → Linked (ks ++ xs) s q
unfolding sees_output
linked_more ks xs s q l = record {
  rises = l.rises;
  output_there = still sees_output refl ks xs q l.output_there;
  slot_there = stands_more ks xs s l.slot_there;
}

sure_turn : (ks : List View) (L L' : Links) (x : View) → Sure ks L → Turn ks L x L' → Sure (ks ++ (x ∷ [])) L'
unfolding sees_output
sure_turn ks L L' x sure (other e) s q i = linked_more ks (x ∷ []) s q (sure s q i)
sure_turn ks L L' x sure (away e) s q i = linked_more ks (x ∷ []) s q (sure s q i)
sure_turn ks L L' x sure (twice l) s q i = linked_more ks (x ∷ []) s q (sure s q i)
sure_turn ks L L' x sure (hung {t = t} l z h) s q i = ⊎_elim here (λ c. linked_more ks (x ∷ []) s q (sure s q c.1)) (put_cases L t s
    (suc (length ks)) (suc q) i)
  where
    here : (s ≡ t) × (suc q ≡ suc (length ks)) → Linked (ks ++ (x ∷ [])) s q
    here (is, at) =
        let last : q ≡ length ks = omega (arith, at) in
        record {
          rises = rw (is, last) (stands_low ks t h);
          output_there = ap sees_output (ap (λ j. get_or (ks ++ (x ∷ [])) j neither) last ∙ get_or-append_seam ks x [] neither);
          slot_there = stands_more ks (x ∷ []) s (rw is h);
        }

pub sure_links : (ks : List View) → Sure ks (links_of ks)
unfolding links_of links_from none
sure_links = snoc_ind (λ ks. Sure ks (links_of ks)) (λ s q e. absurd (omega (arith, e)))
    (λ ks x h. subst (Sure (ks ++ (x ∷ []))) (sym (links_snoc ks x)) (sure_turn ks (links_of ks) (link ks (links_of ks) x) x h (turn ks
    (links_of ks) h x)))

-- the turn that a record takes
pub links_turn : (ks : List View) (x : View) → Turn ks (links_of ks) x (links_of (ks ++ (x ∷ [])))
links_turn ks x = subst (Turn ks (links_of ks) x) (sym (links_snoc ks x)) (turn ks (links_of ks) (sure_links ks) x)
