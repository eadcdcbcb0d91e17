-- The test that links are those of the records: each output's walk ends at itself past lower places alone, and no link is left over.
use Rattle.std.proofs.Math.Path.{◌≡◌, refl, sym, ap, subst, fun_ext}
use Rattle.std.proofs.Common.{◌∙◌, length-append, length-take-le, eq-eqb}
use Rattle.std.specs.Prelude.{Bool, false, ◌≢◌, take, drop}
use Rattle.std.proofs.Math.Bool.{true, false≢true}
use Rattle.std.proofs.Math.Logic.{⊎_elim}
use mathlib.Core.List.{List, [], ◌∷◌, ◌++◌, append-nil, append_assoc}
use Prim.Native.Nat.{ℕ, zero, suc, ◌+◌, ◌/◌, ◌%◌, ◌≤◌, ◌<◌}
use native.Mathlib.Omega.{arith}
use Rattle.std.proofs.Math.ListN.{length, get_or, get_or-append}
use Rattle.std.proofs.Math.Seq.{get_or-append_seam, split_at}
use Rattle.links.specs.Links.{View, a_node, an_output, neither, Slot, root, next, same_slot, Links, put, none, found, ended, hit, hits, sees_node, links_of, links_from}
use Rattle.laws.specs.Lists.Facts.{and_true}
use Rattle.links.specs.Slots.{cut, sees_output}
use Rattle.links.specs.Walks.{Leads, ends, finds, goes, leads_one, output_inside, hit_inside}
use Rattle.links.specs.Turns.{slot_true, slot_self, put_here, put_there, put_cases, Turn, other, away, twice, hung, sure_links, links_turn}
use Rattle.links.specs.Finds.{Lower, hits_key}
use Rattle.links.specs.Cuts.{cut_low, cut_high, cut_at_most, cut_all, links_stay, links_was, links_not_yet}

-- the walk of the output at m meets others at lower places, and at slot t itself
pub data Reaches (is : ℕ → Bool) (M : Links) (m : ℕ) : ℕ → Slot → Slot → Type 0 where
  here : {w : ℕ} {s : Slot} → M s ≡ suc m → Reaches is M m w s s
  on : {w : ℕ} {s t : Slot} {q : ℕ} → M s ≡ suc q → q < m → is q ≡ false → Reaches is M m (w / 4) (next q (w % 4)) t → Reaches is M m w s t

-- the test: nodes stand before their outputs; each output's walk ends at itself; each link is where that of its output's walk is
pub record Tested (ks : List View) (M : Links) : Type 0 where
  pub lower : Lower ks
  pub own : (m n v : ℕ) → get_or ks m neither ≡ an_output n v → (t : Slot) × Reaches (hit ks n v) M m v (root n) t
  pub only : (s : Slot) (q : ℕ) → M s ≡ suc q → (n : ℕ) × (v : ℕ) × (get_or ks q neither ≡ an_output n v) × Reaches (hit ks n v) M q v (root n) s

pub reach_one : {is : ℕ → Bool} {M : Links} {m w : ℕ} {s t u : Slot} → Reaches is M m w s t → Reaches is M m w s u → t ≡ u
reach_one (here a) (here b) = refl
reach_one (here a) (on b lt f r) = absurd (omega (arith, a, b, lt))
reach_one (on b lt f r) (here a) = absurd (omega (arith, a, b, lt))
reach_one {is = is} {M = M} {m = m} {w = w} {u = u} (on {q = p} a lt f r) (on {q = q} b lt' f' r') =
    let same : p ≡ q = omega (arith, a, b) in
    reach_one r (subst (λ (x : ℕ). Reaches is M m (w / 4) (next x (w % 4)) u) (sym same) r')

-- two outputs of one node and value are one
meets : {is : ℕ → Bool} {M : Links} {m k w : ℕ} {s t u : Slot} → is m ≡ true → is k ≡ true → Reaches is M m w s t → Reaches is M k w s u → m ≡ k
meets {m = m} {k = k} im ik (here a) (here b) = omega (arith, a, b)
meets {is = is} {m = m} im ik (here a) (on {q = q} b lt f r) =
    let same : q ≡ m = omega (arith, a, b) in absurd (false≢true (sym f ∙ (ap is same ∙ im)))
meets {is = is} {k = k} im ik (on {q = q} b lt f r) (here a) =
    let same : q ≡ k = omega (arith, a, b) in absurd (false≢true (sym f ∙ (ap is same ∙ ik)))
meets {is = is} {M = M} {k = k} {w = w} {u = u} im ik (on {q = p} a lt f r) (on {q = q} b lt' f' r') =
    let same : p ≡ q = omega (arith, a, b) in
    meets im ik r (subst (λ (x : ℕ). Reaches is M k (w / 4) (next x (w % 4)) u) (sym same) r')

abbrev pub Distinct : List View → Type 0
Distinct ks = (m k n v : ℕ) → get_or ks m neither ≡ an_output n v → get_or ks k neither ≡ an_output n v → m ≡ k

pub hit_own : (ks : List View) (m n v : ℕ) → get_or ks m neither ≡ an_output n v → hit ks n v m ≡ true
unfolding hit hits
hit_own ks m n v e = ap (λ k. hits k n v) e ∙ and_true (eq-eqb n n refl) (eq-eqb v v refl)

pub tested_distinct : (ks : List View) (M : Links) → Tested ks M → Distinct ks
tested_distinct ks M t m k n v a b =
    meets (hit_own ks m n v a) (hit_own ks k n v b) (t.own m n v a).1 (t.own k n v b).1

-- what stands at a seam and before it
seam : (ks front : List View) (x : View) (back : List View) → ks ≡ front ++ (x ∷ back) → get_or ks (length front) neither ≡ x
seam ks front x back is = ap (λ k. get_or k (length front) neither) is ∙ get_or-append_seam front x back neither

before_seam : (ks front : List View) (x : View) (back : List View) → ks ≡ front ++ (x ∷ back) → (i : ℕ) → i < length front →
    get_or ks i neither ≡ get_or front i neither
before_seam ks front x back is i h = ap (λ k. get_or k i neither) is ∙ get_or-append front (x ∷ back) neither i h

-- by turns: the links of the first records stand as they should
module _ (ks : List View) (M : Links) (tested : Tested ks M) where
  module _ (front : List View) (x : View) (back : List View) (is : ks ≡ front ++ (x ∷ back)) where
    abbrev m : ℕ
    m = length front

    before : (i : ℕ) → i < m → get_or ks i neither ≡ get_or front i neither
    before = before_seam ks front x back is

    -- over the links so far the walk of the next output ends where it stands
    reached : (L : Links) → L ≡ cut m M → (n v : ℕ) {w : ℕ} {s t : Slot} → Reaches (hit ks n v) M m w s t → Leads (hit front n v) L w s (ended t)
    unfolding hit
    reached L e n v (here {s = s} a) = ends (ap (λ (f : Links). f s) e ∙ cut_high m M s (omega (arith, a)))
    reached L e n v (on {s = s} {q = q} a lt f r) =
        goes (ap (λ (f : Links). f s) e ∙ (cut_low m M s (omega (arith, a)) ∙ a)) (ap (λ k. hits k n v) (sym (before q lt)) ∙
        f) (reached L e n v r)

    -- where nothing links to m, nothing is new
    nothing : ((s : Slot) → M s ≡ suc m → ⊥) → cut m M ≡ cut (suc m) M
    nothing never = fun_ext (λ s. ⊎_elim
        (λ c. c.0 ∙ sym (cut_low (suc m) M s (omega (arith, c.1))))
        (λ c. let ne : M s ≢ suc m = never s in c.0 ∙ sym (cut_high (suc m) M s (omega (arith, c.1)))) (cut_at_most m M s))

    by_turn : (y : View) (L L' : Links) → get_or ks m neither ≡ y → L ≡ cut m M → Turn front L y L' → L' ≡ cut (suc m) M
    unfolding sees_output
    by_turn y L L' at_y e (other o) = e ∙ nothing (λ s q.
        let (n, v, there, r) = tested.only s m q in
        false≢true (sym o ∙ ap sees_output (sym at_y ∙ there)))
    by_turn y L L' at_y e (away {n = n} {v = v} a) =
        let (lt, node) = tested.lower m n v at_y in
        absurd (false≢true (sym a ∙ (ap sees_node (sym (before n lt)) ∙ node)))
    by_turn y L L' at_y e (twice {n = n} {v = v} {q = q} l) =
        let (t, r) = tested.own m n v at_y in
        let same : found q ≡ ended t = leads_one l (reached L e n v r) in
        let z : ◌≡◌ {A = ℕ} 0 1 = cc in absurd (omega arith)
    by_turn y L L' at_y e (hung {n = n} {v = v} {t = t'} l z h) = fun_ext (λ s. go s (same_slot s t') refl)
      where
        own : (t : Slot) × Reaches (hit ks n v) M m v (root n) t
        own = tested.own m n v at_y

        ends_there : ended t' ≡ ended own.0
        ends_there = leads_one l (reached L e n v own.1)

        slots : t' ≡ own.0
        slots = cc ends_there

        linked : {w : ℕ} {s t : Slot} → Reaches (hit ks n v) M m w s t → M t ≡ suc m
        linked (here a) = a
        linked (on a lt f r) = linked r

        go : (s : Slot) (b : Bool) → same_slot s t' ≡ b → put L t' (suc m) s ≡ cut (suc m) M s
        go s true i =
            let at : s ≡ own.0 = slot_true s t' i ∙ slots in
            let new : M s ≡ suc m = ap M at ∙ linked own.1 in
            ap (put L t' (suc m)) (slot_true s t' i) ∙ (put_here L t' (suc m) ∙ sym (cut_low (suc m) M s (omega arith) ∙ new))
        go s false i = put_there L t' s (suc m) i ∙ (ap (λ (f : Links). f s) e ∙ ⊎_elim
            (λ c. c.0 ∙ sym (cut_low (suc m) M s (omega (arith, c.1))))
            (λ c. c.0 ∙ sym (cut_high (suc m) M s (omega (arith, c.1, ne)))) (cut_at_most m M s))
          where
            ne : M s ≢ suc m
            ne q =
                let (n', v', there, r) = tested.only s m q in
                let same : an_output n v ≡ an_output n' v' = sym at_y ∙ there in
                let sn : n' ≡ n = cc in
                let sv : v' ≡ v = cc in
                let r' : Reaches (hit ks n v) M m v (root n) s =
                subst (λ i. Reaches (hit ks i v) M m v (root i) s) sn (subst (λ i. Reaches (hit ks n' i) M m i (root n') s) sv r) in
                let at : s ≡ t' = reach_one r' own.1 ∙ sym slots in
                false≢true (sym i ∙ (ap (λ j. same_slot j t') at ∙ slot_self t'))

  -- links that pass the test are those of the records
  pub tested_links : links_of ks ≡ M
  unfolding links_of links_from none
  tested_links = go [] ks refl (fun_ext (λ s. ⊎_elim (λ c. let z : M s ≡ 0 = omega (arith, c.1) in sym (c.0 ∙
      z)) (λ c. sym c.0) (cut_at_most 0 M s)))
    where
      most : (s : Slot) → M s ≤ length ks
      most s = within (M s) refl
        where
          within : (y : ℕ) → M s ≡ y → M s ≤ length ks
          within zero e = omega arith
          within (suc q) e =
              let (n, v, there, r) = tested.only s q e in
              omega (arith, hit_inside ks n v q (hit_own ks q n v there))

      go : (front back : List View) → ks ≡ front ++ back → links_of front ≡ cut (length front) M → links_of ks ≡ M
      go front [] is e =
          let all : ks ≡ front = is ∙ append-nil front in
          ap links_of all ∙ (e ∙ cut_all (length front) M (λ s. omega (arith, most s, ap length all)))
      go front (x ∷ back) is e =
          let count : length (front ++ (x ∷ [])) ≡ suc (length front) = length-append front (x ∷ []) ∙ omega arith in
          go (front ++ (x ∷ [])) back (is ∙ sym (append_assoc front (x ∷ []) back))
          (by_turn front x back is x (links_of front) (links_of (front ++ (x ∷ []))) (seam ks front x back is) e (links_turn front x) ∙
          ap (λ k. cut k M) (sym count))

-- and the links of records with distinct outputs pass it
leads_hit : {is : ℕ → Bool} {L : Links} {w : ℕ} {s : Slot} {q : ℕ} → Leads is L w s (found q) → is q ≡ true
leads_hit (finds e i) = i
leads_hit (goes e i l) = leads_hit l

module _ (ks : List View) (low : Lower ks) (distinct : Distinct ks) where
  module _ (front : List View) (n v : ℕ) (back : List View) (is : ks ≡ front ++ (an_output n v ∷ back)) where
    abbrev x₀ : View
    x₀ = an_output n v

    abbrev m₀ : ℕ
    m₀ = length front

    whole : ks ≡ (front ++ (x₀ ∷ [])) ++ back
    whole = is ∙ sym (append_assoc front (x₀ ∷ []) back)

    at_last : get_or ks m₀ neither ≡ x₀
    at_last = seam ks front x₀ back is

    at_before : (i : ℕ) → i < m₀ → get_or ks i neither ≡ get_or front i neither
    at_before = before_seam ks front x₀ back is

    -- what is linked stays linked
    stays : (s : Slot) (q : ℕ) → links_of front s ≡ suc q → links_of ks s ≡ suc q
    stays s q e = ap (λ k. links_of k s) is ∙ links_stay front (x₀ ∷ back) s q e

    stays_next : (s : Slot) (q : ℕ) → links_of (front ++ (x₀ ∷ [])) s ≡ suc q → links_of ks s ≡ suc q
    stays_next s q e = ap (λ k. links_of k s) whole ∙ links_stay (front ++ (x₀ ∷ [])) back s q e

    reaching : {w : ℕ} {s t : Slot} → Leads (hit front n v) (links_of front) w s (ended t) → links_of ks t ≡ suc m₀ →
        Reaches (hit ks n v) (links_of ks) m₀ w s t
    unfolding hit
    reaching (ends e) h = here h
    reaching (goes {s = s} {q = q} e i l) h =
        let lt : q < m₀ = output_inside front q (sure_links front s q e).output_there in
        on (stays s q e) lt (ap (λ k. hits k n v) (at_before q lt) ∙ i) (reaching l h)

    -- the slot of the output, and no other links to it
    abbrev Own : Type 0
    Own = (t : Slot) × Reaches (hit ks n v) (links_of ks) m₀ v (root n) t × ((s : Slot) → links_of ks s ≡ suc m₀ → s ≡ t)

    found_no : (q : ℕ) → hit front n v q ≡ true → ⊥
    unfolding hit hits
    found_no q h = go (get_or front q neither) refl
      where
        lt : q < m₀
        lt = hit_inside front n v q h

        go : (y : View) → get_or front q neither ≡ y → ⊥
        go a_node e = false≢true (sym (ap (λ k. hits k n v) e) ∙ h)
        go neither e = false≢true (sym (ap (λ k. hits k n v) e) ∙ h)
        go (an_output a b) e =
            let (ia, ib) = hits_key a b n v (sym (ap (λ k. hits k n v) e) ∙ h) in
            let there : get_or ks q neither ≡ an_output n v = at_before q lt ∙ (e ∙ (ap (λ i. an_output i b) ia ∙ ap (an_output n) ib)) in
            let same : q ≡ m₀ = distinct q m₀ n v there at_last in
            omega (arith, lt, same)

    own_turn : (y : View) (L' : Links) → y ≡ x₀ → L' ≡ links_of (front ++ (x₀ ∷ [])) → Turn front (links_of front) y L' → Own
    unfolding sees_output
    own_turn y L' e i (other o) = absurd (false≢true (sym o ∙ ap sees_output e))
    own_turn y L' e i (away {n = a} {v = b} o) =
        let (lt, node) = low m₀ n v at_last in
        let same : a ≡ n = cc in
        absurd (false≢true (sym o ∙ (ap (λ j. sees_node (get_or front j neither)) same ∙ (ap sees_node (sym (at_before n lt)) ∙ node))))
    own_turn y L' e i (twice {n = a} {v = b} {q = q} l) =
        let sa : a ≡ n = cc in
        let sb : b ≡ v = cc in
        absurd (found_no q (ap (λ j. hit front j v q) (sym sa) ∙ (ap (λ j. hit front a j q) (sym sb) ∙ leads_hit l)))
    own_turn y L' e i (hung {n = a} {v = b} {t = t} l z h) = (t, reaching l' new, unique)
      where
        sa : a ≡ n
        sa = cc

        sb : b ≡ v
        sb = cc

        l' : Leads (hit front n v) (links_of front) v (root n) (ended t)
        l' = subst (λ j. Leads (hit front j v) (links_of front) v (root j) (ended t)) sa (subst (λ j. Leads (hit front a j) (links_of front) j
            (root a) (ended t)) sb l)

        new : links_of ks t ≡ suc m₀
        new = stays_next t m₀ (ap (λ (f : Links). f t) (sym i) ∙ put_here (links_of front) t (suc m₀))

        unique : (s : Slot) → links_of ks s ≡ suc m₀ → s ≡ t
        unique s q =
            let count : length (front ++ (x₀ ∷ [])) ≡ m₀ + 1 = length-append front (x₀ ∷ []) in
            let was : links_of (front ++ (x₀ ∷ [])) s ≡ suc m₀ =
            links_was (front ++ (x₀ ∷ [])) back s m₀ (ap (λ k. links_of k s) (sym whole) ∙ q) (omega arith) in
            let empty : links_of front s ≡ 0 = links_not_yet front (x₀ ∷ back) s m₀ (ap (λ k. links_of k s) (sym is) ∙ q) (omega arith) in
            ⊎_elim (λ c. c.0) (λ c. absurd (omega (arith, empty, c.1)))
            (put_cases (links_of front) t s (suc m₀) (suc m₀) (ap (λ (f : Links). f s) i ∙ was))

    own_slot : Own
    own_slot = own_turn x₀ (links_of (front ++ (x₀ ∷ []))) refl refl (links_turn front x₀)

  own_at : (m n v : ℕ) → get_or ks m neither ≡ an_output n v →
      (t : Slot) × Reaches (hit ks n v) (links_of ks) m v (root n) t × ((s : Slot) → links_of ks s ≡ suc m → s ≡ t)
  own_at m n v e =
      let inside : m < length ks = hit_inside ks n v m (hit_own ks m n v e) in
      let count : length (take m ks) ≡ m = length-take-le m ks (omega arith) in
      let (t, r, u) = own_slot (take m ks) n v (drop (suc m) ks) (split_at ks m neither inside ∙
      ap (λ y. take m ks ++ (y ∷ drop (suc m) ks)) e) in
      (t, subst (λ j. Reaches (hit ks n v) (links_of ks) j v (root n) t) count r, λ s q. u s (q ∙ ap suc (sym count)))

  pub links_tested : Tested ks (links_of ks)
  unfolding sees_output
  links_tested = record {
    lower = low;
    own = λ m n v e. let (t, r, u) = own_at m n v e in (t, r);
    only = λ s q e. go s q e (get_or ks q neither) refl (sure_links ks s q e).output_there;
  }
    where
      go : (s : Slot) (q : ℕ) → links_of ks s ≡ suc q → (y : View) → get_or ks q neither ≡ y → sees_output (get_or ks q neither) ≡ true →
          (n : ℕ) × (v : ℕ) × (get_or ks q neither ≡ an_output n v) × Reaches (hit ks n v) (links_of ks) q v (root n) s
      go s q e a_node i o = absurd (false≢true (sym (ap sees_output i) ∙ o))
      go s q e neither i o = absurd (false≢true (sym (ap sees_output i) ∙ o))
      go s q e (an_output n v) i o =
          let (t, r, u) = own_at q n v i in
          (n, v, i, subst (Reaches (hit ks n v) (links_of ks) q v (root n)) (sym (u s e)) r)
