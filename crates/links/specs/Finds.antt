-- A walk over the links of records finds the first output of a node and value.
use Rattle.std.specs.Prelude.{◌≡◌, Bool, get_or}
use Rattle.std.proofs.Math.Path.{refl, ap}
use Rattle.std.proofs.Common.{sym, ◌∙◌, subst}
use Rattle.std.proofs.Math.Bool.{true, false}
use Rattle.std.proofs.lemmas.Bool.{false≢true}
use mathlib.Core.List.{List, [], ◌∷◌, ◌++◌}
use Prim.Native.Nat.{ℕ, suc, ◌%◌, ◌≤◌, ◌<◌}
use native.Mathlib.Omega.{arith}
use Rattle.std.proofs.Math.Dec.{eqb, ltb}
use Rattle.std.proofs.Math.ListN.{length, length-append, get_or-append, get_or-eq_default}
use Rattle.std.proofs.Math.Seq.{get_or-append_seam}
use borrow.Author.Tests.{eqb-true, eqb-false, ltb-true, ltb-false}
use Rattle.links.specs.Links.{View, a_node, an_output, neither, Slot, root, next, same_slot, Links, put, Way, found, ended, way, hit, hits, sees_node, links_of, links_from, none}
use Rattle.laws.specs.Records.Words.{both}
use Rattle.links.specs.Slots.{sees_output, stands, low}
use Rattle.links.specs.Walks.{Leads, ends, finds, goes, leads_one, Sure, output_inside, hit_inside, walk_leads, replay_found, replay}
use Rattle.links.specs.Turns.{snoc_ind, slot_self, slot_true, put_here, put_there, put_keeps, Turn, other, away, twice, hung, sure_links, links_turn, end_zero, new_empty}

-- each output's node is a node that stands before it
abbrev pub Lower : List View → Type 0
Lower ks = (q n v : ℕ) → get_or ks q neither ≡ an_output n v → (n < q) × (sees_node (get_or ks n neither) ≡ true)

-- the way leads to the first output v of node n, or there is none
unfoldable pub First : List View → ℕ → ℕ → Way → Type 0
unfolding hit
First ks n v (found q) = (hit ks n v q ≡ true) × ((i : ℕ) → i < q → hit ks n v i ≡ false)
First ks n v (ended s) = (i : ℕ) → hit ks n v i ≡ false

-- the test of a place, one record more
module _ (ks : List View) (x : View) (n v : ℕ) where
  pub hit_before : (i : ℕ) → i < length ks → hit (ks ++ (x ∷ [])) n v i ≡ hit ks n v i
  unfolding hit
  hit_before i h = ap (λ k. hits k n v) (get_or-append ks (x ∷ []) neither i h)

  pub hit_last : hit (ks ++ (x ∷ [])) n v (length ks) ≡ hits x n v
  unfolding hit
  hit_last = ap (λ k. hits k n v) (get_or-append_seam ks x [] neither)

  pub hit_none : hits x n v ≡ false → ((i : ℕ) → hit ks n v i ≡ false) → (i : ℕ) → hit (ks ++ (x ∷ [])) n v i ≡ false
  unfolding hit hits
  hit_none e h i = go (ltb i (length ks)) refl (eqb i (length ks)) refl
    where
      go : (b : Bool) → ltb i (length ks) ≡ b → (c : Bool) → eqb i (length ks) ≡ c → hit (ks ++ (x ∷ [])) n v i ≡ false
      go true p c q = hit_before i (ltb-true _ _ p) ∙ h i
      go false p true q = ap (hit (ks ++ (x ∷ [])) n v) (eqb-true _ _ q) ∙ (hit_last ∙ e)
      go false p false q =
          let past : length (ks ++ (x ∷ [])) ≤ i = omega (
            arith,
            ltb-false i (length ks) p,
            eqb-false i (length ks) q,
            length-append ks
                (x ∷ []),
          ) in
          ap (λ k. hits k n v) (get_or-eq_default (ks ++ (x ∷ [])) neither past)

pub hits_key : (m w n v : ℕ) → hits (an_output m w) n v ≡ true → (m ≡ n) × (w ≡ v)
unfolding hits
hits_key m w n v e =
    let (a, b) = both (eqb m n) (eqb w v) e in
    (eqb-true m n a, eqb-true w v b)

hits_output : (x : View) (n v : ℕ) → sees_output x ≡ false → hits x n v ≡ false
unfolding hits sees_output
hits_output a_node n v e = refl
hits_output (an_output m w) n v e = absurd (false≢true (sym e))
hits_output neither n v e = refl

-- for every node and value, where the walk leads
abbrev Found : List View → Links → Type 0
Found ks L = (n v : ℕ) → (r : Way) × (Leads (hit ks n v) L v (root n) r × First ks n v r)

first_more : (ks : List View) (x : View) (n v q : ℕ) → First ks n v (found q) → First (ks ++ (x ∷ [])) n v (found q)
unfolding First
first_more ks x n v q (h, none) =
    let low : q < length ks = hit_inside ks n v q h in
    (hit_before ks x n v q low ∙ h, λ i k. hit_before ks x n v i (omega arith) ∙ none i k)

-- links that stay: only what is new must not be looked for
module _ (ks : List View) (L : Links) (x : View) (sure : Sure ks L) (old : Found ks L) where
  kept : ((n v : ℕ) (s : Slot) → Leads (hit ks n v) L v (root n) (ended s) → hits x n v ≡ false) → Found (ks ++ (x ∷ [])) L
  unfolding First
  kept none n v = go (old n v)
    where
      carry : (s : Slot) (q : ℕ) → L s ≡ suc q → (L s ≡ suc q) × (hit (ks ++ (x ∷ [])) n v q ≡ hit ks n v q)
      carry s q e = (e, hit_before ks x n v q (output_inside ks q (sure s q e).output_there))

      go : (r : Way) × (Leads (hit ks n v) L v (root n) r × First ks n v r) →
          (r : Way) × (Leads (hit (ks ++ (x ∷ [])) n v) L v (root n) r × First (ks ++ (x ∷ [])) n v r)
      go (found q, (l, f)) = (found q, (replay_found (hit ks n v) (hit (ks ++ (x ∷ [])) n v) L L carry l, first_more ks x n v q f))
      go (ended s, (l, f)) =
          let (w, on) = replay (hit ks n v) (hit (ks ++ (x ∷ [])) n v) L L carry l in
          (ended s, (on (ended s) (ends (end_zero l)), hit_none ks x n v (none n v s l) f))

  -- a link that is put where the walk ended
  put_one : (m v : ℕ) (t : Slot) → x ≡ an_output m v → Leads (hit ks m v) L v (root m) (ended t) → L t ≡ 0 → stands ks t ≡ true →
      Found (ks ++ (x ∷ [])) (put L t (suc (length ks)))
  unfolding First low
  put_one m w t is l₀ z h n v = go (old n v)
    where
      K : List View
      K = ks ++ (x ∷ [])

      L' : Links
      L' = put L t (suc (length ks))

      carry : (s : Slot) (q : ℕ) → L s ≡ suc q → (L' s ≡ suc q) × (hit K n v q ≡ hit ks n v q)
      carry s q e = (put_keeps L t (suc (length ks)) z s q e, hit_before ks x n v q (output_inside ks q (sure s q e).output_there))

      here : (u : Slot) → same_slot u t ≡ true → L' u ≡ suc (length ks)
      here u e = ap L' (slot_true u t e) ∙ put_here L t (suc (length ks))

      -- a walk that ended elsewhere does not look for the new output
      elsewhere : (u : Slot) → Leads (hit ks n v) L v (root n) (ended u) → same_slot u t ≡ false → (b : Bool) → hits x n v ≡ b →
          hits x n v ≡ false
      elsewhere u l d false e = e
      elsewhere u l d true e =
          let (a, b) = hits_key m w n v (ap (λ k. hits k n v) (sym is) ∙ e) in
          let same : ended t ≡ ended u = leads_one (subst (λ i. Leads (hit ks i v) L v (root i) (ended t)) a (subst (λ i. Leads
          (hit ks m i) L i (root m) (ended t)) b l₀)) l in
          let slots : u ≡ t = cc in
          absurd (false≢true (sym d ∙ (ap (λ i. same_slot i t) slots ∙ slot_self t)))

      at : (u : Slot) → Leads (hit ks n v) L v (root n) (ended u) → First ks n v (ended u) →
          (b : Bool) → same_slot u t ≡ b → (c : Bool) → hits x n v ≡ c → (r : Way) × (Leads (hit K n v) L' v (root n) r × First K n v r)
      at u l f false e c i =
          let (w', on) = replay (hit ks n v) (hit K n v) L L' carry l in
          (ended u, (on (ended u) (ends (put_there L t u (suc (length ks)) e ∙ end_zero l)), hit_none ks x n v (elsewhere u l e c i) f))
      at u l f true e true i =
          let (w', on) = replay (hit ks n v) (hit K n v) L L' carry l in
          let new : hit K n v (length ks) ≡ true = hit_last ks x n v ∙ i in
          (found (length ks), (on (found (length ks)) (finds (here u e) new), (new, λ j k. hit_before ks x n v j k ∙ f j)))
      at u l f true e false i =
          let (w', on) = replay (hit ks n v) (hit K n v) L L' carry l in
          let s' : Slot = next (length ks) (w' % 4) in
          let new : hit K n v (length ks) ≡ false = hit_last ks x n v ∙ i in (
            ended s',
            (
              on (ended s') (goes (here u e) new (ends (new_empty ks L sure t (suc (length ks)) h s'
                  (omega arith)))),
              hit_none ks x n v i f,
            ),
          )

      go : (r : Way) × (Leads (hit ks n v) L v (root n) r × First ks n v r) → (r : Way) × (Leads (hit K n v) L' v (root n) r × First K n v r)
      go (found q, (l, f)) = (found q, (replay_found (hit ks n v) (hit K n v) L L' carry l, first_more ks x n v q f))
      go (ended u, (l, f)) = at u l f (same_slot u t) refl (hits x n v) refl

found_turn : (ks : List View) (L L' : Links) (x : View) → Sure ks L → Found ks L →
    ((m w : ℕ) → x ≡ an_output m w → sees_node (get_or ks m neither) ≡ true) → Turn ks L x L' → Found (ks ++ (x ∷ [])) L'
found_turn ks L L' x sure old node (other e) = kept ks L x sure old (λ n v s l. hits_output x n v e)
found_turn ks L L' x sure old node (away {n = m} {v = w} e) = absurd (false≢true (sym e ∙ node m w refl))
found_turn ks L L' x sure old node (twice {n = m} {v = w} {q = q} l) = kept ks L x sure old (λ n v s k. go n v s k (hits x n v) refl)
  where
    go : (n v : ℕ) (s : Slot) → Leads (hit ks n v) L v (root n) (ended s) → (b : Bool) → hits x n v ≡ b → hits x n v ≡ false
    go n v s k true e =
        let (a, b) = hits_key m w n v e in
        let same : found q ≡ ended s = leads_one (subst (λ i. Leads (hit ks i v) L v (root i) (found q)) a (subst (λ i. Leads
        (hit ks m i) L i (root m) (found q)) b l)) k in
        let z : ◌≡◌ {A = ℕ} 0 1 = cc in absurd (omega arith)
    go n v s k false e = e
found_turn ks L L' x sure old node (hung {n = m} {v = w} {t = t} l z h) = put_one ks L x sure old m w t refl l z h

-- with nodes before their outputs, every walk finds the first
pub lower_before : (ks : List View) (x : View) → Lower (ks ++ (x ∷ [])) → Lower ks
unfolding sees_node sees_output
lower_before ks x h q n v e =
    let low : q < length ks = output_inside ks q (ap sees_output e) in
    let (before, node) = h q n v (get_or-append ks (x ∷ []) neither q low ∙ e) in
    (before, ap sees_node (sym (get_or-append ks (x ∷ []) neither n (omega arith))) ∙ node)

pub lower_last : (ks : List View) (x : View) → Lower (ks ++ (x ∷ [])) → (n v : ℕ) → x ≡ an_output n v → sees_node (get_or ks n neither) ≡ true
lower_last ks x h n v e =
    let (before, node) = h (length ks) n v (get_or-append_seam ks x [] neither ∙ e) in
    ap sees_node (sym (get_or-append ks (x ∷ []) neither n before)) ∙ node

found_links : (ks : List View) → Lower ks → Found ks (links_of ks)
unfolding links_of links_from none First hit hits
found_links = snoc_ind (λ ks. Lower ks → Found ks (links_of ks))
    (λ low n v. (ended (root n), (ends refl, λ i. refl)))
    (λ ks x ih low. found_turn ks (links_of ks) (links_of (ks ++ (x ∷ []))) x (sure_links ks) (ih (lower_before ks x low)) (lower_last ks x low)
    (links_turn ks x))

-- the walk for output v of node n leads to the first
pub way_first : (ks : List View) → Lower ks → (n v : ℕ) → First ks n v (way ks (links_of ks) n v)
unfolding way
way_first ks low n v =
    let (r, (l, f)) = found_links ks low n v in
    subst (First ks n v) (leads_one l (walk_leads ks (hit ks n v) (links_of ks) (sure_links ks) (length ks) v (root n) (omega arith))) f
