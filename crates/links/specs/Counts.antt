-- As many links as outputs: then no link is left over.
use Rattle.std.specs.Prelude.{◌≡◌, Bool, true, false, cond, ◌≢◌, eqb}
use Rattle.std.proofs.Math.Path.{refl, sym, ap}
use Rattle.std.proofs.Common.{◌∙◌, subst, eqb-true, ltb-true}
use Rattle.std.proofs.lemmas.Bool.{false≢true, eqb-false}
use mathlib.Core.List.{List, [], ◌∷◌, ◌++◌, append_assoc}
use Prim.Native.Nat.{ℕ, zero, suc, ◌+◌, ◌≤◌, ◌<◌}
use native.Mathlib.Omega.{arith}
use Rattle.std.proofs.Math.ListN.{length, length-append, get_or}
use Rattle.std.proofs.Math.Seq.{get_or-append_seam}
use Rattle.links.specs.Links.{View, a_node, an_output, neither, Slot, root, next, same_slot, Links, put, hit, sees_node, links_of}
use Rattle.links.specs.Slots.{sees_output, stands, has, owner, low}
use Rattle.links.specs.Walks.{Sure}
use Rattle.links.specs.Turns.{snoc_ind, slot_true, slot_self, put_there, Turn, other, away, twice, hung, sure_links, links_turn, next_empty, new_empty}
use Rattle.links.specs.Finds.{Lower}
use Rattle.links.specs.Tested.{Reaches, here, on, Tested, Distinct, links_tested}

-- a number of each slot that has a word, from place p on, added up
unfoldable pub sum : (Slot → ℕ) → ℕ → List View → ℕ
sum f p [] = 0
sum f p (a_node ∷ ks) = f (root p) + sum f (suc p) ks
sum f p (an_output n v ∷ ks) = f (next p 0) + (f (next p 1) + (f (next p 2) + (f (next p 3) + sum f (suc p) ks)))
sum f p (neither ∷ ks) = sum f (suc p) ks

-- 1 for a link
unfoldable pub some : ℕ → ℕ
some zero = 0
some (suc x) = 1

-- how many links there are
unfoldable pub link_count : Links → List View → ℕ
unfolding sum some
link_count M ks = sum (λ s. some (M s)) 0 ks

-- how many outputs
unfoldable pub outs : List View → ℕ
outs [] = 0
outs (a_node ∷ ks) = outs ks
outs (an_output n v ∷ ks) = suc (outs ks)
outs (neither ∷ ks) = outs ks

-- 1 at slot t
unfoldable pub at : Slot → Slot → ℕ
at t s = cond (same_slot s t) 1 0

sum_le : (f g : Slot → ℕ) → ((s : Slot) → f s ≤ g s) → (p : ℕ) (ks : List View) → sum f p ks ≤ sum g p ks
unfolding sum
sum_le f g h p [] = omega arith
sum_le f g h p (a_node ∷ ks) = omega (arith, h (root p), sum_le f g h (suc p) ks)
sum_le f g h p (an_output n v ∷ ks) = omega (arith, h (next p 0), h (next p 1), h (next p 2), h (next p 3), sum_le f g h (suc p) ks)
sum_le f g h p (neither ∷ ks) = sum_le f g h (suc p) ks

sum_add : (f g : Slot → ℕ) (p : ℕ) (ks : List View) → sum (λ s. f s + g s) p ks ≡ sum f p ks + sum g p ks
unfolding sum
sum_add f g p [] = refl
sum_add f g p (a_node ∷ ks) = omega (arith, sum_add f g (suc p) ks)
sum_add f g p (an_output n v ∷ ks) = omega (arith, sum_add f g (suc p) ks)
sum_add f g p (neither ∷ ks) = sum_add f g (suc p) ks

-- what one record counts
unfoldable pub part : (Slot → ℕ) → ℕ → View → ℕ
part f p a_node = f (root p)
part f p (an_output n v) = f (next p 0) + (f (next p 1) + (f (next p 2) + f (next p 3)))
part f p neither = 0

pub sum_cons : (f : Slot → ℕ) (p : ℕ) (x : View) (ks : List View) → sum f p (x ∷ ks) ≡ part f p x + sum f (suc p) ks
unfolding sum part
sum_cons f p a_node ks = refl
sum_cons f p (an_output n v) ks = omega arith
sum_cons f p neither ks = omega arith

-- each slot that has a word is counted
sum_has : (f : Slot → ℕ) (p i : ℕ) (ks : List View) (t : Slot) → owner t ≡ p + i → has (get_or ks i neither) t ≡ true → f t ≤ sum f p ks
unfolding sum has owner sees_node sees_output
sum_has f p i [] (root q) e h = absurd (false≢true h)
sum_has f p i [] (next q k) e h = absurd (false≢true h)
sum_has f p zero (a_node ∷ ks) (root q) e h =
    let same : q ≡ p = omega (arith, e) in
    omega (arith, ap (λ j. f (root j)) same)
sum_has f p zero (a_node ∷ ks) (next q k) e h = absurd (false≢true h)
sum_has f p zero (an_output n v ∷ ks) (root q) e h = absurd (false≢true h)
sum_has f p zero (an_output n v ∷ ks) (next q k) e h =
    let same : q ≡ p = omega (arith, e) in
    go k (ltb-true k 4 h) (ap (λ j. f (next j k)) same)
  where
    go : (k : ℕ) → k < 4 → f (next q k) ≡ f (next p k) → f (next q k) ≤ f (next p 0) + (f (next p 1) + (f (next p 2) + (f (next p 3) + sum f (suc p) ks)))
    go zero i e = omega (arith, e)
    go (suc zero) i e = omega (arith, e)
    go (suc (suc zero)) i e = omega (arith, e)
    go (suc (suc (suc zero))) i e = omega (arith, e)
    go (suc (suc (suc (suc k)))) i e = absurd (omega arith)
sum_has f p zero (neither ∷ ks) (root q) e h = absurd (false≢true h)
sum_has f p zero (neither ∷ ks) (next q k) e h = absurd (false≢true h)
sum_has f p (suc i) (a_node ∷ ks) t e h = omega (arith, sum_has f (suc p) i ks t (omega (arith, e)) h)
sum_has f p (suc i) (an_output n v ∷ ks) t e h = omega (arith, sum_has f (suc p) i ks t (omega (arith, e)) h)
sum_has f p (suc i) (neither ∷ ks) t e h = sum_has f (suc p) i ks t (omega (arith, e)) h

sum_stands : (f : Slot → ℕ) (ks : List View) (t : Slot) → stands ks t ≡ true → f t ≤ sum f 0 ks
unfolding stands
sum_stands f ks t h = sum_has f 0 (owner t) ks t (omega arith) h

-- slot t is counted at most once
at_place : (t s : Slot) → owner s ≢ owner t → at t s ≡ 0
unfolding at
at_place t s h = go (same_slot s t) refl
  where
    go : (b : Bool) → same_slot s t ≡ b → ◌≡◌ {A = ℕ} (cond b 1 0) 0
    go true e = absurd (h (ap owner (slot_true s t e)))
    go false e = refl

at_past : (t : Slot) (p : ℕ) (ks : List View) → owner t < p → sum (at t) p ks ≡ 0
unfolding sum owner
at_past t p [] h = refl
at_past t p (a_node ∷ ks) h = omega (arith, at_place t (root p) (omega arith), at_past t (suc p) ks (omega arith))
at_past t p (an_output n v ∷ ks) h = omega (
  arith,
  at_place t (next p 0) (omega arith),
  at_place t (next p 1) (omega arith),
  at_place t (next p 2) (omega arith),
  at_place t (next p 3) (omega arith),
  at_past t (suc p) ks (omega arith),
)
at_past t p (neither ∷ ks) h = at_past t (suc p) ks (omega arith)

at_one : (t s : Slot) → at t s ≤ 1
unfolding at
at_one t s = go (same_slot s t)
  where
    go : (b : Bool) → cond b 1 0 ≤ 1
    go true = omega arith
    go false = omega arith

at_other : (t s u : Slot) → s ≢ u → at t s + at t u ≤ 1
unfolding at
at_other t s u ne = go (same_slot s t) refl (same_slot u t) refl
  where
    go : (b : Bool) → same_slot s t ≡ b → (c : Bool) → same_slot u t ≡ c → cond b 1 0 + cond c 1 0 ≤ 1
    go true e true f = absurd (ne (slot_true s t e ∙ sym (slot_true u t f)))
    go true e false f = omega arith
    go false e c f = one c
      where
        one : (c : Bool) → 0 + cond c 1 0 ≤ 1
        one true = omega arith
        one false = omega arith

ways_differ : (p j k : ℕ) → j ≢ k → next p j ≢ next p k
ways_differ p j k h e = let same : j ≡ k = cc in h same

at_four : (t : Slot) (p : ℕ) → at t (next p 0) + (at t (next p 1) + (at t (next p 2) + at t (next p 3))) ≤ 1
at_four t p =
    let d : (j k : ℕ) → j ≢ k → at t (next p j) + at t (next p k) ≤ 1 = λ j k h. at_other t (next p j) (next p k) (ways_differ p j k h) in
    omega (arith, d 0 1 (omega arith), d 0 2 (omega arith), d 0 3 (omega arith), d 1 2 (omega arith), d 1 3 (omega arith), d 2 3 (omega arith))

at_once : (t : Slot) (p : ℕ) (ks : List View) → sum (at t) p ks ≤ 1
unfolding sum owner
at_once t p [] = omega arith
at_once t p (x ∷ ks) = go x (eqb p (owner t)) refl (at_once t (suc p) ks)
  where
    go : (x : View) (b : Bool) → eqb p (owner t) ≡ b → sum (at t) (suc p) ks ≤ 1 → sum (at t) p (x ∷ ks) ≤ 1
    go a_node true e ih =
        let last : sum (at t) (suc p) ks ≡ 0 = at_past t (suc p) ks (omega (arith, eqb-true p (owner t) e)) in
        omega (arith, at_one t (root p))
    go a_node false e ih =
        let ne : p ≢ owner t = eqb-false p (owner t) e in
        omega (arith, at_place t (root p) ne)
    go (an_output n v) true e ih =
        let last : sum (at t) (suc p) ks ≡ 0 = at_past t (suc p) ks (omega (arith, eqb-true p (owner t) e)) in
        omega (arith, at_four t p)
    go (an_output n v) false e ih =
        let ne : p ≢ owner t = eqb-false p (owner t) e in
        omega (arith, at_place t (next p 0) ne, at_place t (next p 1) ne, at_place t (next p 2) ne, at_place t (next p 3) ne)
    go neither b e ih = ih

-- there are no more links than outputs
sum_append : (f : Slot → ℕ) (p : ℕ) (ks xs : List View) → sum f p (ks ++ xs) ≡ sum f p ks + sum f (p + length ks) xs
unfolding sum
sum_append f p [] xs = let z : p ≡ p + 0 = omega arith in ap (λ k. sum f k xs) z ∙ omega arith
sum_append f p (a_node ∷ ks) xs =
    let z : suc p + length ks ≡ p + suc (length ks) = omega arith in
    omega (arith, sum_append f (suc p) ks xs, ap (λ k. sum f k xs) z)
sum_append f p (an_output n v ∷ ks) xs =
    let z : suc p + length ks ≡ p + suc (length ks) = omega arith in
    omega (arith, sum_append f (suc p) ks xs, ap (λ k. sum f k xs) z)
sum_append f p (neither ∷ ks) xs =
    let z : suc p + length ks ≡ p + suc (length ks) = omega arith in
    sum_append f (suc p) ks xs ∙ ap (λ k. sum f (suc p) ks + sum f k xs) z

outs_append : (ks xs : List View) → outs (ks ++ xs) ≡ outs ks + outs xs
unfolding outs
outs_append [] xs = omega arith
outs_append (a_node ∷ ks) xs = outs_append ks xs
outs_append (an_output n v ∷ ks) xs = omega (arith, outs_append ks xs)
outs_append (neither ∷ ks) xs = outs_append ks xs

sum_new : (L : Links) (x : View) (p : ℕ) → ((s : Slot) → owner s ≡ p → L s ≡ 0) → sum (λ s. some (L s)) p (x ∷ []) ≡ 0
unfolding sum owner some
sum_new L a_node p h = omega (arith, ap some (h (root p) refl))
sum_new L (an_output n v) p h =
    omega (arith, ap some (h (next p 0) refl), ap some (h (next p 1) refl), ap some (h (next p 2) refl), ap some (h (next p 3) refl))
sum_new L neither p h = refl

some_one : (x : ℕ) → some x ≤ 1
unfolding some
some_one zero = omega arith
some_one (suc x) = omega arith

some_put : (L : Links) (t : Slot) (y : ℕ) (s : Slot) → some (put L t y s) ≤ some (L s) + at t s
unfolding at
some_put L t y s = go (same_slot s t) refl
  where
    go : (b : Bool) → same_slot s t ≡ b → some (put L t y s) ≤ some (L s) + cond b 1 0
    go true e = omega (arith, some_one (put L t y s))
    go false e = omega (arith, ap some (put_there L t s y e))

count_more : (ks : List View) (L : Links) (x : View) → ((s : Slot) → owner s ≡ length ks → L s ≡ 0) → link_count L ks ≤ outs ks + outs (x ∷ []) →
    link_count L (ks ++ (x ∷ [])) ≤ outs (ks ++ (x ∷ []))
unfolding link_count
count_more ks L x h few =
    let z : 0 + length ks ≡ length ks = omega arith in
    omega (arith, few, outs_append ks (x ∷ []), sum_append (λ s. some (L s)) 0 ks (x ∷ []), sum_new L x (0 + length ks) (λ s e. h s (e ∙ z)))

turn_count : (ks : List View) (L L' : Links) (x : View) → Sure ks L → Turn ks L x L' → link_count L ks ≤ outs ks →
    link_count L' (ks ++ (x ∷ [])) ≤ outs (ks ++ (x ∷ []))
unfolding link_count low outs
turn_count ks L L' x sure (other e) h = count_more ks L x (λ s i. next_empty ks L sure s (omega (arith, i))) (omega (arith, h))
turn_count ks L L' x sure (away e) h = count_more ks L x (λ s i. next_empty ks L sure s (omega (arith, i))) (omega (arith, h))
turn_count ks L L' x sure (twice l) h = count_more ks L x (λ s i. next_empty ks L sure s (omega (arith, i))) (omega (arith, h))
turn_count ks L L' x sure (hung {t = t} l z i) h =
    count_more ks L' x (λ s e. new_empty ks L sure t (suc (length ks)) i s (omega (arith, e)))
    (omega (
      arith,
      h,
      sum_le (λ s. some (put L t (suc (length ks)) s)) (λ s. some (L s) + at t s) (some_put L t (suc (length ks))) 0 ks,
      sum_add (λ s. some (L s)) (at t) 0 ks,
      at_once t 0 ks,
    ))

pub count_most : (ks : List View) → link_count (links_of ks) ks ≤ outs ks
unfolding link_count sum outs
count_most = snoc_ind (λ ks. link_count (links_of ks) ks ≤ outs ks) (omega arith)
    (λ ks x h. turn_count ks (links_of ks) (links_of (ks ++ (x ∷ []))) x (sure_links ks) (links_turn ks x) h)

-- links stand at slots that have words
pub links_within : (ks : List View) (s : Slot) → stands ks s ≡ false → links_of ks s ≡ 0
links_within ks s h = go (links_of ks s) refl
  where
    go : (x : ℕ) → links_of ks s ≡ x → links_of ks s ≡ 0
    go zero e = e
    go (suc q) e = absurd (false≢true (sym h ∙ (sure_links ks s q e).slot_there))

-- the slots at which outputs stand are as many, so where there are no more links there is no other
module _ (ks : List View) (M : Links) (lower : Lower ks)
    (own : (m n v : ℕ) → get_or ks m neither ≡ an_output n v → (t : Slot) × Reaches (hit ks n v) M m v (root n) t)
    (within : (s : Slot) → stands ks s ≡ false → M s ≡ 0) where
  -- u is the slot of an output from place p on
  record Owned (p : ℕ) (u : Slot) : Type 0 where
    m : ℕ
    n : ℕ
    v : ℕ
    after : p ≤ m
    linked : M u ≡ suc m
    there : get_or ks m neither ≡ an_output n v
    reached : Reaches (hit ks n v) M m v (root n) u

  -- slots marked for the outputs of a part
  record Marked (p : ℕ) (part : List View) : Type 0 where
    mark : Slot → ℕ
    enough : outs part ≤ sum mark 0 ks
    meant : (u : Slot) → 1 ≤ mark u → Owned p u
    once : (u : Slot) → mark u ≤ 1

  reach_link : {is : ℕ → Bool} {m w : ℕ} {s t : Slot} → Reaches is M m w s t → M t ≡ suc m
  reach_link (here a) = a
  reach_link (on a lt f r) = reach_link r

  linked_stands : (s : Slot) (q : ℕ) → M s ≡ suc q → stands ks s ≡ true
  linked_stands s q e = go (stands ks s) refl
    where
      go : (b : Bool) → stands ks s ≡ b → stands ks s ≡ true
      go true i = i
      go false i = absurd (omega (arith, e, within s i))

  later : (p : ℕ) (u : Slot) → Owned (suc p) u → Owned p u
  later p u o = record {
    m = o.m;
    n = o.n;
    v = o.v;
    after = omega
        (arith, o.after);
    linked = o.linked;
    there = o.there;
    reached = o.reached;
  }

  mark_more : (p : ℕ) (x : View) (part : List View) → get_or ks p neither ≡ x → Marked (suc p) part → Marked p (x ∷ part)
  unfolding outs at
  mark_more p a_node part e h = record { mark = h.mark; enough = h.enough; meant = λ u i. later p u (h.meant u i); once = h.once }
  mark_more p neither part e h = record { mark = h.mark; enough = h.enough; meant = λ u i. later p u (h.meant u i); once = h.once }
  mark_more p (an_output n v) part e h = record {
    mark = λ u. at t u + h.mark u;
    enough = omega (arith, h.enough, sum_add (at t) h.mark 0 ks, sum_stands (at t) ks t (linked_stands t p (reach_link r)), here_one);
    meant = λ u i. meant_at u i (same_slot u t) refl;
    once = λ u. once_at u (same_slot u t) refl;
  }
    where
      t : Slot
      t = (own p n v e).0

      r : Reaches (hit ks n v) M p v (root n) t
      r = (own p n v e).1

      here_one : at t t ≡ 1
      here_one = ap (λ b. cond b 1 0) (slot_self t)

      meant_at : (u : Slot) → 1 ≤ at t u + h.mark u → (b : Bool) → same_slot u t ≡ b → Owned p u
      meant_at u i true q = subst (Owned p) (sym (slot_true u t q))
          (record { m = p; n = n; v = v; after = omega arith; linked = reach_link r; there = e; reached = r })
      meant_at u i false q =
          let none : at t u ≡ 0 = ap (λ b. cond b 1 0) q in
          later p u (h.meant u (omega (arith, i)))

      once_at : (u : Slot) (b : Bool) → same_slot u t ≡ b → at t u + h.mark u ≤ 1
      once_at u true q = go (h.mark u) refl
        where
          go : (k : ℕ) → h.mark u ≡ k → at t u + h.mark u ≤ 1
          go zero i = omega (arith, i, at_one t u)
          go (suc k) i =
              let o : Owned (suc p) u = h.meant u (omega (arith, i)) in
              absurd (omega (arith, o.after, o.linked, ap M (slot_true u t q), reach_link r))
      once_at u false q =
          let none : at t u ≡ 0 = ap (λ b. cond b 1 0) q in
          omega (arith, h.once u)

  marked : (front part : List View) → ks ≡ front ++ part → Marked (length front) part
  unfolding outs
  marked front [] e = record { mark = λ u. 0; enough = omega arith; meant = λ u h. absurd (omega (arith, h)); once = λ u. omega arith }
  marked front (x ∷ part) e =
      let count : length (front ++ (x ∷ [])) ≡ suc (length front) = length-append front (x ∷ []) ∙ omega arith in
      mark_more (length front) x part (ap (λ k. get_or k (length front) neither) e ∙ get_or-append_seam front x part neither)
      (subst (λ k. Marked k part) count (marked (front ++ (x ∷ [])) part (e ∙ sym (append_assoc front (x ∷ []) part))))

  all_marked : Marked 0 ks
  all_marked = marked [] ks refl

  -- a marked slot has a link
  mark_linked : (u : Slot) → all_marked.mark u ≤ some (M u)
  unfolding some
  mark_linked u = go (all_marked.mark u) refl
    where
      go : (k : ℕ) → all_marked.mark u ≡ k → all_marked.mark u ≤ some (M u)
      go zero e = omega (arith, e)
      go (suc k) e =
          let o : Owned 0 u = all_marked.meant u (omega (arith, e)) in
          omega (arith, all_marked.once u, ap some o.linked)

  -- there are at least as many links as outputs
  pub count_least : outs ks ≤ link_count M ks
  unfolding link_count
  count_least = omega (arith, all_marked.enough, sum_le all_marked.mark (λ u. some (M u)) mark_linked 0 ks)

  owned : link_count M ks ≤ outs ks → (s : Slot) (q : ℕ) → M s ≡ suc q → Owned 0 s
  unfolding link_count at some
  owned few s q e = go (all_marked.mark s) refl
    where
      f : Slot → ℕ
      f u = all_marked.mark u + at s u

      fits : all_marked.mark s ≡ 0 → (u : Slot) (b : Bool) → same_slot u s ≡ b → f u ≤ some (M u)
      fits z u true i =
          let same : u ≡ s = slot_true u s i in
          omega (arith, at_one s u, ap all_marked.mark same, z, ap (λ j. some (M j)) same, ap some e)
      fits z u false i =
          let none : at s u ≡ 0 = ap (λ b. cond b 1 0) i in
          omega (arith, mark_linked u)

      go : (k : ℕ) → all_marked.mark s ≡ k → Owned 0 s
      go zero z =
          let one : at s s ≡ 1 = ap (λ b. cond b 1 0) (slot_self s) in
          absurd (omega (
            arith,
            few,
            all_marked.enough,
            sum_add all_marked.mark (at s) 0 ks,
            sum_le f (λ u. some (M u)) (λ u. fits z u (same_slot u s) refl) 0 ks,
            sum_stands (at s) ks s (linked_stands s q e),
          ))
      go (suc k) z = all_marked.meant s (omega (arith, z))

  -- nodes before their outputs, each output's walk ends at itself, and no more links than outputs
  pub counted_tested : link_count M ks ≤ outs ks → Tested ks M
  counted_tested few = record { lower = lower; own = own; only = λ s q e. go s q e (owned few s q e) }
    where
      go : (s : Slot) (q : ℕ) → M s ≡ suc q → Owned 0 s →
          (n : ℕ) × (v : ℕ) × (get_or ks q neither ≡ an_output n v) × Reaches (hit ks n v) M q v (root n) s
      go s q e o =
          let same : o.m ≡ q = omega (arith, e, o.linked) in (
            o.n,
            o.v,
            subst (λ i. get_or ks i neither ≡ an_output o.n o.v) same o.there,
            subst (λ i. Reaches (hit ks o.n o.v) M i o.v (root o.n) s) same o.reached,
          )

-- and distinct outputs have as many links
pub links_count : (ks : List View) → Lower ks → Distinct ks → link_count (links_of ks) ks ≡ outs ks
links_count ks low distinct =
    let least : outs ks ≤ link_count (links_of ks) ks = count_least ks (links_of ks) low (links_tested ks low distinct).own (links_within ks) in
    omega (arith, count_most ks)
