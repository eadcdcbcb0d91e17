-- Six steps are enough for values below 1,024: after five digits two outputs that share the way are one.
use Rattle.std.specs.Prelude.{◌≡◌, ◌≢◌, Bool, true, cond, List, [], ◌∷◌, ◌++◌, eqb}
use Rattle.std.proofs.Math.Path.{refl, sym, ap, subst}
use Rattle.std.proofs.Common.{◌∙◌, arith, eq-eqb, ne_eqb}
use Rattle.std.proofs.Math.Logic.{⊎_elim}
use Rattle.std.proofs.Math.Bool.{false≢true}
use Prim.Native.Nat.{ℕ, zero, suc, ◌+◌, ◌/◌, ◌%◌, ◌≤◌, ◌<◌}
use Rattle.std.proofs.Math.ListN.{length, length-append, get_or, get_or-append}
use Rattle.std.proofs.Math.Seq.{get_or-append_seam}
use Rattle.links.specs.Links.{View, an_output, neither, Slot, root, next, Links, none, put, Way, ended, walk, way, hit, links_of, links_from}
use Rattle.links.specs.Slots.{stands, owner, low}
use Rattle.links.specs.Walks.{Leads, ends, finds, goes, Sure, walk_leads, output_inside, stands_low}
use Rattle.links.specs.Turns.{snoc_ind, put_cases, Turn, other, away, twice, hung, sure_links, links_turn}
use Rattle.links.specs.Tested.{hit_own}

-- the digits of v begin with these, the lowest first
abbrev pub Follows : List ℕ → ℕ → Type 0
Follows [] v = Unit {0}
Follows (k ∷ ds) v = (v % 4 ≡ k) × Follows ds (v / 4)

-- v without its first digits
unfoldable pub after : List ℕ → ℕ → ℕ
after [] v = v
after (k ∷ ds) v = after ds (v / 4)

follows_more : (ds : List ℕ) (v : ℕ) → Follows ds v → Follows (ds ++ (after ds v % 4 ∷ [])) v
unfolding after
follows_more [] v h = (refl, tt)
follows_more (k ∷ ds) v h = (h.0, follows_more ds (v / 4) h.1)

after_more : (ds : List ℕ) (k v : ℕ) → after (ds ++ (k ∷ [])) v ≡ after ds v / 4
unfolding after
after_more [] k v = refl
after_more (d ∷ ds) k v = after_more ds k (v / 4)

-- the way to a slot: from which node, by which digits
pub record Trail : Type 0 where
  pub from : ℕ
  pub digits : List ℕ

further : Trail → ℕ → Trail
further t k = record { from = t.from; digits = t.digits ++ (k ∷ []) }

-- ways to all slots that agree with the links, and outputs that follow their ways
record Ways (ks : List View) (L : Links) : Type 0 where
  to : Slot → Trail
  to_root : (n : ℕ) → to (root n) ≡ record { from = n; digits = [] }
  to_next : (s : Slot) (q k : ℕ) → L s ≡ suc q → to (next q k) ≡ further (to s) k
  follow : (s : Slot) (q : ℕ) → L s ≡ suc q → (v : ℕ) × (get_or ks q neither ≡ an_output (to s).from v) × Follows (to s).digits v

-- a walk keeps to its way
module _ (ks : List View) (L : Links) (ways : Ways ks L) (is : ℕ → Bool) (n v : ℕ) where
  -- the slot is on the way of v from n, and w is what is left of v
  record OnWay (w : ℕ) (s : Slot) : Type 0 where
    from_is : (ways.to s).from ≡ n
    follows : Follows (ways.to s).digits v
    left : after (ways.to s).digits v ≡ w

  on_root : OnWay v (root n)
  unfolding after
  on_root = record {
    from_is = ap (λ (t : Trail). t.from) (ways.to_root n);
    follows = subst (λ (t : Trail). Follows t.digits v) (sym (ways.to_root n)) tt;
    left = ap (λ (t : Trail). after t.digits v) (ways.to_root n);
  }

  on_next : (w q : ℕ) (s : Slot) → L s ≡ suc q → OnWay w s → OnWay (w / 4) (next q (w % 4))
  unfolding further
  on_next w q s e o =
      let is : ways.to (next q (w % 4)) ≡ further (ways.to s) (w % 4) = ways.to_next s q (w % 4) e in
      record {
        from_is = ap (λ (t : Trail). t.from) is ∙ o.from_is;
        follows = subst (λ (t : Trail). Follows t.digits v) (sym is)
            (subst (λ k. Follows ((ways.to s).digits ++ (k ∷ [])) v) (ap (λ k. k % 4) o.left) (follows_more (ways.to s).digits v
            o.follows));
        left = ap (λ (t : Trail). after t.digits v) is ∙ (after_more (ways.to s).digits (w % 4) v ∙ ap (λ k. k / 4) o.left);
      }

  on_end : {w : ℕ} {s t : Slot} → Leads is L w s (ended t) → OnWay w s → (w' : ℕ) × OnWay w' t
  on_end {w = w} (ends e) o = (w, o)
  on_end {w = w} {s = s} (goes {q = q} e i l) o = on_end l (on_next w q s e o)

-- the ways with those from the output at p, which stands at slot t
ways_with : (Slot → Trail) → ℕ → Slot → Slot → Trail
ways_with to p t (root n) = to (root n)
ways_with to p t (next q k) = cond (eqb q p) (further (to t) k) (to (next q k))

with_before : (to : Slot → Trail) (p : ℕ) (t s : Slot) → owner s < p → ways_with to p t s ≡ to s
unfolding ways_with owner
with_before to p t (root n) h = refl
with_before to p t (next q k) h = ap (λ b. cond b (further (to t) k) (to (next q k))) (ne_eqb q p (omega (arith, h)))

with_last : (to : Slot → Trail) (p : ℕ) (t : Slot) (k : ℕ) → ways_with to p t (next p k) ≡ further (to t) k
unfolding ways_with
with_last to p t k = ap (λ b. cond b (further (to t) k) (to (next p k))) (eq-eqb p p refl)

module _ (ks : List View) (L : Links) (sure : Sure ks L) (ways : Ways ks L) (x : View) where
  follow_more : (s : Slot) (q : ℕ) → L s ≡ suc q →
      (v : ℕ) × (get_or (ks ++ (x ∷ [])) q neither ≡ an_output (ways.to s).from v) × Follows (ways.to s).digits v
  follow_more s q e =
      let (v, there, f) = ways.follow s q e in
      (v, get_or-append ks (x ∷ []) neither q (output_inside ks q (sure s q e).output_there) ∙ there, f)

  ways_kept : Ways (ks ++ (x ∷ [])) L
  ways_kept = record { to = ways.to; to_root = ways.to_root; to_next = ways.to_next; follow = follow_more }

  ways_hung : (n v : ℕ) (t : Slot) → x ≡ an_output n v → Leads (hit ks n v) L v (root n) (ended t) → stands ks t ≡ true →
      Ways (ks ++ (x ∷ [])) (put L t (suc (length ks)))
  unfolding low owner ways_with
  ways_hung n v t is l h = record {
    to = to';
    to_root = λ m. with_before_root m ∙ ways.to_root m;
    to_next = λ s q k e. ⊎_elim (λ c. next_new s q k c.0 c.1) (λ c. next_old s q k c.1) (put_cases L t s (suc (length ks)) (suc q) e);
    follow = λ s q e. ⊎_elim (λ c. follow_new s q c.0 c.1) (λ c. follow_old s q c.1) (put_cases L t s (suc (length ks)) (suc q) e);
  }
    where
      to' : Slot → Trail
      to' = ways_with ways.to (length ks) t

      before : (s : Slot) → stands ks s ≡ true → to' s ≡ ways.to s
      before s i = with_before ways.to (length ks) t s (stands_low ks s i)

      with_before_root : (m : ℕ) → to' (root m) ≡ ways.to (root m)
      with_before_root m = refl

      next_new : (s : Slot) (q k : ℕ) → s ≡ t → suc q ≡ suc (length ks) → to' (next q k) ≡ further (to' s) k
      next_new s q k a b =
          let last : q ≡ length ks = omega (arith, b) in
          ap (λ j. to' (next j k)) last ∙ (with_last ways.to (length ks) t k ∙ ap (λ j. further j k) (sym (ap to' a ∙ before t h)))

      next_old : (s : Slot) (q k : ℕ) → L s ≡ suc q → to' (next q k) ≡ further (to' s) k
      next_old s q k e =
          with_before ways.to (length ks) t (next q k) (output_inside ks q (sure s q e).output_there) ∙
          (ways.to_next s q k e ∙ ap (λ j. further j k) (sym (before s (sure s q e).slot_there)))

      end : (w : ℕ) × OnWay ks L ways (hit ks n v) n v w t
      end = on_end ks L ways (hit ks n v) n v l (on_root ks L ways (hit ks n v) n v)

      follow_new : (s : Slot) (q : ℕ) → s ≡ t → suc q ≡ suc (length ks) →
          (u : ℕ) × (get_or (ks ++ (x ∷ [])) q neither ≡ an_output (to' s).from u) × Follows (to' s).digits u
      follow_new s q a b =
          let last : q ≡ length ks = omega (arith, b) in
          let way : to' s ≡ ways.to t = ap to' a ∙ before t h in (
            v,
            ap (λ j. get_or (ks ++ (x ∷ [])) j neither) last ∙ (get_or-append_seam ks x [] neither ∙ (is ∙
                ap (λ j. an_output j v) (sym (ap (λ (j : Trail). j.from) way ∙ end.1.from_is)))),
            subst (λ (j : Trail). Follows j.digits v) (sym way) end.1.follows,
          )

      follow_old : (s : Slot) (q : ℕ) → L s ≡ suc q → (u : ℕ) × (get_or (ks ++ (x ∷ [])) q neither ≡ an_output (to' s).from u) × Follows (to' s).digits u
      follow_old s q e = subst (λ (j : Trail). (u : ℕ) × (get_or (ks ++ (x ∷ [])) q neither ≡ an_output j.from u) × Follows j.digits u)
          (sym (before s (sure s q e).slot_there)) (follow_more s q e)

ways_turn : (ks : List View) (L L' : Links) (x : View) → Sure ks L → Ways ks L → Turn ks L x L' → Ways (ks ++ (x ∷ [])) L'
ways_turn ks L L' x sure w (other e) = ways_kept ks L sure w x
ways_turn ks L L' x sure w (away e) = ways_kept ks L sure w x
ways_turn ks L L' x sure w (twice l) = ways_kept ks L sure w x
ways_turn ks L L' x sure w (hung {n = n} {v = v} {t = t} l z h) = ways_hung ks L sure w x n v t refl l h

first_ways : Slot → Trail
first_ways (root n) = record { from = n; digits = [] }
first_ways (next p k) = record { from = 0; digits = [] }

ways_links : (ks : List View) → Ways ks (links_of ks)
unfolding links_of links_from none first_ways
ways_links = snoc_ind (λ ks. Ways ks (links_of ks))
    (record {
      to = first_ways;
      to_root = λ n. refl;
      to_next = λ s q k e. absurd (omega (arith, e));
      follow = λ s q e. absurd (omega
          (arith, e));
    })
    (λ ks x h. ways_turn ks (links_of ks) (links_of (ks ++ (x ∷ []))) x (sure_links ks) h (links_turn ks x))

-- five digits tell values below 1,024 apart
same_value : (ds : List ℕ) (u v : ℕ) → Follows ds u → Follows ds v → after ds u ≡ after ds v → u ≡ v
unfolding after
same_value [] u v f g e = e
same_value (k ∷ ds) u v f g e =
    let high : u / 4 ≡ v / 4 = same_value ds (u / 4) (v / 4) f.1 g.1 e in
    omega (arith, f.0, g.0)

none_left : (ds : List ℕ) (v : ℕ) → length ds ≡ 5 → v < 1024 → after ds v ≡ 0
unfolding after
none_left [] v e h = absurd (omega arith)
none_left (a ∷ []) v e h = absurd (omega arith)
none_left (a ∷ b ∷ []) v e h = absurd (omega arith)
none_left (a ∷ b ∷ c ∷ []) v e h = absurd (omega arith)
none_left (a ∷ b ∷ c ∷ d ∷ []) v e h = absurd (omega arith)
none_left (a ∷ b ∷ c ∷ d ∷ x ∷ []) v e h =
    let small : v / 4 / 4 < 64 = omega arith in
    omega arith
none_left (a ∷ b ∷ c ∷ d ∷ x ∷ y ∷ ds) v e h = absurd (omega arith)

module _ (ks : List View) (small : (q n v : ℕ) → get_or ks q neither ≡ an_output n v → v < 1024) (n v : ℕ) (h : v < 1024) where
  abbrev W : Ways ks (links_of ks)
  W = ways_links ks

  few : {w : ℕ} {s : Slot} {r : Way} (f : ℕ) → Leads (hit ks n v) (links_of ks) w s r → OnWay ks (links_of ks) W (hit ks n v) n v w s →
      length (W.to s).digits ≤ 5 → 6 ≤ length (W.to s).digits + f → walk f (hit ks n v) (links_of ks) w s ≡ r
  unfolding walk further
  few zero l o a b = absurd (omega arith)
  few (suc f) (ends e) o a b = rw (e, walk) refl
  few (suc f) (finds e i) o a b = rw (e, walk) (rw i refl)
  few {w = w} {s = s} (suc f) (goes {q = q} e i l) o a b =
      let more : length (W.to (next q (w % 4))).digits ≡ length (W.to s).digits + 1 =
      ap (λ (t : Trail). length t.digits) (W.to_next s q (w % 4) e) ∙ length-append (W.to s).digits (w % 4 ∷ []) in
      let short : length (W.to s).digits ≢ 5 = full in
      rw (e, walk) (rw i (few {w = w / 4} {s = next q (w % 4)} f l (on_next ks (links_of ks) W (hit ks n v) n v w q s e o) (omega arith) (omega arith)))
    where
      full : length (W.to s).digits ≡ 5 → ⊥
      full five-long =
          let (u, there, g) = W.follow s q e in
          let same : u ≡ v = same_value (W.to s).digits u v g o.follows
          (none_left (W.to s).digits u five-long (small q (W.to s).from u there) ∙ sym (none_left (W.to s).digits v five-long h)) in
          let own : get_or ks q neither ≡ an_output n v = there ∙ (ap (λ j. an_output j u) o.from_is ∙ ap (an_output n) same) in
          false≢true (sym i ∙ hit_own ks q n v own)

  -- six steps lead where any walk leads
  pub six_steps : walk 6 (hit ks n v) (links_of ks) v (root n) ≡ way ks (links_of ks) n v
  unfolding way
  six_steps =
      let start : length (W.to (root n)).digits ≡ 0 = ap (λ (t : Trail). length t.digits) (W.to_root n) in
      few 6 (walk_leads ks (hit ks n v) (links_of ks) (sure_links ks) (length ks) v (root n) (omega arith)) (on_root ks (links_of ks) W
      (hit ks n v) n v) (omega arith) (omega arith)
