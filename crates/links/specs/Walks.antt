-- Where walks lead.
use Rattle.std.specs.Prelude.{◌≡◌, Bool, List, [], ◌∷◌, ltb, get_or}
use Rattle.std.proofs.Math.Path.{refl}
use Rattle.std.proofs.Common.{sym, ◌∙◌, ap, subst, arith, lt-ltb}
use Rattle.std.proofs.Math.Bool.{true, false}
use Rattle.std.proofs.lemmas.Bool.{false≢true}
use Prim.Native.Nat.{ℕ, zero, suc, ◌+◌, ◌/◌, ◌%◌, ◌≤◌, ◌<◌}
use Rattle.std.proofs.Math.ListN.{length}
use Rattle.links.specs.Links.{View, neither, Slot, root, next, Links, Way, found, ended, walk, hit, hits, sees_node}
use Rattle.laws.specs.Records.Words.{both}
use Rattle.laws.specs.Lists.Facts.{and_true}
use Rattle.links.specs.Slots.{sees_output, stands, low}

-- where a walk leads, without fuel
pub data Leads (is : ℕ → Bool) (L : Links) : ℕ → Slot → Way → Type 0 where
  ends : {w : ℕ} {s : Slot} → L s ≡ 0 → Leads is L w s (ended s)
  finds : {w : ℕ} {s : Slot} {q : ℕ} → L s ≡ suc q → is q ≡ true → Leads is L w s (found q)
  goes : {w : ℕ} {s : Slot} {q : ℕ} {r : Way} → L s ≡ suc q → is q ≡ false → Leads is L (w / 4) (next q (w % 4)) r → Leads is L w s r

-- it leads to one end
pub leads_one : {is : ℕ → Bool} {L : Links} {w : ℕ} {s : Slot} {r r' : Way} → Leads is L w s r → Leads is L w s r' → r ≡ r'
leads_one (ends a) (ends b) = refl
leads_one (ends a) (finds b c) = absurd (omega (arith, a, b))
leads_one (ends a) (goes b c d) = absurd (omega (arith, a, b))
leads_one (finds a h) (ends b) = absurd (omega (arith, a, b))
leads_one (finds {q = p} a h) (finds {q = q} b c) = let same : p ≡ q = omega (arith, a, b) in ap found same
leads_one {is = is} (finds {q = p} a h) (goes {q = q} b c d) =
    let same : p ≡ q = omega (arith, a, b) in absurd (false≢true (sym c ∙ (ap is (sym same) ∙ h)))
leads_one (goes a h l) (ends b) = absurd (omega (arith, a, b))
leads_one {is = is} (goes {q = p} a h l) (finds {q = q} b c) =
    let same : p ≡ q = omega (arith, a, b) in absurd (false≢true (sym h ∙ (ap is same ∙ c)))
leads_one {is = is} {L = L} {w = w} {r' = r'} (goes {q = p} a h l) (goes {q = q} b c d) =
    let same : p ≡ q = omega (arith, a, b) in
    leads_one l (subst (λ (x : ℕ). Leads is L (w / 4) (next x (w % 4)) r') (sym same) d)

-- a link rises, and leads to an output, from a slot that has a word
pub record Linked (ks : List View) (s : Slot) (q : ℕ) : Type 0 where
  pub rises : low s ≤ q
  pub output_there : sees_output (get_or ks q neither) ≡ true
  pub slot_there : stands ks s ≡ true

abbrev pub Sure : List View → Links → Type 0
Sure ks L = (s : Slot) (q : ℕ) → L s ≡ suc q → Linked ks s q

-- what is there is below the record count
pub inside : (test : View → Bool) → test neither ≡ false → (ks : List View) (p : ℕ) → test (get_or ks p neither) ≡ true → p < length ks
inside test n [] p e = absurd (false≢true (sym n ∙ e))
inside test n (k ∷ ks) zero e = omega arith
inside test n (k ∷ ks) (suc p) e = omega (arith, inside test n ks p e)

pub output_inside : (ks : List View) (p : ℕ) → sees_output (get_or ks p neither) ≡ true → p < length ks
unfolding sees_output
output_inside = inside sees_output refl

pub node_inside : (ks : List View) (p : ℕ) → sees_node (get_or ks p neither) ≡ true → p < length ks
unfolding sees_node
node_inside = inside sees_node refl

pub hit_inside : (ks : List View) (n v p : ℕ) → hit ks n v p ≡ true → p < length ks
unfolding hit hits
hit_inside ks n v = inside (λ k. hits k n v) refl ks

pub stands_low : (ks : List View) (s : Slot) → stands ks s ≡ true → low s ≤ length ks
unfolding stands low
stands_low ks (root n) e = node_inside ks n e
stands_low ks (next p k) e = output_inside ks p (both (sees_output (get_or ks p neither)) (ltb k 4) e).0

-- the count of records is fuel enough
module _ (ks : List View) (is : ℕ → Bool) (L : Links) (sure : Sure ks L) where
  pub walk_leads : (f w : ℕ) (s : Slot) → length ks ≤ low s + f → Leads is L w s (walk f is L w s)
  unfolding walk low
  walk_leads zero w s h = go (L s) refl
    where
      go : (x : ℕ) → L s ≡ x → Leads is L w s (ended s)
      go zero e = ends e
      go (suc q) e =
          let l : Linked ks s q = sure s q e in
          absurd (omega (arith, output_inside ks q l.output_there))
  walk_leads (suc f) w s h = go (L s) refl (λ q. walk_leads f (w / 4) (next q (w % 4)))
    where
      go : (x : ℕ) → L s ≡ x → ((q : ℕ) → length ks ≤ suc q + f → Leads is L (w / 4) (next q (w % 4)) (walk f is L (w / 4) (next q (w % 4)))) →
          Leads is L w s (elim x [ zero ↦ ended s | suc q ↦ elim (is q) [ true ↦ found q | false ↦ walk f is L (w / 4) (next q (w % 4)) ] ])
      go zero e ih = ends e
      go (suc q) e ih = turn (is q) refl
        where
          l : Linked ks s q
          l = sure s q e

          turn : (b : Bool) → is q ≡ b → Leads is L w s (elim b [ true ↦ found q | false ↦ walk f is L (w / 4) (next q (w % 4)) ])
          turn true i = finds e i
          turn false i = goes e i (ih q (omega (arith, l.rises)))

  -- where a walk ends there is a word
  pub end_stands : {w : ℕ} {s t : Slot} → Leads is L w s (ended t) → stands ks s ≡ true → stands ks t ≡ true
  unfolding stands
  end_stands (ends e) h = h
  end_stands {w = w} (goes {q = q} e i l) h =
      end_stands l (and_true (sure _ q e).output_there (lt-ltb (w % 4) 4 (omega arith)))

-- the same steps over other links and another test, as far as they were led
module _ (is is' : ℕ → Bool) (L L' : Links) (carry : (s : Slot) (q : ℕ) → L s ≡ suc q → (L' s ≡ suc q) × (is' q ≡ is q)) where
  pub replay_found : {w : ℕ} {s : Slot} {q : ℕ} → Leads is L w s (found q) → Leads is' L' w s (found q)
  replay_found {s = s} {q = q} (finds e i) = finds (carry s q e).0 ((carry s q e).1 ∙ i)
  replay_found {s = s} (goes {q = p} e i l) = goes (carry s p e).0 ((carry s p e).1 ∙ i) (replay_found l)

  pub replay : {w : ℕ} {s u : Slot} → Leads is L w s (ended u) →
      (w' : ℕ) × ((r : Way) → Leads is' L' w' u r → Leads is' L' w s r)
  replay {w = w} (ends e) = (w, λ r l. l)
  replay {s = s} (goes {q = p} e i l) =
      let (w', on) = replay l in
      (w', λ r k. goes (carry s p e).0 ((carry s p e).1 ∙ i) (on r k))
