-- What one pass over the records decides.
use mathlib.Core.Path.{◌≡◌, refl, sym, ap, ap₂, ◌∙◌}
use mathlib.Core.Bool.{Bool, true, false, cond, ◌&&◌, false≢true}
use mathlib.Core.List.{List, [], ◌∷◌}
use Prim.Native.Nat.{ℕ, suc, ◌+◌, ◌≤◌, max}
use native.Mathlib.Omega.{arith}
use lib.Dec.{eqb, leb, ltb}
use lib.ListN.{length, get_or}
use lib.IntN.{ℤ}
use borrow.Author.Tests.{eqb-true, eq-eqb, leb-true, le-leb, lt-ltb, le-ltb, ltb-true, ltb-false}
use Rattle.rules.specs.Lists.{all, rising}
use Rattle.rules.specs.Numbers.{lawful}
use Rattle.rules.specs.Records.{Kind, leaf, join, dummy, Node, Output, Entry, Record, node, output, waiting, unknown, waits, node_at, nodes, outputs, entries, dummy_node}
use Rattle.rules.specs.Totalizer.{counts}
use Rattle.rules.specs.WellFormed.{is_leaf, is_dummy, waiting_last, spares_buckets}
use Rattle.laws.specs.Records.Words.{both}
use Rattle.laws.specs.Lists.Facts.{and_true}
use Rattle.laws.specs.Records.Places.{place, nodes_each, each_nodes}
use Rattle.laws.specs.WellFormed.Plain.{Ruled, Sound}
use Rattle.check_records.specs.declared.Limits.{Limits}
use Rattle.check_records.specs.Tests.{kind_right, output_right, entry_right, record_right, order_at, place_right, records_right}
use Rattle.check_arrays.proofs.Walk.{all_later, all_places, all_same, all_both}

-- the test of each kind of record
abbrev pub node_test : List Record → Node → Bool
node_test rs n = kind_right rs n.kind n.maximum n.height

abbrev pub output_test : List Record → List ℕ → Limits → Output → Bool
output_test rs tares lim o = output_right rs tares lim o.node o.value o.number

abbrev pub entry_test : List Record → List ℕ → Limits → Entry → Bool
entry_test rs buckets lim e = entry_right rs buckets lim e.node e.weight

-- a test of records is one of nodes, of outputs and of entries
module _ (rs : List Record) (tares buckets : List ℕ) (lim : Limits) where
  record_split : (xs : List Record) → all (record_right rs tares buckets lim) xs ≡
      (all (node_test rs) (nodes xs) && (all (output_test rs tares lim) (outputs xs) && all (entry_test rs buckets lim) (entries xs)))
  unfolding all nodes outputs entries record_right
  record_split [] = refl
  record_split (node n ∷ xs) =
      ap (λ (b : Bool). node_test rs n && b) (record_split xs) ∙
      go (node_test rs n) (all (node_test rs) (nodes xs)) (all (output_test rs tares lim) (outputs xs) && all (entry_test rs buckets lim) (entries xs))
    where
      go : (t a b : Bool) → (t && (a && b)) ≡ ((t && a) && b)
      go true a b = refl
      go false a b = refl
  record_split (output o ∷ xs) =
      ap (λ (b : Bool). output_test rs tares lim o && b) (record_split xs) ∙
      go (output_test rs tares lim o) (all (node_test rs) (nodes xs)) (all (output_test rs tares lim) (outputs xs))
      (all (entry_test rs buckets lim) (entries xs))
    where
      go : (t a b c : Bool) → (t && (a && (b && c))) ≡ (a && ((t && b) && c))
      go true a b c = refl
      go false true b c = refl
      go false false b c = refl
  record_split (waiting e ∷ xs) =
      ap (λ (b : Bool). entry_test rs buckets lim e && b) (record_split xs) ∙
      go (entry_test rs buckets lim e) (all (node_test rs) (nodes xs)) (all (output_test rs tares lim) (outputs xs))
      (all (entry_test rs buckets lim) (entries xs))
    where
      go : (t a b c : Bool) → (t && (a && (b && c))) ≡ (a && (b && (t && c)))
      go true a b c = refl
      go false true true c = refl
      go false true false c = refl
      go false false b c = refl
  record_split (unknown ∷ xs) = record_split xs

-- the order of records, place by place
order_later : (r : Record) (rs : List Record) (i : ℕ) → order_at (r ∷ rs) (suc i) ≡ order_at rs i
unfolding order_at
order_later r rs i =
    let up : suc i + 1 ≡ suc (i + 1) = omega arith in
    ap (λ (j : ℕ). cond (waits (get_or rs i unknown)) (cond (ltb j (suc (length rs))) (waits (get_or (r ∷ rs) j unknown)) true) true) up ∙
    ap (λ (b : Bool). cond (waits (get_or rs i unknown)) (cond b (waits (get_or rs (i + 1) unknown)) true) true) (go (ltb (i + 1) (length rs)) refl)
  where
    go : (b : Bool) → ltb (i + 1) (length rs) ≡ b → ltb (suc (i + 1)) (suc (length rs)) ≡ b
    go true e = lt-ltb (suc (i + 1)) (suc (length rs)) (omega (arith, ltb-true (i + 1) (length rs) e))
    go false e = le-ltb (suc (i + 1)) (suc (length rs)) (omega (arith, ltb-false (i + 1) (length rs) e))

order_first : (r : Record) (rs : List Record) → (order_at (r ∷ rs) 0 && waiting_last rs) ≡ waiting_last (r ∷ rs)
unfolding order_at waiting_last all
order_first r [] = go (waits r)
  where
    go : (b : Bool) → (cond b true true && true) ≡ cond b true true
    go true = refl
    go false = refl
order_first r (x ∷ rs) =
    ap (λ (b : Bool). cond (waits r) (cond b (waits x) true) true && waiting_last (x ∷ rs)) (lt-ltb 1 (suc (suc (length rs))) (omega arith)) ∙
    go (waits r) (waits x)
  where
    go : (a b : Bool) → (cond a (cond true b true) true && cond b (all waits rs) (waiting_last rs)) ≡
        cond a (b && all waits rs) (cond b (all waits rs) (waiting_last rs))
    go true true = refl
    go true false = refl
    go false b = refl

order_is : (rs : List Record) → all (order_at rs) (rising (length rs) 0) ≡ waiting_last rs
unfolding all rising waiting_last
order_is [] = refl
order_is (r ∷ rs) =
    ap (λ (b : Bool). order_at (r ∷ rs) 0 && b)
    (all_later (order_at (r ∷ rs)) (length rs) 0 ∙
    (all_same (λ i. order_at (r ∷ rs) (suc i)) (order_at rs) (length rs) 0 (λ i a b. order_later r rs i) ∙ order_is rs)) ∙
    order_first r rs

-- the pass as a whole
module _ (rs : List Record) (tares buckets : List ℕ) (lim : Limits) where
  pub pass_is : records_right rs tares buckets lim ≡ (
      (all (node_test rs) (nodes rs) && (all (output_test rs tares lim) (outputs rs) && all (entry_test rs buckets lim) (entries rs))) && (
      waiting_last rs && all (λ i. spares_buckets buckets i (node_at rs i).kind) (rising (length rs) 0)))
  unfolding records_right place_right
  pass_is =
      all_both (λ i. record_right rs tares buckets lim (get_or rs i unknown)) (λ i. order_at rs i && spares_buckets buckets i (node_at rs i).kind)
      (rising (length rs) 0) ∙
      ap₂ (λ (a b : Bool). a && b)
      (all_places (record_right rs tares buckets lim) unknown rs ∙ record_split rs tares buckets lim rs)
      (all_both (order_at rs) (λ i. spares_buckets buckets i (node_at rs i).kind) (rising (length rs) 0) ∙
      ap (λ (b : Bool). b && all (λ i. spares_buckets buckets i (node_at rs i).kind) (rising (length rs) 0)) (order_is rs))

-- a node that passes is by the totalizer rule
module _ (rs : List Record) where
  joined : (half : Bool) (l r : ℕ) (nd : Node) → nd.kind ≡ join half l r → place rs l ≡ true → place rs r ≡ true → nd.maximum ≤ 513 →
      nd.maximum ≡ (node_at rs l).maximum + counts half (node_at rs r).maximum →
      nd.height ≡ max (node_at rs l).height (node_at rs r).height + 1 → Ruled (node_at rs) (place rs) nd
  unfolding is_leaf is_dummy
  joined half l r nd e left right few em eh = record {
    links_are = λ half' l' r' f. let same = parts half' l' r' f in (ap (place rs) same.1 ∙ left, ap (place rs) same.2 ∙ right);
    height_is = λ half' l' r' f.
        let same = parts half' l' r' f in
        let up : nd.height ≡ suc (max (node_at rs l).height (node_at rs r).height) = omega arith in
        up ∙ ap₂ (λ (x y : ℕ). suc (max (node_at rs x).height (node_at rs y).height)) (sym same.1) (sym same.2);
    maximum_is = λ half' l' r' f.
        let same = parts half' l' r' f in
        em ∙ (ap (λ (b : Bool). (node_at rs l).maximum + counts b (node_at rs r).maximum) (sym same.0) ∙
        ap₂ (λ (x y : ℕ). (node_at rs x).maximum + counts half' (node_at rs y).maximum) (sym same.1) (sym same.2));
    leaf_is = λ y f. absurd (false≢true (ap is_leaf (sym e ∙ f)));
    dummy_is = λ f. absurd (false≢true (ap is_dummy (sym e ∙ f)));
    within = few;
  }
    where
      parts : (half' : Bool) (l' r' : ℕ) → nd.kind ≡ join half' l' r' → (half' ≡ half) × (l' ≡ l) × (r' ≡ r)
      parts half' l' r' f =
          let g : join half' l' r' ≡ join half l r = sym f ∙ e in
          (cc, cc, cc)

  right_ruled : (k : Kind) (nd : Node) → nd.kind ≡ k → kind_right rs k nd.maximum nd.height ≡ true → Ruled (node_at rs) (place rs) nd
  unfolding kind_right is_leaf is_dummy
  right_ruled (leaf x) nd e t =
      let (m, more) = both (eqb nd.maximum 1) (eqb nd.height 0 && lawful x) t in
      let (h, law) = both (eqb nd.height 0) (lawful x) more in
      let one : nd.maximum ≡ 1 = eqb-true nd.maximum 1 m in
      record {
        links_are = λ half l r f. absurd (false≢true (ap is_leaf (sym f ∙ e)));
        height_is = λ half l r f. absurd (false≢true (ap is_leaf (sym f ∙ e)));
        maximum_is = λ half l r f. absurd (false≢true (ap is_leaf (sym f ∙ e)));
        leaf_is = λ y f. (same_leaf y (sym f ∙ e) law, one, eqb-true nd.height 0 h);
        dummy_is = λ f. absurd (false≢true (ap is_dummy (sym e ∙ f)));
        within = omega arith;
      }
    where
      same_leaf : (y : ℤ) → leaf y ≡ leaf x → lawful x ≡ true → lawful y ≡ true
      same_leaf y f law =
          let is : y ≡ x = cc in
          ap lawful is ∙ law
  right_ruled (join half l r) nd e t =
      let m : ℕ = (node_at rs l).maximum + counts half (node_at rs r).maximum in
      let h : ℕ = max (node_at rs l).height (node_at rs r).height + 1 in
      let (left, more) = both (place rs l) (place rs r && (leb nd.maximum 513 && (eqb nd.maximum m && eqb nd.height h))) t in
      let (right, more₂) = both (place rs r) (leb nd.maximum 513 && (eqb nd.maximum m && eqb nd.height h)) more in
      let (few, more₃) = both (leb nd.maximum 513) (eqb nd.maximum m && eqb nd.height h) more₂ in
      let (em, eh) = both (eqb nd.maximum m) (eqb nd.height h) more₃ in
      joined half l r nd e left right (leb-true _ _ few) (eqb-true _ _ em) (eqb-true _ _ eh)
  right_ruled dummy nd e t =
      let (m, h) = both (eqb nd.maximum 0) (eqb nd.height 0) t in
      let none : nd.maximum ≡ 0 = eqb-true nd.maximum 0 m in
      record {
        links_are = λ half l r f. absurd (false≢true (ap is_dummy (sym f ∙ e)));
        height_is = λ half l r f. absurd (false≢true (ap is_dummy (sym f ∙ e)));
        maximum_is = λ half l r f. absurd (false≢true (ap is_dummy (sym f ∙ e)));
        leaf_is = λ y f. absurd (false≢true (ap is_dummy (sym f ∙ e)));
        dummy_is = λ f. (none, eqb-true nd.height 0 h);
        within = omega arith;
      }

  pub nodes_sound : all (node_test rs) (nodes rs) ≡ true → Sound (node_at rs) (place rs)
  unfolding kind_right dummy_node
  nodes_sound e n = right_ruled (node_at rs n).kind (node_at rs n) refl (nodes_each (node_test rs) rs refl e n)

  ruled_right : (k : Kind) (nd : Node) → nd.kind ≡ k → Ruled (node_at rs) (place rs) nd → kind_right rs k nd.maximum nd.height ≡ true
  unfolding kind_right
  ruled_right (leaf x) nd e f =
      let (law, m, h) = f.leaf_is x e in
      and_true (eq-eqb nd.maximum 1 m) (and_true (eq-eqb nd.height 0 h) law)
  ruled_right (join half l r) nd e f =
      let (left, right) = f.links_are half l r e in
      let h : nd.height ≡ max (node_at rs l).height (node_at rs r).height + 1 = omega (arith, f.height_is half l r e) in
      and_true left (and_true right (and_true (le-leb _ _ f.within) (and_true (eq-eqb _ _ (f.maximum_is half l r e)) (eq-eqb _ _ h))))
  ruled_right dummy nd e f =
      let (m, h) = f.dummy_is e in
      and_true (eq-eqb nd.maximum 0 m) (eq-eqb nd.height 0 h)

  pub sound_nodes : Sound (node_at rs) (place rs) → all (node_test rs) (nodes rs) ≡ true
  sound_nodes s = each_nodes (node_test rs) rs (λ n. ruled_right (node_at rs n).kind (node_at rs n) refl (s n))
