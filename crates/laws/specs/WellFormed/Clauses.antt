-- The clauses of well formed that speak of records, each as the fact that it tests, both ways.
use Rattle.std.specs.Prelude.{◌≡◌, ◌≢◌, ◌⊎◌, Bool, false, ◌&&◌, ◌||◌, List, [], ◌∷◌, ◌++◌, map, ℕ, suc, ◌≤◌, ◌<◌, length, ℤ}
use Rattle.std.proofs.Math.Path.{refl, ap}
use Rattle.std.proofs.Common.{sym, ◌∙◌, inl, inr, arith}
use Rattle.std.proofs.Math.Bool.{true, not}
use Rattle.std.proofs.lemmas.Bool.{false≢true}
use Rattle.std.proofs.Math.Dec.{eqb, leb}
use borrow.Author.Tests.{eqb-true, eq-eqb, leb-true, le-leb}
use Rattle.rules.specs.Lists.{all, any, among, keep, rising}
use Rattle.rules.specs.Records.{Kind, leaf, join, dummy, Node, Output, Entry, Record, node, output, waiting, unknown, waits, node_at, outputs, entries, dummy_node, leaf_node}
use Rattle.rules.specs.Totalizer.{joining}
use Rattle.rules.specs.WellFormed.{is_leaf, is_dummy, leaf_lawful, leaves_lawful, by_rule, heights_right, maxima_right, maxima_within, outputs_no_leaf, same_output, all_differ, values_within, rise_from, links, node_links, halved_to, ends_in, linked, above, spares_buckets, waiting_last}
use Rattle.laws.specs.Records.Words.{both}
use Rattle.laws.specs.Lists.Facts.{All, All_map, All_zip, All_rising, rising_at, and_true, neither, not_yes, all_facts, facts_all, occurs, or_left, or_right}
use Rattle.laws.specs.Lists.Counts.{not_among_occurs, occurs_not_among}
use Rattle.laws.specs.Records.Places.{place, place_inside, join_place, nodes_each, each_nodes}
use Rattle.laws.specs.WellFormed.Plain.{Sound, Valued, Rise, Differ, Spares, Ends, Linked}

-- a kind's test and what it says
pub leaf_test : (k : Kind) → is_leaf k ≡ true → (x : ℤ) × (k ≡ leaf x)
unfolding is_leaf
leaf_test (leaf x) e = (x, refl)
leaf_test (join half l r) e = absurd (false≢true e)
leaf_test dummy e = absurd (false≢true e)

pub no_leaf_test : (k : Kind) → is_leaf k ≡ false → (x : ℤ) → k ≢ leaf x
unfolding is_leaf
no_leaf_test k e x h = false≢true (sym e ∙ ap is_leaf h)

pub test_no_leaf : (k : Kind) → ((x : ℤ) → k ≢ leaf x) → is_leaf k ≡ false
unfolding is_leaf
test_no_leaf (leaf x) h = absurd (h x refl)
test_no_leaf (join half l r) h = refl
test_no_leaf dummy h = refl

pub dummy_test : (k : Kind) → is_dummy k ≡ true → k ≡ dummy
unfolding is_dummy
dummy_test (leaf x) e = absurd (false≢true e)
dummy_test (join half l r) e = absurd (false≢true e)
dummy_test dummy e = refl

pub no_dummy_test : (k : Kind) → is_dummy k ≡ false → k ≢ dummy
unfolding is_dummy
no_dummy_test k e h = false≢true (sym e ∙ ap is_dummy h)

pub test_no_dummy : (k : Kind) → k ≢ dummy → is_dummy k ≡ false
unfolding is_dummy
test_no_dummy (leaf x) h = refl
test_no_dummy (join half l r) h = refl
test_no_dummy dummy h = absurd (h refl)

-- nodes
pub sound_of : (rs : List Record) → leaves_lawful rs ≡ true → ((n : ℕ) → all (place rs) (node_links (node_at rs n).kind) ≡ true) →
    heights_right rs ≡ true → maxima_right rs ≡ true → maxima_within rs ≡ true → Sound (node_at rs) (place rs)
unfolding leaves_lawful heights_right maxima_right maxima_within by_rule joining leaf_node dummy_node leaf_lawful node_links all
sound_of rs lawfuls links heights maxima bounds n =
    let nd : Node = node_at rs n in
    let h : nd.height ≡ (by_rule rs nd.kind).height =
    eqb-true _ _ (nodes_each (λ n. eqb n.height (by_rule rs n.kind).height) rs refl heights n) in
    let m : nd.maximum ≡ (by_rule rs nd.kind).maximum =
    eqb-true _ _ (nodes_each (λ n. eqb n.maximum (by_rule rs n.kind).maximum) rs refl maxima n) in
    let w : leaf_lawful nd.kind ≡ true = nodes_each (λ n. leaf_lawful n.kind) rs refl lawfuls n in
    record {
      links_are = λ half l r e.
          let k : all (place rs) (node_links (join half l r)) ≡ true = ap (λ (k : Kind). all (place rs) (node_links k)) (sym e) ∙ links n in
          let (left, rest) = both (place rs l) (place rs r && true) k in
          (left, (both (place rs r) true rest).0);
      height_is = λ half l r e. h ∙ ap (λ (k : Kind). (by_rule rs k).height) e;
      maximum_is = λ half l r e. m ∙ ap (λ (k : Kind). (by_rule rs k).maximum) e;
      leaf_is = λ x e. (
        sym (ap leaf_lawful e) ∙ w,
        m ∙ ap (λ (k : Kind). (by_rule rs k).maximum) e,
        h ∙
            ap (λ (k : Kind). (by_rule rs k).height) e,
      );
      dummy_is = λ e. (m ∙ ap (λ (k : Kind). (by_rule rs k).maximum) e, h ∙ ap (λ (k : Kind). (by_rule rs k).height) e);
      within = leb-true _ _ (nodes_each (λ n. leb n.maximum 513) rs refl bounds n);
    }

module _ (rs : List Record) (s : Sound (node_at rs) (place rs)) where
  pub of_sound_leaves : leaves_lawful rs ≡ true
  unfolding leaves_lawful leaf_lawful
  of_sound_leaves = each_nodes (λ n. leaf_lawful n.kind) rs (λ n. go n (node_at rs n).kind refl)
    where
      go : (n : ℕ) (k : Kind) → (node_at rs n).kind ≡ k → leaf_lawful k ≡ true
      go n (leaf x) e = ((s n).leaf_is x e).0
      go n (join half l r) e = refl
      go n dummy e = refl

  pub of_sound_links : (n : ℕ) → all (place rs) (node_links (node_at rs n).kind) ≡ true
  unfolding all node_links
  of_sound_links n = go (node_at rs n).kind refl
    where
      go : (k : Kind) → (node_at rs n).kind ≡ k → all (place rs) (node_links k) ≡ true
      go (leaf x) e = refl
      go (join half l r) e = and_true ((s n).links_are half l r e).0 (and_true ((s n).links_are half l r e).1 refl)
      go dummy e = refl

  by_kind : (n : ℕ) (k : Kind) → (node_at rs n).kind ≡ k →
      ((node_at rs n).maximum ≡ (by_rule rs k).maximum) × ((node_at rs n).height ≡ (by_rule rs k).height)
  unfolding by_rule joining leaf_node dummy_node
  by_kind n (leaf x) e = (((s n).leaf_is x e).1, ((s n).leaf_is x e).2)
  by_kind n (join half l r) e = ((s n).maximum_is half l r e, (s n).height_is half l r e)
  by_kind n dummy e = (((s n).dummy_is e).0, ((s n).dummy_is e).1)

  pub of_sound_heights : heights_right rs ≡ true
  unfolding heights_right
  of_sound_heights =
      each_nodes (λ n. eqb n.height (by_rule rs n.kind).height) rs (λ n. eq-eqb _ _ (by_kind n (node_at rs n).kind refl).1)

  pub of_sound_maxima : maxima_right rs ≡ true
  unfolding maxima_right
  of_sound_maxima =
      each_nodes (λ n. eqb n.maximum (by_rule rs n.kind).maximum) rs (λ n. eq-eqb _ _ (by_kind n (node_at rs n).kind refl).0)

  pub of_sound_bounds : maxima_within rs ≡ true
  unfolding maxima_within
  of_sound_bounds = each_nodes (λ n. leb n.maximum 513) rs (λ n. le-leb _ _ (s n).within)

-- outputs
pub rise_of : (low : ℕ) (os : List Output) → rise_from low os ≡ true → Rise low os
unfolding rise_from
rise_of low [] e = tt
rise_of low (o ∷ os) e =
    let (here, rest) = both (leb low o.number) (rise_from (suc o.number) os) e in
    (leb-true _ _ here, rise_of (suc o.number) os rest)

pub of_rise : (low : ℕ) (os : List Output) → Rise low os → rise_from low os ≡ true
unfolding rise_from
of_rise low [] h = refl
of_rise low (o ∷ os) h = and_true (le-leb _ _ h.0) (of_rise (suc o.number) os h.1)

any_none : (o : Output) (os : List Output) → any (same_output o) os ≡ false → All (λ p. o.node ≡ p.node → o.value ≡ p.value → ⊥) os
unfolding any same_output
any_none o [] e = tt
any_none o (p ∷ os) e =
    let (here, rest) = neither (same_output o p) (any (same_output o) os) e in
    ((λ n v. false≢true (sym here ∙ and_true (eq-eqb o.node p.node n) (eq-eqb o.value p.value v))), any_none o os rest)

none_any : (o : Output) (os : List Output) → All (λ p. o.node ≡ p.node → o.value ≡ p.value → ⊥) os → any (same_output o) os ≡ false
unfolding any same_output
none_any o [] h = refl
none_any o (p ∷ os) h = go (eqb o.node p.node) refl (eqb o.value p.value) refl (none_any o os h.1)
  where
    go : (a : Bool) → eqb o.node p.node ≡ a → (b : Bool) → eqb o.value p.value ≡ b → any (same_output o) os ≡ false →
        ((a && b) || any (same_output o) os) ≡ false
    go true e true f ih = absurd (h.0 (eqb-true _ _ e) (eqb-true _ _ f))
    go true e false f ih = ih
    go false e b f ih = ih

pub differ_of : (os : List Output) → all_differ os ≡ true → Differ os
unfolding all_differ
differ_of [] e = tt
differ_of (o ∷ os) e =
    let (here, rest) = both (not (any (same_output o) os)) (all_differ os) e in
    (any_none o os (not_yes _ here), differ_of os rest)

pub of_differ : (os : List Output) → Differ os → all_differ os ≡ true
unfolding all_differ
of_differ [] h = refl
of_differ (o ∷ os) h = and_true (ap not (none_any o os h.0)) (of_differ os h.1)

pub valued_of : (rs : List Record) → outputs_no_leaf rs ≡ true → values_within rs ≡ true →
    All (λ o. place rs o.node ≡ true) (outputs rs) →
    All (Valued (node_at rs) (place rs)) (outputs rs)
unfolding outputs_no_leaf values_within
valued_of rs no_leaf values named =
    All_zip {Q = λ o. ((1 ≤ o.value) × (o.value ≤ (node_at rs o.node).maximum)) × (place rs o.node ≡ true)}
    (λ o f v. record { named = v.1; no_leaf = f; low = v.0.0; high = v.0.1 }) (outputs rs)
    (all_facts (λ o. not (is_leaf (node_at rs o.node).kind)) (λ o e. no_leaf_test (node_at rs o.node).kind (not_yes _ e)) (outputs rs)
    no_leaf)
    (All_zip {P = λ o. (1 ≤ o.value) × (o.value ≤ (node_at rs o.node).maximum)} (λ o v p. (v, p)) (outputs rs)
    (all_facts (λ o. leb 1 o.value && leb o.value (node_at rs o.node).maximum)
    (λ o e. let (a, b) = both (leb 1 o.value) _ e in (leb-true _ _ a, leb-true _ _ b)) (outputs rs) values)
    named)

module _ (rs : List Record) (v : All (Valued (node_at rs) (place rs)) (outputs rs)) where
  pub of_valued_no_leaf : outputs_no_leaf rs ≡ true
  unfolding outputs_no_leaf
  of_valued_no_leaf = facts_all (λ o. not (is_leaf (node_at rs o.node).kind))
      (λ o f. ap not (test_no_leaf (node_at rs o.node).kind f.no_leaf)) (outputs rs) v

  pub of_valued_within : values_within rs ≡ true
  unfolding values_within
  of_valued_within = facts_all (λ o. leb 1 o.value && leb o.value (node_at rs o.node).maximum)
      (λ o f. and_true (le-leb _ _ f.low) (le-leb _ _ f.high)) (outputs rs) v

  pub of_valued_named : All (λ o. place rs o.node ≡ true) (outputs rs)
  of_valued_named = All_map (λ o f. f.named) (outputs rs) v

-- buckets
ends_of : (rs : List Record) (wait : Bool) (b : ℕ) (k : Kind) → (node_at rs b).kind ≡ k → ends_in rs wait k ≡ true → Ends (node_at rs) wait b
unfolding ends_in
ends_of rs true b (leaf x) e h = absurd (false≢true h)
ends_of rs false b (leaf x) e h = absurd (false≢true h)
ends_of rs true b (join half l r) e h =
    let (halved, last) = both half (is_dummy (node_at rs r).kind) h in
    (l, r, e ∙ ap (λ (t : Bool). join t l r) halved, dummy_test _ last)
ends_of rs false b (join half l r) e h = (half, l, r, e, no_dummy_test _ (not_yes _ h))
ends_of rs true b dummy e h = absurd (false≢true h)
ends_of rs false b dummy e h = absurd (false≢true h)

of_ends : (rs : List Record) (wait : Bool) (b : ℕ) → Ends (node_at rs) wait b → ends_in rs wait (node_at rs b).kind ≡ true
unfolding ends_in is_dummy
of_ends rs true b h = ap (ends_in rs true) h.2 ∙ ap is_dummy h.3
of_ends rs false b h = ap (ends_in rs false) h.3 ∙ ap not (test_no_dummy _ h.4)

halved_of : (c : ℕ) (k : Kind) → halved_to c k ≡ true → (l : ℕ) × (k ≡ join true l c)
unfolding halved_to
halved_of c (leaf x) e = absurd (false≢true e)
halved_of c (join true l r) e = (l, ap (join true l) (eqb-true r c e))
halved_of c (join false l r) e = absurd (false≢true e)
halved_of c dummy e = absurd (false≢true e)

pub linked_of : (rs : List Record) (wait : Bool) (bs : List ℕ) → linked rs wait bs ≡ true → Linked (node_at rs) wait bs
unfolding linked
linked_of rs wait [] e = tt
linked_of rs wait (b ∷ []) e = ends_of rs wait b (node_at rs b).kind refl e
linked_of rs wait (b ∷ c ∷ bs) e =
    let (here, rest) = both (halved_to c (node_at rs b).kind) (linked rs wait (c ∷ bs)) e in
    (halved_of c (node_at rs b).kind here, linked_of rs wait (c ∷ bs) rest)

pub of_linked : (rs : List Record) (wait : Bool) (bs : List ℕ) → Linked (node_at rs) wait bs → linked rs wait bs ≡ true
unfolding linked halved_to
of_linked rs wait [] h = refl
of_linked rs wait (b ∷ []) h = of_ends rs wait b h
of_linked rs wait (b ∷ c ∷ bs) h = and_true (ap (halved_to c) h.0.1 ∙ eq-eqb c c refl) (of_linked rs wait (c ∷ bs) h.1)

pub spares_of : (rs : List Record) (bs : List ℕ) → all (λ i. spares_buckets bs i (node_at rs i).kind) (rising (length rs) 0) ≡ true →
    Spares (node_at rs) bs
unfolding spares_buckets
spares_of rs bs e i half l r k =
    let there : i < length rs = place_inside rs i (join_place rs i half l r k) in
    let each : All (λ i. spares_buckets bs i (node_at rs i).kind ≡ true) (rising (length rs) 0) =
    all_facts (λ i. spares_buckets bs i (node_at rs i).kind) (λ i e. e) (rising (length rs) 0) e in
    let at : spares_buckets bs i (node_at rs i).kind ≡ true =
    rising_at (λ i. spares_buckets bs i (node_at rs i).kind ≡ true) (length rs) 0 each i (omega arith) (omega arith) in
    let (left, right) = both (not (among bs l)) (not (among bs r) || above bs i r) (ap (spares_buckets bs i) (sym k) ∙ at) in
    (not_among_occurs bs l (not_yes _ left), go (among bs r) refl right)
  where
    go : (a : Bool) → among bs r ≡ a → (not a || above bs i r) ≡ true → (occurs r bs ≡ 0) ⊎ (above bs i r ≡ true)
    go true p q = inr q
    go false p q = inl (not_among_occurs bs r p)

pub of_spares : (rs : List Record) (bs : List ℕ) → Spares (node_at rs) bs →
    all (λ i. spares_buckets bs i (node_at rs i).kind) (rising (length rs) 0) ≡ true
unfolding spares_buckets
of_spares rs bs h = facts_all (λ i. spares_buckets bs i (node_at rs i).kind) (λ i (e : spares_buckets bs i (node_at rs i).kind ≡ true). e)
    (rising (length rs) 0) (All_rising (λ i. spares_buckets bs i (node_at rs i).kind ≡ true) (length rs) 0
    (λ i a b. go i (node_at rs i).kind refl))
  where
    right : (i r : ℕ) → (occurs r bs ≡ 0) ⊎ (above bs i r ≡ true) → (not (among bs r) || above bs i r) ≡ true
    right i r (inl e) = or_left (not (among bs r)) (above bs i r) (ap not (occurs_not_among bs r e))
    right i r (inr e) = or_right (not (among bs r)) (above bs i r) e

    go : (i : ℕ) (k : Kind) → (node_at rs i).kind ≡ k → spares_buckets bs i k ≡ true
    go i (leaf x) e = refl
    go i (join half l r) e = and_true (ap not (occurs_not_among bs l (h i half l r e).0)) (right i r (h i half l r e).1)
    go i dummy e = refl

-- the waiting entries stand last
all_waiting : (rs : List Record) → all waits rs ≡ true → (keep (λ r. not (waits r)) rs ≡ []) × (rs ≡ map waiting (entries rs))
unfolding all waits keep entries
all_waiting [] e = (refl, refl)
all_waiting (waiting w ∷ rs) e =
    let (none, is) = all_waiting rs e in
    (none, ap (λ (t : List Record). waiting w ∷ t) is)
all_waiting (node n ∷ rs) e = absurd (false≢true e)
all_waiting (output o ∷ rs) e = absurd (false≢true e)
all_waiting (unknown ∷ rs) e = absurd (false≢true e)

pub last_of : (rs : List Record) → waiting_last rs ≡ true → rs ≡ keep (λ r. not (waits r)) rs ++ map waiting (entries rs)
unfolding waiting_last waits keep entries
last_of [] e = refl
last_of (waiting w ∷ rs) e =
    let (none, is) = all_waiting rs e in
    ap (λ (t : List Record). waiting w ∷ t) is ∙ sym (ap (λ (t : List Record). t ++ (waiting w ∷ map waiting (entries rs))) none)
last_of (node n ∷ rs) e = ap (λ (t : List Record). node n ∷ t) (last_of rs e)
last_of (output o ∷ rs) e = ap (λ (t : List Record). output o ∷ t) (last_of rs e)
last_of (unknown ∷ rs) e = ap (λ (t : List Record). unknown ∷ t) (last_of rs e)

pub of_last : (rs : List Record) (q : List Entry) → All (λ r. not (waits r) ≡ true) rs → waiting_last (rs ++ map waiting q) ≡ true
unfolding waiting_last waits
of_last [] [] h = refl
of_last [] (e ∷ q) h = all_wait q
  where
    all_wait : (q : List Entry) → all waits (map waiting q) ≡ true
    all_wait [] = refl
    all_wait (e ∷ q) = all_wait q
of_last (node n ∷ rs) q h = of_last rs q h.1
of_last (output o ∷ rs) q h = of_last rs q h.1
of_last (waiting w ∷ rs) q h = absurd (false≢true h.0)
of_last (unknown ∷ rs) q h = of_last rs q h.1
