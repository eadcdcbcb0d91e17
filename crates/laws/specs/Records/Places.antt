-- What stands at a place after records were appended or one was set.
use Rattle.std.specs.Prelude.{◌≡◌, refl, ◌≢◌, Bool, true, false, cond, ◌&&◌, List, [], ◌∷◌, ◌++◌, map, ℕ, zero, suc, ◌≤◌, ◌<◌, eqb, ltb, length, get_or, set, ℤ}
use Rattle.std.proofs.Common.{sym, ◌∙◌, ap, arith, get_or-set_same, get_or-set_other, eqb-true, ltb-true, ltb-false}
use Rattle.std.proofs.Math.Path.{fun_ext}
use Rattle.std.proofs.lemmas.Bool.{false≢true, eqb-false}
use Rattle.std.proofs.Math.ListN.{get_or-append, get_or-eq_default}
use Rattle.std.proofs.Math.Seq.{get_or-append_seam}
use Rattle.rules.specs.Lists.{all}
use Rattle.rules.specs.Records.{leaf, join, Node, Output, Entry, Record, node, output, waiting, unknown, node_of, node_at, nodes, outputs, entries, dummy_node}
use Rattle.rules.specs.WellFormed.{is_node, is_dummy, links, node_links}
use Rattle.rules.specs.Totalizer.{number_in}
use Rattle.laws.specs.Lists.Facts.{All, and_true}
use Rattle.laws.specs.Records.Words.{both}

-- a node stands at place n
unfoldable pub place : List Record → ℕ → Bool
unfolding is_node
place rs n = is_node (get_or rs n unknown)

-- a place is below the record count
pub place_inside : (rs : List Record) (n : ℕ) → place rs n ≡ true → n < length rs
unfolding place is_node
place_inside [] n e = absurd (false≢true e)
place_inside (r ∷ rs) zero e = omega arith
place_inside (r ∷ rs) (suc n) e = omega (arith, place_inside rs n e)

node_of_none : (r : Record) → is_node r ≡ false → node_of r ≡ dummy_node
unfolding is_node node_of
node_of_none (node n) e = absurd (false≢true (sym e))
node_of_none (output o) e = refl
node_of_none (waiting e) p = refl
node_of_none unknown e = refl

-- what is no node reads as a dummy
pub node_at_none : (rs : List Record) (n : ℕ) → place rs n ≡ false → node_at rs n ≡ dummy_node
unfolding place node_at
node_at_none rs n e = node_of_none (get_or rs n unknown) e

-- so where no dummy is read a node stands
other_place : (rs : List Record) (n : ℕ) → is_dummy (node_at rs n).kind ≡ false → place rs n ≡ true
unfolding dummy_node is_dummy
other_place rs n e = go (place rs n) refl
  where
    go : (b : Bool) → place rs n ≡ b → place rs n ≡ true
    go true p = p
    go false p = absurd (false≢true (sym e ∙ ap (λ (x : Node). is_dummy x.kind) (node_at_none rs n p)))

pub join_place : (rs : List Record) (n : ℕ) (half : Bool) (l r : ℕ) → (node_at rs n).kind ≡ join half l r → place rs n ≡ true
unfolding is_dummy
join_place rs n half l r e = other_place rs n (ap is_dummy e)

pub leaf_place : (rs : List Record) (n : ℕ) (x : ℤ) → (node_at rs n).kind ≡ leaf x → place rs n ≡ true
unfolding is_dummy
leaf_place rs n x e = other_place rs n (ap is_dummy e)

-- earlier places are as they were when records are appended
pub node_at_append : (rs xs : List Record) (n : ℕ) → n < length rs → node_at (rs ++ xs) n ≡ node_at rs n
unfolding node_at
node_at_append rs xs n h = ap node_of (get_or-append rs xs unknown n h)

pub place_append : (rs xs : List Record) (n : ℕ) → n < length rs → place (rs ++ xs) n ≡ place rs n
unfolding place
place_append rs xs n h = ap is_node (get_or-append rs xs unknown n h)

pub place_more : (rs xs : List Record) (n : ℕ) → place rs n ≡ true → place (rs ++ xs) n ≡ true
place_more rs xs n e = place_append rs xs n (place_inside rs n e) ∙ e

-- and the new one stands at the end
pub node_at_last : (rs : List Record) (nd : Node) (xs : List Record) → node_at (rs ++ (node nd ∷ xs)) (length rs) ≡ nd
unfolding node_at node_of
node_at_last rs nd xs = ap node_of (get_or-append_seam rs (node nd) xs unknown)

pub place_last : (rs : List Record) (nd : Node) (xs : List Record) → place (rs ++ (node nd ∷ xs)) (length rs) ≡ true
unfolding place is_node
place_last rs nd xs = ap is_node (get_or-append_seam rs (node nd) xs unknown)

-- records that are no nodes change no node
get_or_none : (rs xs : List Record) (n : ℕ) → All (λ r. is_node r ≡ false) xs → length rs ≤ n → is_node (get_or (rs ++ xs) n unknown) ≡ false
unfolding is_node
get_or_none [] [] n h i = refl
get_or_none [] (x ∷ xs) zero h i = h.0
get_or_none [] (x ∷ xs) (suc n) h i = get_or_none [] xs n h.1 (omega arith)
get_or_none (r ∷ rs) xs zero h i = absurd (omega arith)
get_or_none (r ∷ rs) xs (suc n) h i = get_or_none rs xs n h (omega arith)

same_over : {B : Type 0} (f : Record → B) → ((r : Record) → is_node r ≡ false → f r ≡ f unknown) → (rs xs : List Record) →
    All (λ r. is_node r ≡ false) xs → (n : ℕ) → f (get_or (rs ++ xs) n unknown) ≡ f (get_or rs n unknown)
same_over f none rs xs h n = go (ltb n (length rs)) refl
  where
    go : (b : Bool) → ltb n (length rs) ≡ b → f (get_or (rs ++ xs) n unknown) ≡ f (get_or rs n unknown)
    go true e = ap f (get_or-append rs xs unknown n (ltb-true n (length rs) e))
    go false e =
        let i : length rs ≤ n = ltb-false n (length rs) e in
        none (get_or (rs ++ xs) n unknown) (get_or_none rs xs n h i) ∙ sym (ap f (get_or-eq_default rs unknown i))

pub places_same : (rs xs : List Record) → All (λ r. is_node r ≡ false) xs → place (rs ++ xs) ≡ place rs
unfolding place is_node
places_same rs xs h = fun_ext (same_over is_node (λ r e. e) rs xs h)

pub nodes_same : (rs xs : List Record) → All (λ r. is_node r ≡ false) xs → node_at (rs ++ xs) ≡ node_at rs
unfolding node_at node_of
nodes_same rs xs h = fun_ext (same_over node_of node_of_none rs xs h)

pub waiting_none : (q : List Entry) → All (λ r. is_node r ≡ false) (map waiting q)
unfolding is_node
waiting_none [] = tt
waiting_none (e ∷ q) = (refl, waiting_none q)

pub output_none : (os : List Output) → All (λ r. is_node r ≡ false) (map output os)
unfolding is_node
output_none [] = tt
output_none (o ∷ os) = (refl, output_none os)

-- a node set anew
pub node_at_set : (rs : List Record) (n : ℕ) (nd : Node) → n < length rs → node_at (set rs n (node nd)) n ≡ nd
unfolding node_at node_of
node_at_set rs n nd h = ap node_of (get_or-set_same rs n (node nd) unknown h)

pub node_at_set_other : (rs : List Record) (n m : ℕ) (r : Record) → m ≢ n → node_at (set rs n r) m ≡ node_at rs m
unfolding node_at
node_at_set_other rs n m r h = ap node_of (get_or-set_other rs n m r unknown h)

pub place_set : (rs : List Record) (n : ℕ) (nd : Node) → place rs n ≡ true → place (set rs n (node nd)) ≡ place rs
unfolding place is_node
place_set rs n nd e = fun_ext (λ m. go m (eqb m n) refl)
  where
    go : (m : ℕ) (b : Bool) → eqb m n ≡ b → place (set rs n (node nd)) m ≡ place rs m
    go m true q =
        let is : m ≡ n = eqb-true m n q in
        ap (place (set rs n (node nd))) is ∙ (ap is_node (get_or-set_same rs n (node nd) unknown (place_inside rs n e)) ∙
        (sym e ∙ ap (place rs) (sym is)))
    go m false q = ap is_node (get_or-set_other rs n m (node nd) unknown (eqb-false m n q))

pub outputs_set : (rs : List Record) (n : ℕ) (nd : Node) → place rs n ≡ true → outputs (set rs n (node nd)) ≡ outputs rs
unfolding place is_node outputs
outputs_set [] n nd e = refl
outputs_set (node x ∷ rs) zero nd e = refl
outputs_set (output o ∷ rs) zero nd e = absurd (false≢true e)
outputs_set (waiting w ∷ rs) zero nd e = absurd (false≢true e)
outputs_set (unknown ∷ rs) zero nd e = absurd (false≢true e)
outputs_set (node x ∷ rs) (suc n) nd e = outputs_set rs n nd e
outputs_set (output o ∷ rs) (suc n) nd e = ap (λ (t : List Output). o ∷ t) (outputs_set rs n nd e)
outputs_set (waiting w ∷ rs) (suc n) nd e = outputs_set rs n nd e
outputs_set (unknown ∷ rs) (suc n) nd e = outputs_set rs n nd e

-- outputs, nodes, entries and words of an append
pub outputs_append : (rs xs : List Record) → outputs (rs ++ xs) ≡ outputs rs ++ outputs xs
unfolding outputs
outputs_append [] xs = refl
outputs_append (node x ∷ rs) xs = outputs_append rs xs
outputs_append (output o ∷ rs) xs = ap (λ (t : List Output). o ∷ t) (outputs_append rs xs)
outputs_append (waiting w ∷ rs) xs = outputs_append rs xs
outputs_append (unknown ∷ rs) xs = outputs_append rs xs

pub nodes_append : (rs xs : List Record) → nodes (rs ++ xs) ≡ nodes rs ++ nodes xs
unfolding nodes
nodes_append [] xs = refl
nodes_append (node x ∷ rs) xs = ap (λ (t : List Node). x ∷ t) (nodes_append rs xs)
nodes_append (output o ∷ rs) xs = nodes_append rs xs
nodes_append (waiting w ∷ rs) xs = nodes_append rs xs
nodes_append (unknown ∷ rs) xs = nodes_append rs xs

pub entries_append : (rs xs : List Record) → entries (rs ++ xs) ≡ entries rs ++ entries xs
unfolding entries
entries_append [] xs = refl
entries_append (node x ∷ rs) xs = entries_append rs xs
entries_append (output o ∷ rs) xs = entries_append rs xs
entries_append (waiting w ∷ rs) xs = ap (λ (t : List Entry). w ∷ t) (entries_append rs xs)
entries_append (unknown ∷ rs) xs = entries_append rs xs

pub outputs_of_outputs : (os : List Output) → outputs (map output os) ≡ os
unfolding outputs
outputs_of_outputs [] = refl
outputs_of_outputs (o ∷ os) = ap (λ (t : List Output). o ∷ t) (outputs_of_outputs os)

pub outputs_of_waiting : (q : List Entry) → outputs (map waiting q) ≡ []
unfolding outputs
outputs_of_waiting [] = refl
outputs_of_waiting (e ∷ q) = outputs_of_waiting q

-- a test of all nodes is one of all places, where a dummy passes it
pub nodes_each : (p : Node → Bool) (rs : List Record) → p dummy_node ≡ true → all p (nodes rs) ≡ true → (n : ℕ) → p (node_at rs n) ≡ true
unfolding all nodes node_at node_of
nodes_each p [] d h n = d
nodes_each p (node x ∷ rs) d h zero = (both (p x) (all p (nodes rs)) h).0
nodes_each p (node x ∷ rs) d h (suc n) = nodes_each p rs d (both (p x) (all p (nodes rs)) h).1 n
nodes_each p (output o ∷ rs) d h zero = d
nodes_each p (output o ∷ rs) d h (suc n) = nodes_each p rs d h n
nodes_each p (waiting w ∷ rs) d h zero = d
nodes_each p (waiting w ∷ rs) d h (suc n) = nodes_each p rs d h n
nodes_each p (unknown ∷ rs) d h zero = d
nodes_each p (unknown ∷ rs) d h (suc n) = nodes_each p rs d h n

pub each_nodes : (p : Node → Bool) (rs : List Record) → ((n : ℕ) → p (node_at rs n) ≡ true) → all p (nodes rs) ≡ true
unfolding all nodes node_at node_of
each_nodes p [] h = refl
each_nodes p (node x ∷ rs) h = and_true (h 0) (each_nodes p rs (λ n. h (suc n)))
each_nodes p (output o ∷ rs) h = each_nodes p rs (λ n. h (suc n))
each_nodes p (waiting w ∷ rs) h = each_nodes p rs (λ n. h (suc n))
each_nodes p (unknown ∷ rs) h = each_nodes p rs (λ n. h (suc n))

-- a test of all links is one of the links of nodes, of outputs and of entries
pub record LinksPass (q : ℕ → Bool) (rs : List Record) : Type 0 where
  pub of_nodes : (n : ℕ) → all q (node_links (node_at rs n).kind) ≡ true
  pub of_outputs : All (λ o. q o.node ≡ true) (outputs rs)
  pub of_entries : All (λ e. q e.node ≡ true) (entries rs)

pub links_pass : (q : ℕ → Bool) (rs : List Record) → all (λ r. all q (links r)) rs ≡ true → LinksPass q rs
unfolding all links node_at node_of node_links outputs entries dummy_node
links_pass q [] h = record { of_nodes = λ n. refl; of_outputs = tt; of_entries = tt }
links_pass q (r ∷ rs) h =
    let (here, rest) = both (all q (links r)) (all (λ r. all q (links r)) rs) h in
    go r here (links_pass q rs rest)
  where
    go : (r : Record) → all q (links r) ≡ true → LinksPass q rs → LinksPass q (r ∷ rs)
    go (node x) e ih = record {
      of_nodes = λ n. elim n as (λ k. all q (node_links (node_at (node x ∷ rs) k).kind) ≡ true) [ zero ↦ e | suc m ↦ ih.of_nodes m ];
      of_outputs = ih.of_outputs;
      of_entries = ih.of_entries;
    }
    go (output o) e ih = record {
      of_nodes = λ n. elim n as (λ k. all q (node_links (node_at (output o ∷ rs) k).kind) ≡ true) [ zero ↦ refl | suc m ↦ ih.of_nodes m ];
      of_outputs = ((both (q o.node) true e).0, ih.of_outputs);
      of_entries = ih.of_entries;
    }
    go (waiting w) e ih = record {
      of_nodes = λ n. elim n as (λ k. all q (node_links (node_at (waiting w ∷ rs) k).kind) ≡ true) [ zero ↦ refl | suc m ↦ ih.of_nodes m ];
      of_outputs = ih.of_outputs;
      of_entries = ((both (q w.node) true e).0, ih.of_entries);
    }
    go unknown e ih = record {
      of_nodes = λ n. elim n as (λ k. all q (node_links (node_at (unknown ∷ rs) k).kind) ≡ true) [ zero ↦ refl | suc m ↦ ih.of_nodes m ];
      of_outputs = ih.of_outputs;
      of_entries = ih.of_entries;
    }

pub pass_links : (q : ℕ → Bool) (rs : List Record) → LinksPass q rs → all (λ r. all q (links r)) rs ≡ true
unfolding all links node_at node_of node_links outputs entries dummy_node
pass_links q [] h = refl
pass_links q (node x ∷ rs) h =
    and_true (h.of_nodes 0) (pass_links q rs (record
    { of_nodes = λ n. h.of_nodes (suc n); of_outputs = h.of_outputs; of_entries = h.of_entries }))
pass_links q (output o ∷ rs) h =
    and_true (and_true h.of_outputs.0 refl) (pass_links q rs
    (record { of_nodes = λ n. h.of_nodes (suc n); of_outputs = h.of_outputs.1; of_entries = h.of_entries }))
pass_links q (waiting w ∷ rs) h =
    and_true (and_true h.of_entries.0 refl) (pass_links q rs
    (record { of_nodes = λ n. h.of_nodes (suc n); of_outputs = h.of_outputs; of_entries = h.of_entries.1 }))
pass_links q (unknown ∷ rs) h =
    pass_links q rs (record { of_nodes = λ n. h.of_nodes (suc n); of_outputs = h.of_outputs; of_entries = h.of_entries })

-- the number of an output among earlier and later ones
pub number_in_append : (os ps : List Output) (n v : ℕ) → number_in os n v ≡ 0 → All (λ o. 1 ≤ o.number) os →
    number_in (os ++ ps) n v ≡ number_in ps n v
unfolding number_in
number_in_append [] ps n v h k = refl
number_in_append (o ∷ os) ps n v h k = go (eqb o.node n && eqb o.value v) h (λ e. number_in_append os ps n v e k.1)
  where
    go : (b : Bool) → cond b o.number (number_in os n v) ≡ 0 → (number_in os n v ≡ 0 → number_in (os ++ ps) n v ≡ number_in ps n v) →
        cond b o.number (number_in (os ++ ps) n v) ≡ number_in ps n v
    go true h ih = absurd (omega (arith, k.0))
    go false h ih = ih h

pub number_in_kept : (os ps : List Output) (n v : ℕ) → 1 ≤ number_in os n v → number_in (os ++ ps) n v ≡ number_in os n v
unfolding number_in
number_in_kept [] ps n v h = absurd (omega arith)
number_in_kept (o ∷ os) ps n v h = go (eqb o.node n && eqb o.value v) h (number_in_kept os ps n v)
  where
    go : (b : Bool) → 1 ≤ cond b o.number (number_in os n v) → (1 ≤ number_in os n v → number_in (os ++ ps) n v ≡ number_in os n v) →
        cond b o.number (number_in (os ++ ps) n v) ≡ cond b o.number (number_in os n v)
    go true h ih = refl
    go false h ih = ih h

-- an output without a number is none of those defined
pub number_none : (os : List Output) (n v : ℕ) → number_in os n v ≡ 0 → All (λ o. 1 ≤ o.number) os →
    All (λ o. o.node ≡ n → o.value ≡ v → ⊥) os
unfolding number_in
number_none [] n v h k = tt
number_none (o ∷ os) n v h k = go (eqb o.node n) refl (eqb o.value v) refl h (λ e. number_none os n v e k.1)
  where
    go : (a : Bool) → eqb o.node n ≡ a → (b : Bool) → eqb o.value v ≡ b → cond (a && b) o.number (number_in os n v) ≡ 0 →
        (number_in os n v ≡ 0 → All (λ o. o.node ≡ n → o.value ≡ v → ⊥) os) → All (λ o. o.node ≡ n → o.value ≡ v → ⊥) (o ∷ os)
    go true p true q h ih = absurd (omega (arith, k.0))
    go true p false q h ih = ((λ a b. eqb-false o.value v q b), ih h)
    go false p b q h ih = ((λ a c. eqb-false o.node n p a), ih h)
