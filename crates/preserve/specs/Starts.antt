-- An accepted start is well formed: its records are a leaf for each combined literal, then an entry for each combined weight.
use Rattle.std.specs.Prelude.{◌≡◌, refl, ◌≢◌, Bool, true, false, cond, ◌||◌, ℕ, zero, suc, ◌+◌, ◌*◌, ◌^◌, ◌≤◌, ◌<◌, ltb, eqb, leb, ℤ, pos, nat_abs}
use Rattle.std.proofs.Math.Path.{sym, ap, ap₂, subst}
use Rattle.std.proofs.Common.{◌∙◌, arith, ltb-false, eqb-true, leb-true, ltb-true, eq-eqb, ne_eqb, lt-ltb, le-ltb, le-leb}
use Rattle.std.proofs.Math.Logic.{inl}
use Rattle.std.proofs.Math.Bool.{not}
use mathlib.Core.List.{List, [], ◌∷◌, ◌++◌, map, zip_with}
use Rattle.std.proofs.Math.ListN.{length, length-append}
use Rattle.std.proofs.lemmas.List.{length-map}
use Rattle.std.proofs.lemmas.Bool.{eqb-false}
use Rattle.rules.specs.Lists.{all, total, rising, padded}
use Rattle.rules.specs.Numbers.{lawful, lawful_weight, capacity, most_inputs, most_variable, most_weight}
use Rattle.rules.specs.Digits.{top_bit}
use Rattle.rules.specs.Combined.{combined_literals, weight_named, combined_weights}
use Rattle.rules.specs.Refusals.{first_true, lists_differ, literal_unlawful, weight_unlawful, fresh_unlawful}
use Rattle.rules.specs.Records.{Node, Output, Entry, Record, node, waits, node_at, node_of, outputs, leaf_node, literal_word}
use Rattle.rules.specs.Build.{Build, records, clause_total, clause_mark, clause_words}
use Rattle.rules.specs.WellFormed.{known, is_node, well_formed}
use Rattle.rules.specs.Start.{start_no_room, start_refusal, heaviest, starting_divisor, new_build, start, start_end}
use Rattle.laws.specs.Records.Words.{both}
use Rattle.laws.specs.Lists.Facts.{All, All_map, All_zip, All_image, All_source, All_rising, and_true, neither, not_not, all_facts, facts_all, total_cong, length_total, occurs, rising_has}
use Rattle.laws.specs.Numbers.Powers.{top_bit_power}
use Rattle.laws.specs.Records.Places.{place}
use Rattle.laws.specs.Combined.{combined_once, combined_all, combined_stands, combined_few, combined_lengths, named_positive, combined_same, combined_weights_same, combined_twice, combined_weights_twice}
use Rattle.laws.specs.WellFormed.Plain.{Ruled, Defined, Taken, Waits, variables_of, Formed}
use Rattle.laws.specs.Totalizer.Grows.{ruled_leaf, ruled_dummy}
use Rattle.laws.specs.WellFormed.Whole.{written}

-- the records and the queue of a new build
abbrev pub leaves : List ℤ → List Record
leaves xs = map (λ x. node (leaf_node x)) xs

abbrev queued : ℕ → List ℕ → List Entry
queued k ws = zip_with (λ n w. record { node = n; weight = w }) (rising (length ws) k) ws

queued_nodes : (k : ℕ) (ws : List ℕ) → map (λ (e : Entry). e.node) (queued k ws) ≡ rising (length ws) k
unfolding rising zip_with
queued_nodes k [] = refl
queued_nodes k (w ∷ ws) = ap (λ (t : List ℕ). k ∷ t) (queued_nodes (suc k) ws)

queued_weights : (k : ℕ) (ws : List ℕ) → map (λ (e : Entry). e.weight) (queued k ws) ≡ ws
unfolding rising zip_with
queued_weights k [] = refl
queued_weights k (w ∷ ws) = ap (λ (t : List ℕ). w ∷ t) (queued_weights (suc k) ws)

queued_length : (k : ℕ) (ws : List ℕ) → length (queued k ws) ≡ length ws
queued_length k ws = sym (length-map (queued k ws) (λ (e : Entry). e.weight)) ∙ ap length (queued_weights k ws)

-- place i of the literals holds a leaf
pub leaf_at : (xs : List ℤ) (i : ℕ) → i < length xs → (x : ℤ) × (node_at (leaves xs) i ≡ leaf_node x) × (place (leaves xs) i ≡ true)
unfolding node_at node_of place is_node
leaf_at [] i h = absurd (omega arith)
leaf_at (x ∷ xs) zero h = (x, refl, refl)
leaf_at (x ∷ xs) (suc i) h = leaf_at xs i (omega arith)

leaves_ruled : (at : ℕ → Node) (pl : ℕ → Bool) (xs : List ℤ) → All (λ x. lawful x ≡ true) xs → (n : ℕ) → Ruled at pl (node_at (leaves xs) n)
unfolding node_at node_of
leaves_ruled at pl [] h n = ruled_dummy at pl
leaves_ruled at pl (x ∷ xs) h zero = ruled_leaf at pl x h.0
leaves_ruled at pl (x ∷ xs) h (suc n) = leaves_ruled at pl xs h.1 n

pub no_outputs : (xs : List ℤ) → outputs (leaves xs) ≡ []
unfolding outputs
no_outputs [] = refl
no_outputs (x ∷ xs) = no_outputs xs

-- what an accepted start was lent
pub record Lent (xs : List ℤ) (ws : List ℕ) (first : ℕ) (store : List ℕ) : Type 0 where
  pub lengths : length xs ≡ length ws
  pub few : length xs ≤ 256
  pub literals : All (λ x. lawful x ≡ true) xs
  pub weights : All (λ w. (1 ≤ w) × (w ≤ 1048575)) ws
  pub first_low : 1 ≤ first
  pub first_few : first ≤ 1000000000
  pub variables_low : All (λ x. nat_abs x < first) xs
  pub room : 2 * length xs ≤ capacity store

pub not_first : (k : ℕ) (b : Bool) (rest : ℕ) → cond b (suc k) rest ≡ 0 → (b ≡ false) × (rest ≡ 0)
not_first k true rest e = absurd (omega arith)
not_first k false rest e = (refl, e)

-- it was lent the combined list of its lines
pub lent : (lits : List ℤ) (weights : List ℕ) (first : ℕ) (store : List ℕ) → start_refusal lits weights first store ≡ 0 →
    Lent (combined_literals lits) (combined_weights lits weights) first store
unfolding start_refusal first_true lists_differ literal_unlawful weight_unlawful fresh_unlawful start_no_room lawful_weight combined_weights
lent lits weights first store e =
    let (one, e₁) = not_first 0 (lists_differ lits weights) _ e in
    let (two, e₂) = not_first 1 (literal_unlawful lits) _ e₁ in
    let (four, e₃) = not_first 3 (weight_unlawful lits weights) _ e₂ in
    let (five, e₄) = not_first 4 (fresh_unlawful lits first) _ e₃ in
    let (seven, e₅) = not_first 6 (start_no_room lits store) _ e₄ in
    let (unequal, over) = neither (not (eqb (length lits) (length weights))) (ltb most_inputs (length lits)) one in
    let (zeroes, heavy) = neither (not (all lawful_weight weights)) (not (all (λ w. leb w most_weight) (combined_weights lits weights))) four in
    let (bounds, inputs) = neither (eqb first 0 || ltb most_variable first) (not (all (λ x. ltb (nat_abs x) first) lits)) five in
    let (none, top) = neither (eqb first 0) (ltb most_variable first) bounds in
    let positive : first ≢ 0 = eqb-false first 0 none in
    let lengths : length lits ≡ length weights = eqb-true (length lits) (length weights) (not_not _ unequal) in
    let lines : All (λ w. 1 ≤ w) weights = all_facts lawful_weight (λ w h. leb-true 1 w (both (leb 1 w) _ h).0) weights (not_not _ zeroes) in
    let low : All (λ w. 1 ≤ w) (combined_weights lits weights) =
    All_image (λ w. 1 ≤ w) (weight_named lits weights) (combined_literals lits) (All_map (λ x h. named_positive lits weights x lengths lines h) (combined_literals lits) (combined_stands lits)) in
    let high : All (λ w. w ≤ 1048575) (combined_weights lits weights) = all_facts (λ w. leb w most_weight) (λ w h. leb-true w most_weight h) (combined_weights lits weights) (not_not _ heavy) in
    record {
      lengths = combined_lengths lits weights;
      few = omega (arith, combined_few lits, ltb-false most_inputs (length lits) over);
      literals = combined_all (λ x. lawful x ≡ true) lits (all_facts lawful (λ x h. h) lits (not_not _ two));
      weights = All_zip (λ w a b. (a, b)) (combined_weights lits weights) low high;
      first_low = omega arith;
      first_few = ltb-false most_variable first top;
      variables_low = combined_all (λ x. nat_abs x < first) lits (all_facts (λ x. ltb (nat_abs x) first) (λ x h. ltb-true _ _ h) lits (not_not _ inputs));
      room = ltb-false (capacity store) (2 * length (combined_literals lits)) seven;
    }

-- and a list in which no literal stands twice, so lent, is accepted
pub lent_accepted : (xs : List ℤ) (ws : List ℕ) (first : ℕ) (store : List ℕ) → Lent xs ws first store → ((n : ℕ) → occurs n (map literal_word xs) ≤ 1) →
    start_refusal xs ws first store ≡ 0
unfolding start_refusal first_true lists_differ literal_unlawful weight_unlawful fresh_unlawful start_no_room lawful_weight
lent_accepted xs ws first store l once =
    let lines : all lawful_weight ws ≡ true = facts_all lawful_weight (λ w h. and_true (le-leb 1 w h.0) (le-leb w 1048575 h.1)) ws l.weights in
    let light : all (λ w. leb w most_weight) (combined_weights xs ws) ≡ true =
    ap (all (λ w. leb w most_weight)) (combined_weights_same xs ws l.lengths once) ∙ facts_all (λ w. leb w most_weight) (λ w h. le-leb w 1048575 h.1) ws l.weights in
    let same : length (combined_literals xs) ≡ length xs = ap length (combined_same xs once) in
    let positive : first ≢ 0 = λ z. omega (arith, l.first_low) in
    rw (
      eq-eqb (length xs) (length ws) l.lengths,
      le-ltb most_inputs (length xs) l.few,
      facts_all lawful (λ x h. h) xs l.literals,
      lines,
      light,
      ne_eqb first 0 positive,
      le-ltb most_variable first l.first_few,
      facts_all (λ x. ltb (nat_abs x) first) (λ x h. lt-ltb (nat_abs x) first h) xs l.variables_low,
      le-ltb (capacity store) (2 * length (combined_literals xs)) (omega (arith, same, l.room)),
    ) refl

-- an accepted start over lines is the start over their combined list
pub start_combined : (lits : List ℤ) (weights : List ℕ) (first : ℕ) (store : List ℕ) (clauses : List ℤ) → start_refusal lits weights first store ≡ 0 →
    start lits weights first store clauses ≡ start (combined_literals lits) (combined_weights lits weights) first store clauses
unfolding start
start_combined lits weights first store clauses e =
    let xs : List ℤ = combined_literals lits in
    let ws : List ℕ = combined_weights lits weights in
    let accepted : start_refusal xs ws first store ≡ 0 = lent_accepted xs ws first store (lent lits weights first store e) (combined_once lits) in
    ap₂ (λ (n : ℕ) (b : Build). start_end n b store clauses) (e ∙ sym accepted)
    (sym (ap₂ (λ (ys : List ℤ) (vs : List ℕ). new_build ys vs first) (combined_twice lits) (combined_weights_twice lits weights)))

-- a starting divisor is a power of two
starting_power : (ws : List ℕ) → starting_divisor ws ≡ 2 ^ top_bit (starting_divisor ws)
unfolding starting_divisor
starting_power ws = sym (ap (λ (k : ℕ). 2 ^ k) (top_bit_power (top_bit (heaviest ws))))

module _ (xs : List ℤ) (ws : List ℕ) (first : ℕ) (store : List ℕ) (l : Lent xs ws first store) where
  there : (i : ℕ) → i < length ws → place (leaves xs) i ≡ true
  there i h =
      let same : length xs ≡ length ws = l.lengths in
      (leaf_at xs i (omega arith)).2

  one : (i : ℕ) → i < length ws → (node_at (leaves xs) i).maximum ≡ 1
  unfolding leaf_node
  one i h =
      let same : length xs ≡ length ws = l.lengths in
      ap (λ (x : Node). x.maximum) (leaf_at xs i (omega arith)).1

  -- a fact of every input holds of every entry
  entries_are : (P : ℕ → Type 0) → ((i : ℕ) → i < length ws → P i) → All (λ e. P e.node) (queued 0 ws)
  entries_are P h = All_source P (λ (e : Entry). e.node) (queued 0 ws)
      (subst (λ (t : List ℕ). All P t) (sym (queued_nodes 0 ws)) (All_rising P (length ws) 0 (λ i a b. h i (omega arith))))

  waits_new : Waits (node_at (leaves xs)) (place (leaves xs)) (queued 0 ws)
  waits_new =
      let same : length xs ≡ length ws = l.lengths in
      let few : length xs ≤ 256 = l.few in
      let count : length (queued 0 ws) ≡ length ws = queued_length 0 ws in
      let ones : total (map (λ (e : Entry). (node_at (leaves xs) e.node).maximum) (queued 0 ws)) ≡ total
      (map (λ (e : Entry). 1) (queued 0 ws)) =
      total_cong (λ (e : Entry). (node_at (leaves xs) e.node).maximum) (λ e. 1) (queued 0 ws)
      (entries_are (λ i. (node_at (leaves xs) i).maximum ≡ 1) one) in
      record {
        nodes_wait = entries_are (λ i. place (leaves xs) i ≡ true) there;
        few = omega arith;
        maxima_few = omega (arith, ones, length_total (queued 0 ws));
        weights = All_source (λ w. (1 ≤ w) × (w ≤ 1048575)) (λ (e : Entry). e.weight) (queued 0 ws)
            (subst (λ (t : List ℕ). All (λ w. (1 ≤ w) × (w ≤ 1048575)) t) (sym (queued_weights 0 ws)) l.weights);
      }

  -- a new build is well formed
  pub new_formed : Formed (new_build xs ws first)
  unfolding new_build clause_total clause_mark clause_words known waits leaf_node occurs
  new_formed =
      let low : 1 ≤ first = l.first_low in
      let few : first ≤ 1000000000 = l.first_few in
      let none : outputs (leaves xs) ≡ [] = no_outputs xs in
      record {
        all_known = All_image (λ r. known r ≡ true) (λ x. node (leaf_node x)) xs (All_map (λ x h. refl) xs l.literals);
        none_waits = All_image (λ r. not (waits r) ≡ true) (λ x. node (leaf_node x)) xs (All_map (λ x h. refl) xs l.literals);
        first_low = low;
        first_high = omega arith;
        fresh_few = omega arith;
        clauses_few = omega arith;
        inputs_few = l.few;
        inputs_first = λ i h. let (x, is, p) = leaf_at xs i h in (x, ap (λ (y : Node). y.kind) is);
        sound = leaves_ruled (node_at (leaves xs)) (place (leaves xs)) xs l.literals;
        defined = subst (λ (os : List Output). Defined (node_at (leaves xs)) (place (leaves xs)) os) (sym none)
            (record { valued = tt; rise = tt; differ = tt });
        taken = subst (λ (os : List Output). Taken (variables_of (node_at (leaves xs)) (length xs)) first
            (map (λ (o : Output). o.number) os ++ [])) (sym none)
            (record { once = λ n. omega arith; above_inputs = tt; below_fresh = tt });
        waiting_are = waits_new;
        spares = λ i half a b e. (refl, inl refl);
        entries_spare = entries_are (λ i. occurs i [] ≡ 0) (λ i h. refl);
        set_power = starting_power ws;
        if_unbuilt = λ z. record {
          no_tare = refl;
          no_bucket = refl;
          count = queued_length 0 ws ∙ sym l.lengths;
          each_waits = λ i h. subst (λ (t : List ℕ). 1 ≤ occurs i t) (sym (queued_nodes 0 ws))
              (rising_has (length ws) 0 i (omega arith) (omega (arith, l.lengths)));
          sum_is = ap total (queued_weights 0 ws);
        };
        if_built = λ n. absurd (n refl);
      }

  new_length : length (records (new_build xs ws first)) ≡ length xs + length ws
  unfolding records new_build
  new_length =
      length-append (leaves xs) _ ∙ ap₂ (λ x y. x + y) (length-map xs (λ x. node (leaf_node x)))
      (length-map (queued 0 ws) _ ∙ queued_length 0 ws)

-- an accepted start is well formed
pub accepted_start : (lits : List ℤ) (weights : List ℕ) (first : ℕ) (store : List ℕ) (clauses : List ℤ) → start_refusal lits weights first store ≡ 0 →
    well_formed (start lits weights first store clauses).answer.state (start lits weights first store clauses).store
    (start lits weights first store clauses).clauses ≡ true
unfolding start start_end new_build clause_mark clause_words
accepted_start lits weights first store clauses e =
    let xs : List ℤ = combined_literals lits in
    let ws : List ℕ = combined_weights lits weights in
    let b : Build = new_build xs ws first in
    let l : Lent xs ws first store = lent lits weights first store e in
    ap (λ (n : ℕ). well_formed (start_end n b store clauses).answer.state (start_end n b store clauses).store
    (start_end n b store clauses).clauses) e ∙
    written b store (padded (pos 0) (length clauses) []) (new_formed xs ws first store l)
    (omega (arith, new_length xs ws first store l, l.lengths, l.room)) (omega arith)
