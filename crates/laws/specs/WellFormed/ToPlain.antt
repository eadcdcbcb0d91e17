-- The clauses of well formed give its facts.
use Rattle.std.specs.Prelude.{◌≡◌, refl, ◌≢◌, Bool, false, cond, eqb, replicate, ℤ}
use Rattle.std.proofs.Common.{sym, ◌∙◌, arith, length-append, length-take}
use Rattle.std.proofs.Math.Path.{ap, subst}
use Rattle.std.proofs.Math.Bool.{true, not}
use mathlib.Core.List.{List, [], ◌∷◌, ◌++◌, map, append-nil}
use Prim.Native.Nat.{ℕ, suc, ◌+◌, ◌-◌, ◌≤◌, ◌<◌, min}
use Rattle.std.proofs.Math.Dec.{leb, ltb}
use Rattle.std.proofs.Math.ListN.{length, take}
use Rattle.std.proofs.lemmas.List.{length-replicate}
use borrow.Author.Tests.{eqb-true, eq-eqb, ne_eqb, leb-true, ltb-true}
use Rattle.rules.specs.declared.State.{State}
use Rattle.rules.specs.Lists.{all, among, keep, rising, padded}
use Rattle.rules.specs.Numbers.{lawful_weight}
use Rattle.rules.specs.Records.{leaf, Node, Output, Entry, Record, waiting, waits, node_at, left_link, outputs, entries}
use Rattle.rules.specs.Build.{records, clause_total, clause_mark, clause_words, some_wait, tares_of, buckets_of, build_over}
use Rattle.rules.specs.WellFormed.{slots_within, tares_within, buckets_within, clauses_within, variables_below, fresh_within, known, kinds_known, is_leaf, inputs_first, waiting_last, outputs_rise, leaves_lawful, links_nodes, heights_right, maxima_right, outputs_no_leaf, outputs_distinct, values_within, numbers_of, input_variables, numbers_distinct, numbers_above, numbers_below, set_lawful, two_inputs, built_power, built_coarser, built_times_weight, some_bucket, few_buckets, buckets_linked, left_maxima_within, waiting_below_built, no_tare, no_bucket, inputs_wait, weights_add, maxima_within, links_spare_buckets, entries_spare_buckets, inputs_within, waiting_within, waiting_maxima_within, waiting_lawful, built_clauses, unbuilt_clauses, clauses_over}
use Rattle.laws.specs.Records.Words.{both, same_true}
use Rattle.laws.specs.Lists.Facts.{All, All_keep, rising_at, and_true, not_yes, all_facts, occurs}
use Rattle.laws.specs.Lists.Counts.{among_occurs, not_among_occurs, distinct_occurs}
use Rattle.laws.specs.Numbers.Powers.{power_is}
use Rattle.laws.specs.Records.Places.{place, nodes_same, places_same, waiting_none, outputs_append, outputs_of_waiting, LinksPass, links_pass}
use Rattle.laws.specs.WellFormed.Plain.{Sound, Defined, variables_of, Taken, Waits, Spares, Linked, Built, Unbuilt, Formed, Laid}
use Rattle.laws.specs.WellFormed.Clauses.{leaf_test, sound_of, rise_of, differ_of, valued_of, linked_of, spares_of, last_of}

all_split : (bs cs : List Bool) → all (λ c. c) (bs ++ cs) ≡ true → (all (λ c. c) bs ≡ true) × (all (λ c. c) cs ≡ true)
unfolding all
all_split [] cs e = (refl, e)
all_split (b ∷ bs) cs e =
    let (here, rest) = both b (all (λ c. c) (bs ++ cs)) e in
    let (front, back) = all_split bs cs rest in
    (and_true here front, back)

keep_passes : {A : Type 0} (p : A → Bool) (xs : List A) → All (λ x. p x ≡ true) (keep p xs)
unfolding keep
keep_passes p [] = tt
keep_passes p (x ∷ xs) = go (p x) refl (keep_passes p xs)
  where
    go : (b : Bool) → p x ≡ b → All (λ x. p x ≡ true) (keep p xs) → All (λ x. p x ≡ true) (cond b (x ∷ keep p xs) (keep p xs))
    go true e ih = (e, ih)
    go false e ih = ih

pub padded_length : {A : Type 0} (z : A) (n : ℕ) (xs : List A) → length (padded z n xs) ≡ length xs + (n - length xs)
unfolding padded
padded_length z n xs = length-append xs (replicate (n - length xs) z) ∙ ap (λ k. length xs + k) (length-replicate (n - length xs) z)

-- slots whose unused ones are 0 have as many used ones as they count
pub slots_count : (n used : ℕ) (slots : List ℕ) → used ≤ n → padded 0 n (take used slots) ≡ slots → length (take used slots) ≡ used
slots_count n used slots h e =
    let whole : length slots ≡ length (take used slots) + (n - length (take used slots)) = ap length (sym e) ∙
    padded_length 0 n (take used slots) in
    let front : length (take used slots) ≡ min used (length slots) = length-take used slots in
    omega arith

-- the clauses give the facts
module _ (s : State) (rs : List Record) (e : all (λ c. c) (clauses_over s rs) ≡ true) where
  -- the clauses by name
  record Clauses : Type 0 where
    c_tares : tares_within s ≡ true
    c_buckets : buckets_within s ≡ true
    c_clauses : clauses_within s ≡ true
    c_variables : variables_below s ≡ true
    c_fresh : fresh_within s ≡ true
    c_known : kinds_known rs ≡ true
    c_first : inputs_first s rs ≡ true
    c_last : waiting_last rs ≡ true
    c_rise : outputs_rise rs ≡ true
    c_leaves : leaves_lawful rs ≡ true
    c_links : links_nodes rs ≡ true
    c_heights : heights_right rs ≡ true
    c_maxima : maxima_right rs ≡ true
    c_no_leaf : outputs_no_leaf rs ≡ true
    c_differ : outputs_distinct rs ≡ true
    c_values : values_within rs ≡ true
    c_distinct : numbers_distinct s rs ≡ true
    c_above : numbers_above s rs ≡ true
    c_below : numbers_below s rs ≡ true
    c_set : set_lawful s ≡ true
    c_when : all (λ c. c) (cond (eqb s.built 0) (unbuilt_clauses s rs) (built_clauses s rs)) ≡ true
    c_bounds : maxima_within rs ≡ true
    c_spare : links_spare_buckets s rs ≡ true
    c_entries : entries_spare_buckets s rs ≡ true
    c_inputs : inputs_within s ≡ true
    c_few : waiting_within rs ≡ true
    c_maxima_few : waiting_maxima_within rs ≡ true
    c_weights : waiting_lawful rs ≡ true

  named : Clauses
  unfolding clauses_over all
  named =
      let (r1, e1) = both (tares_within s) _ e in
      let (r2, e2) = both (buckets_within s) _ e1 in
      let (r3, e3) = both (clauses_within s) _ e2 in
      let (r4, e4) = both (variables_below s) _ e3 in
      let (r5, e5) = both (fresh_within s) _ e4 in
      let (r6, e6) = both (kinds_known rs) _ e5 in
      let (r7, e7) = both (inputs_first s rs) _ e6 in
      let (r8, e8) = both (waiting_last rs) _ e7 in
      let (r9, e9) = both (outputs_rise rs) _ e8 in
      let (r10, e10) = both (leaves_lawful rs) _ e9 in
      let (r11, e11) = both (links_nodes rs) _ e10 in
      let (r12, e12) = both (heights_right rs) _ e11 in
      let (r13, e13) = both (maxima_right rs) _ e12 in
      let (r14, e14) = both (outputs_no_leaf rs) _ e13 in
      let (r15, e15) = both (outputs_distinct rs) _ e14 in
      let (r16, e16) = both (values_within rs) _ e15 in
      let (r17, e17) = both (numbers_distinct s rs) _ e16 in
      let (r18, e18) = both (numbers_above s rs) _ e17 in
      let (r19, e19) = both (numbers_below s rs) _ e18 in
      let (r20, e20) = both (set_lawful s) _ e19 in
      let (r21, e21) = all_split (cond (eqb s.built 0) (unbuilt_clauses s rs) (built_clauses s rs)) _ e20 in
      let (r22, e22) = both (maxima_within rs) _ e21 in
      let (r23, e23) = both (links_spare_buckets s rs) _ e22 in
      let (r24, e24) = both (entries_spare_buckets s rs) _ e23 in
      let (r25, e25) = both (inputs_within s) _ e24 in
      let (r26, e26) = both (waiting_within rs) _ e25 in
      let (r27, e27) = both (waiting_maxima_within rs) _ e26 in
      record {
        c_tares = r1;
        c_buckets = r2;
        c_clauses = r3;
        c_variables = r4;
        c_fresh = r5;
        c_known = r6;
        c_first = r7;
        c_last = r8;
        c_rise = r9;
        c_leaves = r10;
        c_links = r11;
        c_heights = r12;
        c_maxima = r13;
        c_no_leaf = r14;
        c_differ = r15;
        c_values = r16;
        c_distinct = r17;
        c_above = r18;
        c_below = r19;
        c_set = r20;
        c_when = r21;
        c_bounds = r22;
        c_spare = r23;
        c_entries = r24;
        c_inputs = r25;
        c_few = r26;
        c_maxima_few = r27;
        c_weights = (both (waiting_lawful rs) _ e27).0;
      }

  pub laid_of : Laid s rs
  unfolding tares_within buckets_within slots_within variables_below records build_over
  laid_of =
      let (few, tares) = both (leb s.tares_used 19) _ named.c_tares in
      let (few', buckets) = both (leb s.buckets_used 20) _ named.c_buckets in
      record {
        tares_few = leb-true _ _ few;
        tares_laid = same_true _ _ tares;
        buckets_few = leb-true _ _ few';
        buckets_laid = same_true _ _ buckets;
        variables_few = ltb-true _ _ named.c_variables;
        waiting_last = last_of rs named.c_last;
      }

  abbrev made : List Record
  made = keep (λ r. not (waits r)) rs

  at_made : node_at rs ≡ node_at made
  at_made = ap node_at (last_of rs named.c_last) ∙ nodes_same made (map waiting (entries rs)) (waiting_none (entries rs))

  place_made : place rs ≡ place made
  place_made = ap place (last_of rs named.c_last) ∙ places_same made (map waiting (entries rs)) (waiting_none (entries rs))

  outputs_made : outputs rs ≡ outputs made
  outputs_made =
      ap outputs (last_of rs named.c_last) ∙
      (outputs_append made (map waiting (entries rs)) ∙
      (ap (λ (t : List Output). outputs made ++ t) (outputs_of_waiting (entries rs)) ∙ append-nil (outputs made)))

  passes : LinksPass (place rs) rs
  unfolding links_nodes place
  passes = links_pass (place rs) rs named.c_links

  when_unbuilt : s.built ≡ 0 → Unbuilt (build_over s rs)
  unfolding unbuilt_clauses all no_tare no_bucket inputs_wait weights_add build_over tares_of buckets_of
  when_unbuilt z =
      let c : all (λ c. c) (unbuilt_clauses s rs) ≡ true =
      ap (λ (t : Bool). all (λ c. c) (cond t (unbuilt_clauses s rs) (built_clauses s rs))) (sym (eq-eqb _ _ z)) ∙ named.c_when in
      let (r1, e1) = both (no_tare s) _ c in
      let (r2, e2) = both (no_bucket s) _ e1 in
      let (r3, e3) = both (inputs_wait s rs) _ e2 in
      let (r4, e4) = both (weights_add s rs) _ e3 in
      let (count, each) = both (eqb (length (entries rs)) s.inputs) _ r3 in
      let ns : List ℕ = map (λ (e : Entry). e.node) (entries rs) in
      record {
        no_tare = ap (λ (k : ℕ). take k s.tares) (eqb-true s.tares_used 0 r1);
        no_bucket = ap (λ (k : ℕ). take k s.buckets) (eqb-true s.buckets_used 0 r2);
        count = eqb-true _ _ count;
        each_waits = λ i h. rising_at (λ i. 1 ≤ occurs i ns) s.inputs 0
            (all_facts (among ns) (λ i. among_occurs ns i) (rising s.inputs 0) each) i (omega arith) (omega arith);
        sum_is = eqb-true _ _ r4;
      }

  when_built : s.built ≢ 0 → Built (build_over s rs)
  unfolding built_clauses all two_inputs built_power built_coarser built_times_weight some_bucket few_buckets buckets_linked left_maxima_within waiting_below_built build_over
  when_built n =
      let c : all (λ c. c) (built_clauses s rs) ≡ true =
      ap (λ (t : Bool). all (λ c. c) (cond t (unbuilt_clauses s rs) (built_clauses s rs))) (sym (ne_eqb _ _ n)) ∙ named.c_when in
      let (r1, e1) = both (two_inputs s) _ c in
      let (r2, e2) = both (built_power s) _ e1 in
      let (r3, e3) = both (built_coarser s) _ e2 in
      let (r4, e4) = both (built_times_weight s) _ e3 in
      let (r5, e5) = both (some_bucket s) _ e4 in
      let (r6, e6) = both (few_buckets s) _ e5 in
      let (r7, e7) = both (buckets_linked s rs) _ e6 in
      let (r8, e8) = both (left_maxima_within s rs) _ e7 in
      let (r9, e9) = both (waiting_below_built s rs) _ e8 in
      let tares : length (tares_of s) ≡ s.tares_used = count_tares in
      let buckets : length (buckets_of s) ≡ s.buckets_used = count_buckets in
      let some : 1 ≤ s.buckets_used = leb-true _ _ r5 in
      let few : s.buckets_used ≤ suc s.tares_used = leb-true _ _ r6 in
      record {
        two = leb-true _ _ r1;
        power = power_is s.built r2;
        coarser = leb-true _ _ r3;
        times_weight = rw tares (leb-true _ _ r4);
        some = omega arith;
        few = omega arith;
        linked = subst (λ (at : ℕ → Node). Linked at (some_wait (entries rs)) (buckets_of s)) at_made
            (linked_of rs (some_wait (entries rs)) (buckets_of s) r7);
        lefts = subst (λ (at : ℕ → Node). All (λ n. (at (left_link (at n).kind)).maximum ≤ 257) (buckets_of s)) at_made
            (all_facts (λ n. leb (node_at rs (left_link (node_at rs n).kind)).maximum 257) (λ n e. leb-true _ _ e) (buckets_of s) r8);
        below_built = all_facts (λ e. ltb e.weight s.built) (λ e h. ltb-true _ _ h) (entries rs) r9;
      }
    where
      count_tares : length (tares_of s) ≡ s.tares_used
      count_tares = slots_count 19 s.tares_used s.tares laid_of.tares_few laid_of.tares_laid

      count_buckets : length (buckets_of s) ≡ s.buckets_used
      count_buckets = slots_count 20 s.buckets_used s.buckets laid_of.buckets_few laid_of.buckets_laid

  pub formed_of : Formed (build_over s rs)
  unfolding build_over clause_total clause_mark clause_words kinds_known fresh_within clauses_within inputs_within inputs_first outputs_rise outputs_distinct numbers_distinct numbers_above numbers_below numbers_of input_variables waiting_within waiting_maxima_within waiting_lawful lawful_weight links_spare_buckets entries_spare_buckets set_lawful
  formed_of =
      let few : s.variables < s.fresh = laid_of.variables_few in
      let words : s.clauses ≤ s.words = leb-true _ _ named.c_clauses in
      let sound : Sound (node_at rs) (place rs) = sound_of rs named.c_leaves passes.of_nodes named.c_heights named.c_maxima
      named.c_bounds in
      let defined : Defined (node_at rs) (place rs) (outputs rs) = record {
        valued = valued_of rs named.c_no_leaf named.c_values passes.of_outputs;
        rise = rise_of 0 (outputs rs) named.c_rise;
        differ = differ_of (outputs rs) named.c_differ;
      } in
      let numbers : List ℕ = map (λ (o : Output). o.number) (outputs rs) ++ tares_of s in
      let taken : Taken (variables_of (node_at rs) s.inputs) s.fresh numbers = record {
        once = distinct_occurs numbers named.c_distinct;
        above_inputs = all_facts (λ n. all (λ v. ltb v n) (variables_of (node_at rs) s.inputs))
            (λ n e. all_facts (λ v. ltb v n) (λ v e. ltb-true _ _ e) (variables_of (node_at rs) s.inputs) e) numbers named.c_above;
        below_fresh = all_facts (λ n. ltb n s.fresh) (λ n e. ltb-true _ _ e) numbers named.c_below;
      } in
      let waiters : Waits (node_at rs) (place rs) (entries rs) = record {
        nodes_wait = passes.of_entries;
        few = leb-true _ _ named.c_few;
        maxima_few = leb-true _ _ named.c_maxima_few;
        weights = all_facts (λ e. lawful_weight e.weight)
            (λ e h. let (a, b) = both (leb 1 e.weight) _ h in (leb-true _ _ a, leb-true _ _ b)) (entries rs) named.c_weights;
      } in
      let firsts : (i : ℕ) → i < s.inputs → (x : ℤ) × ((node_at rs i).kind ≡ leaf x) =
      λ i h. rising_at (λ i. (x : ℤ) × ((node_at rs i).kind ≡ leaf x)) s.inputs 0
      (all_facts (λ i. is_leaf (node_at rs i).kind) (λ i e. leaf_test (node_at rs i).kind e) (rising s.inputs 0) named.c_first) i
      (omega arith) (omega arith) in
      record {
        all_known = All_keep (λ r. known r ≡ true) (λ r. not (waits r)) rs (all_facts known (λ r e. e) rs named.c_known);
        none_waits = keep_passes (λ r. not (waits r)) rs;
        first_low = omega arith;
        first_high = omega arith;
        fresh_few = leb-true _ _ named.c_fresh;
        clauses_few = omega arith;
        inputs_few = leb-true _ _ named.c_inputs;
        inputs_first = subst (λ (at : ℕ → Node). (i : ℕ) → i < s.inputs → (x : ℤ) × ((at i).kind ≡ leaf x)) at_made firsts;
        sound = subst (λ (p : ℕ → Bool). Sound (node_at made) p) place_made (subst (λ (at : ℕ → Node). Sound at (place rs)) at_made sound);
        defined = subst (λ (os : List Output). Defined (node_at made) (place made) os) outputs_made
            (subst (λ (p : ℕ → Bool). Defined (node_at made) p (outputs rs)) place_made
            (subst (λ (at : ℕ → Node). Defined at (place rs) (outputs rs)) at_made defined));
        taken = subst (λ (os : List Output). Taken (variables_of (node_at made) s.inputs) s.fresh
            (map (λ (o : Output). o.number) os ++ tares_of s)) outputs_made
            (subst (λ (at : ℕ → Node). Taken (variables_of at s.inputs) s.fresh numbers) at_made taken);
        waiting_are = subst (λ (p : ℕ → Bool). Waits (node_at made) p (entries rs)) place_made
            (subst (λ (at : ℕ → Node). Waits at (place rs) (entries rs)) at_made waiters);
        spares = subst (λ (at : ℕ → Node). Spares at (buckets_of s)) at_made (spares_of rs (buckets_of s) named.c_spare);
        entries_spare = all_facts (λ e. not (among (buckets_of s) e.node))
            (λ e h. not_among_occurs (buckets_of s) e.node (not_yes _ h)) (entries rs) named.c_entries;
        set_power = power_is s.set named.c_set;
        if_unbuilt = when_unbuilt;
        if_built = when_built;
      }
