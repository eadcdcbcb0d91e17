-- The pass over the records, with the outputs' and the tares' own tests, decides the clauses of records, outputs and numbers.
use mathlib.Core.Path.{◌≡◌, refl, sym, ap, ap₂, ◌∙◌}
use mathlib.Core.Bool.{Bool, true, false, not, cond, ◌&&◌}
use mathlib.Core.List.{List, [], ◌∷◌, map}
use Prim.Native.Nat.{ℕ, zero, suc}
use lib.Dec.{eqb, leb, ltb}
use lib.ListN.{length, get_or}
use Rattle.rules.specs.declared.State.{State}
use Rattle.rules.specs.Lists.{all, among, distinct, rising}
use Rattle.rules.specs.Numbers.{lawful_weight, most_weight}
use Rattle.rules.specs.Records.{Record, Output, Entry, node_at, nodes, outputs, entries}
use Rattle.rules.specs.Build.{tares_of, buckets_of}
use Rattle.rules.specs.WellFormed.{is_leaf, waiting_last, outputs_rise, links_nodes, outputs_no_leaf, outputs_distinct, values_within, variable_of, numbers_of, input_variables, numbers_distinct, numbers_above, numbers_below, waiting_below_built, spares_buckets, links_spare_buckets, entries_spare_buckets, waiting_lawful}
use Rattle.laws.specs.Records.Words.{both}
use Rattle.laws.specs.Lists.Facts.{and_true, all_facts, facts_all}
use Rattle.laws.specs.Records.Places.{place, LinksPass, links_pass, pass_links}
use Rattle.laws.specs.WellFormed.Plain.{Sound}
use Rattle.laws.specs.WellFormed.Clauses.{sound_of, of_sound_leaves, of_sound_links, of_sound_heights, of_sound_maxima, of_sound_bounds}
use Rattle.check_records.specs.declared.Limits.{Limits}
use Rattle.check_records.specs.Tests.{output_right, entry_right, records_right}
use Rattle.check_well_formed.specs.Groups.{hold, numbered_clauses, numbered, Limited}
use Rattle.check_well_formed.proofs.Pass.{node_test, output_test, entry_test, pass_is, nodes_sound, sound_nodes}
use Rattle.check_well_formed.proofs.Distinct.{all_append, all_map, distinct_append, rise_distinct}
use Rattle.check_arrays.proofs.Walk.{same_truth, all_both}

-- of clauses that hold, each does
pub held_at : (cs : List Bool) → hold cs ≡ true → (i : ℕ) → get_or cs i true ≡ true
unfolding hold all
held_at [] e i = refl
held_at (c ∷ cs) e zero = (both c (hold cs) e).0
held_at (c ∷ cs) e (suc i) = held_at cs (both c (hold cs) e).1 i

module _ {A : Type 0} where
  all_split : (p q : A → Bool) (xs : List A) → all (λ x. p x && q x) xs ≡ true → (all p xs ≡ true) × (all q xs ≡ true)
  all_split p q xs e = both (all p xs) (all q xs) (sym (all_both p q xs) ∙ e)

  all_join : (p q : A → Bool) (xs : List A) → all p xs ≡ true → all q xs ≡ true → all (λ x. p x && q x) xs ≡ true
  all_join p q xs a b = all_both p q xs ∙ and_true a b

  pub all_cong : (p q : A → Bool) → ((x : A) → p x ≡ q x) → (xs : List A) → all p xs ≡ all q xs
  unfolding all
  all_cong p q f [] = refl
  all_cong p q f (x ∷ xs) = ap₂ (λ (a b : Bool). a && b) (f x) (all_cong p q f xs)

  -- tests that agree where a third holds
  all_under : (t p q : A → Bool) → ((x : A) → t x ≡ true → p x ≡ q x) → (xs : List A) → all t xs ≡ true → all p xs ≡ all q xs
  unfolding all
  all_under t p q f [] e = refl
  all_under t p q f (x ∷ xs) e =
      let (here, rest) = both (t x) (all t xs) e in
      ap₂ (λ (a b : Bool). a && b) (f x here) (all_under t p q f xs rest)

  all_when : (b : Bool) (q : A → Bool) (xs : List A) → all (λ x. cond b true (q x)) xs ≡ cond b true (all q xs)
  unfolding all
  all_when true q [] = refl
  all_when true q (x ∷ xs) = all_when true q xs
  all_when false q xs = refl

module _ (s : State) (rs : List Record) (lim : Limits) (l : Limited s rs lim) where
  above_is : numbers_above s rs ≡ (all (λ o. leb lim.low o.number) (outputs rs) && all (leb lim.low) (tares_of s))
  unfolding numbers_above input_variables numbers_of
  above_is =
      all_cong (λ n. all (λ v. ltb v n) (input_variables s rs)) (leb lim.low)
      (λ n. all_map (λ v. ltb v n) (λ (i : ℕ). variable_of (node_at rs i).kind) (rising s.inputs 0) ∙ sym (l.low_is n)) (numbers_of s rs) ∙
      (all_append (leb lim.low) (map (λ (o : Output). o.number) (outputs rs)) (tares_of s) ∙
      ap (λ (b : Bool). b && all (leb lim.low) (tares_of s)) (all_map (leb lim.low) (λ (o : Output). o.number) (outputs rs)))

  below_is : numbers_below s rs ≡ (all (λ o. ltb o.number lim.fresh) (outputs rs) && all (λ n. ltb n lim.fresh) (tares_of s))
  unfolding numbers_below numbers_of
  below_is =
      ap (λ (k : ℕ). all (λ n. ltb n k) (numbers_of s rs)) (sym l.fresh_is) ∙
      (all_append (λ n. ltb n lim.fresh) (map (λ (o : Output). o.number) (outputs rs)) (tares_of s) ∙
      ap (λ (b : Bool). b && all (λ n. ltb n lim.fresh) (tares_of s)) (all_map (λ n. ltb n lim.fresh) (λ (o : Output). o.number) (outputs rs)))

  distinct_is : outputs_rise rs ≡ true →
      numbers_distinct s rs ≡ (distinct (tares_of s) && all (λ o. not (among (tares_of s) o.number)) (outputs rs))
  unfolding numbers_distinct numbers_of outputs_rise
  distinct_is e =
      distinct_append (map (λ (o : Output). o.number) (outputs rs)) (tares_of s) ∙
      (ap (λ (b : Bool). b && (distinct (tares_of s) && all (λ x. not (among (tares_of s) x)) (map (λ (o : Output). o.number) (outputs rs))))
      (rise_distinct 0 (outputs rs) e) ∙
      ap (λ (b : Bool). distinct (tares_of s) && b) (all_map (λ x. not (among (tares_of s) x)) (λ (o : Output). o.number) (outputs rs)))

  top_is : all (λ e. leb e.weight most_weight) (entries rs) ≡ true →
      all (λ e. ltb e.weight lim.top) (entries rs) ≡ cond (eqb s.built 0) true (waiting_below_built s rs)
  unfolding waiting_below_built
  top_is e =
      all_under (λ (e : Entry). leb e.weight most_weight) (λ e. ltb e.weight lim.top)
      (λ e. cond (eqb s.built 0) true (ltb e.weight s.built)) (λ e h. l.top_is e.weight h) (entries rs) e ∙
      all_when (eqb s.built 0) (λ (e : Entry). ltb e.weight s.built) (entries rs)

  -- what both sides say
  record Facts : Type 0 where
    of_nodes : all (node_test rs) (nodes rs) ≡ true
    named : all (λ o. place rs o.node) (outputs rs) ≡ true
    no_leaf : outputs_no_leaf rs ≡ true
    values : values_within rs ≡ true
    low : all (λ o. leb lim.low o.number) (outputs rs) ≡ true
    high : all (λ o. ltb o.number lim.fresh) (outputs rs) ≡ true
    apart : all (λ o. not (among (tares_of s) o.number)) (outputs rs) ≡ true
    waiting_nodes : all (λ e. place rs e.node) (entries rs) ≡ true
    weights : waiting_lawful rs ≡ true
    below_built : cond (eqb s.built 0) true (waiting_below_built s rs) ≡ true
    entries_spare : entries_spare_buckets s rs ≡ true
    last : waiting_last rs ≡ true
    spare : links_spare_buckets s rs ≡ true
    rise : outputs_rise rs ≡ true
    differ : outputs_distinct rs ≡ true
    tares_distinct : distinct (tares_of s) ≡ true
    tares_low : all (leb lim.low) (tares_of s) ≡ true
    tares_high : all (λ n. ltb n lim.fresh) (tares_of s) ≡ true

  tested : Bool
  tested =
      records_right rs (tares_of s) (buckets_of s) lim && (outputs_rise rs && (outputs_distinct rs && (distinct (tares_of s) &&
      all (λ n. leb lim.low n && ltb n lim.fresh) (tares_of s))))

  tested_facts : tested ≡ true → Facts
  unfolding tested output_right entry_right values_within outputs_no_leaf waiting_lawful lawful_weight entries_spare_buckets links_spare_buckets
  tested_facts e =
      let outs : List Output = outputs rs in
      let waits : List Entry = entries rs in
      let (pass, e₁) = both (records_right rs (tares_of s) (buckets_of s) lim) _ e in
      let (rise, e₂) = both (outputs_rise rs) _ e₁ in
      let (differ, e₃) = both (outputs_distinct rs) _ e₂ in
      let (tares, e₄) = both (distinct (tares_of s)) _ e₃ in
      let (tl, th) = all_split (leb lim.low) (λ n. ltb n lim.fresh) (tares_of s) e₄ in
      let (each, order) = both (all (node_test rs) (nodes rs) && (all (output_test rs (tares_of s) lim) outs && all (entry_test rs (buckets_of s) lim) waits))
      (waiting_last rs && all (λ i. spares_buckets (buckets_of s) i (node_at rs i).kind) (rising (length rs) 0))
      (sym (pass_is rs (tares_of s) (buckets_of s) lim) ∙ pass) in
      let (last, spare) = both (waiting_last rs) _ order in
      let (ns, more) = both (all (node_test rs) (nodes rs)) _ each in
      let (os, es) = both (all (output_test rs (tares_of s) lim) outs) _ more in
      let (o₁, p₁) = all_split (λ (o : Output). place rs o.node) _ outs os in
      let (o₂, p₂) = all_split (λ (o : Output). not (is_leaf (node_at rs o.node).kind)) _ outs p₁ in
      let (o₃, p₃) = all_split (λ (o : Output). leb 1 o.value) _ outs p₂ in
      let (o₄, p₄) = all_split (λ (o : Output). leb o.value (node_at rs o.node).maximum) _ outs p₃ in
      let (o₅, p₅) = all_split (λ (o : Output). leb lim.low o.number) _ outs p₄ in
      let (o₆, o₇) = all_split (λ (o : Output). ltb o.number lim.fresh) (λ o. not (among (tares_of s) o.number)) outs p₅ in
      let (w₁, q₁) = all_split (λ (e : Entry). place rs e.node) _ waits es in
      let (w₂, q₂) = all_split (λ (e : Entry). leb 1 e.weight) _ waits q₁ in
      let (w₃, q₃) = all_split (λ (e : Entry). leb e.weight most_weight) _ waits q₂ in
      let (w₄, w₅) = all_split (λ (e : Entry). ltb e.weight lim.top) (λ e. not (among (buckets_of s) e.node)) waits q₃ in
      record {
        of_nodes = ns;
        named = o₁;
        no_leaf = o₂;
        values = all_join (λ (o : Output). leb 1 o.value) (λ o. leb o.value (node_at rs o.node).maximum) outs o₃ o₄;
        low = o₅;
        high = o₆;
        apart = o₇;
        waiting_nodes = w₁;
        weights = all_join (λ (e : Entry). leb 1 e.weight) (λ e. leb e.weight most_weight) waits w₂ w₃;
        below_built = sym (top_is w₃) ∙ w₄;
        entries_spare = w₅;
        last = last;
        spare = spare;
        rise = rise;
        differ = differ;
        tares_distinct = tares;
        tares_low = tl;
        tares_high = th;
      }

  facts_tested : Facts → tested ≡ true
  unfolding tested output_right entry_right values_within outputs_no_leaf waiting_lawful lawful_weight entries_spare_buckets links_spare_buckets
  facts_tested f =
      let outs : List Output = outputs rs in
      let waits : List Entry = entries rs in
      let (v₁, v₂) = all_split (λ (o : Output). leb 1 o.value) (λ o. leb o.value (node_at rs o.node).maximum) outs f.values in
      let (w₁, w₂) = all_split (λ (e : Entry). leb 1 e.weight) (λ e. leb e.weight most_weight) waits f.weights in
      let os : all (output_test rs (tares_of s) lim) outs ≡ true =
      all_join _ _ outs f.named (all_join _ _ outs f.no_leaf (all_join _ _ outs v₁ (all_join _ _ outs v₂ (all_join _ _ outs f.low
      (all_join _ _ outs f.high f.apart))))) in
      let es : all (entry_test rs (buckets_of s) lim) waits ≡ true =
      all_join _ _ waits f.waiting_nodes (all_join _ _ waits w₁ (all_join _ _ waits w₂ (all_join _ _ waits (top_is w₂ ∙ f.below_built)
      f.entries_spare))) in
      and_true (pass_is rs (tares_of s) (buckets_of s) lim ∙ and_true (and_true f.of_nodes (and_true os es)) (and_true f.last f.spare))
      (and_true f.rise (and_true f.differ (and_true f.tares_distinct (all_join (leb lim.low) (λ n. ltb n lim.fresh) (tares_of s) f.tares_low
      f.tares_high))))

  facts_numbered : Facts → numbered s rs ≡ true
  unfolding numbered numbered_clauses hold all links_nodes place
  facts_numbered f =
      let sound : Sound (node_at rs) (place rs) = nodes_sound rs f.of_nodes in
      let linked : LinksPass (place rs) rs = record {
        of_nodes = of_sound_links rs sound;
        of_outputs = all_facts (λ (o : Output). place rs o.node) (λ o e. e) (outputs rs) f.named;
        of_entries = all_facts (λ (e : Entry). place rs e.node) (λ w e. e) (entries rs) f.waiting_nodes;
      } in
      and_true f.last (and_true f.rise (and_true (of_sound_leaves rs sound) (and_true (pass_links (place rs) rs linked) (
      and_true (of_sound_heights rs sound) (and_true (of_sound_maxima rs sound) (and_true f.no_leaf (and_true f.differ (and_true f.values (
      and_true (distinct_is f.rise ∙ and_true f.tares_distinct f.apart) (and_true (above_is ∙ and_true f.low f.tares_low) (
      and_true (below_is ∙ and_true f.high f.tares_high) (and_true (of_sound_bounds rs sound) (and_true f.spare (and_true f.entries_spare (
      and_true f.weights (and_true f.below_built refl))))))))))))))))

  numbered_facts : numbered s rs ≡ true → Facts
  unfolding numbered numbered_clauses links_nodes place
  numbered_facts e =
      let at : (i : ℕ) → get_or (numbered_clauses s rs) i true ≡ true = held_at (numbered_clauses s rs) e in
      let linked : LinksPass (place rs) rs = links_pass (place rs) rs (at 3) in
      let rise : outputs_rise rs ≡ true = at 1 in
      let (tares, apart) = both (distinct (tares_of s)) (all (λ o. not (among (tares_of s) o.number)) (outputs rs)) (sym (distinct_is rise) ∙ at 9) in
      let (low, tl) = both (all (λ o. leb lim.low o.number) (outputs rs)) (all (leb lim.low) (tares_of s)) (sym above_is ∙ at 10) in
      let (high, th) = both (all (λ o. ltb o.number lim.fresh) (outputs rs)) (all (λ n. ltb n lim.fresh) (tares_of s)) (sym below_is ∙ at 11) in
      record {
        of_nodes = sound_nodes rs (sound_of rs (at 2) linked.of_nodes (at 4) (at 5) (at 12));
        named = facts_all (λ (o : Output). place rs o.node) (λ o e. e) (outputs rs) linked.of_outputs;
        no_leaf = at 6;
        values = at 8;
        low = low;
        high = high;
        apart = apart;
        waiting_nodes = facts_all (λ (e : Entry). place rs e.node) (λ w e. e) (entries rs) linked.of_entries;
        weights = at 15;
        below_built = at 16;
        entries_spare = at 14;
        last = at 0;
        spare = at 13;
        rise = rise;
        differ = at 7;
        tares_distinct = tares;
        tares_low = tl;
        tares_high = th;
      }

  pub numbered_is : (records_right rs (tares_of s) (buckets_of s) lim && (outputs_rise rs && (outputs_distinct rs && (distinct (tares_of s) &&
      all (λ n. leb lim.low n && ltb n lim.fresh) (tares_of s))))) ≡ numbered s rs
  unfolding tested
  numbered_is = same_truth tested (numbered s rs) (λ e. facts_numbered (tested_facts e)) (λ e. facts_tested (numbered_facts e))
