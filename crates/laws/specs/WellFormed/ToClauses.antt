-- The facts of well formed give its clauses; at most 19 tares and 20 buckets.
use Rattle.std.specs.Prelude.{◌≡◌, ◌≢◌, Bool, true, false, cond, ◌&&◌, eqb, replicate, ℤ}
use Rattle.std.proofs.Math.Path.{refl, sym, ap, subst}
use Rattle.std.proofs.Common.{◌∙◌, ap₂, arith, pow_mono}
use Rattle.std.proofs.Math.Bool.{not}
use mathlib.Core.List.{List, [], ◌∷◌, ◌++◌, map, append-nil}
use Prim.Native.Nat.{ℕ, zero, suc, ◌*◌, ◌-◌, ◌^◌, ◌≤◌, ◌<◌}
use Rattle.std.proofs.Math.Dec.{leb, ltb}
use Rattle.std.proofs.Math.ListN.{length}
use Rattle.std.proofs.Math.Seq.{take-append_seam}
use borrow.Author.Tests.{eqb-true, eqb-false, eq-eqb, le-leb, ltb-true, ltb-false, lt-ltb}
use Rattle.rules.specs.Lists.{all, among, same, rising, total, padded}
use Rattle.rules.specs.Numbers.{lawful_weight}
use Rattle.rules.specs.Digits.{top_bit}
use Rattle.rules.specs.Records.{leaf, Node, Output, Entry, Record, waiting, waits, node_at, left_link, outputs, entries}
use Rattle.rules.specs.Build.{Build, records, variable_total, state_of, some_wait, tares_of, buckets_of}
use Rattle.rules.specs.WellFormed.{slots_within, tares_within, buckets_within, clauses_within, variables_below, fresh_within, known, kinds_known, is_leaf, inputs_first, outputs_rise, links_nodes, outputs_distinct, numbers_of, input_variables, numbers_distinct, numbers_above, numbers_below, set_lawful, two_inputs, built_power, built_coarser, built_times_weight, some_bucket, few_buckets, linked, buckets_linked, left_maxima_within, waiting_below_built, no_tare, no_bucket, inputs_wait, weights_add, links_spare_buckets, entries_spare_buckets, inputs_within, waiting_within, waiting_maxima_within, waiting_lawful, built_clauses, unbuilt_clauses, clauses_over}
use Rattle.laws.specs.Records.Words.{both, same_self, entries_after}
use Rattle.laws.specs.Lists.Facts.{All, All_append, All_rising, and_true, facts_all, occurs}
use Rattle.laws.specs.Lists.Counts.{occurs_among, occurs_not_among, occurs_distinct}
use Rattle.laws.specs.Numbers.Powers.{power_lawful}
use Rattle.laws.specs.Records.Places.{place, nodes_same, places_same, waiting_none, outputs_append, outputs_of_waiting, LinksPass, pass_links}
use Rattle.laws.specs.WellFormed.Plain.{Sound, Defined, variables_of, Taken, Waits, Spares, Linked, Built, Unbuilt, Formed}
use Rattle.laws.specs.WellFormed.Clauses.{of_sound_leaves, of_sound_links, of_sound_heights, of_sound_maxima, of_sound_bounds, of_rise, of_differ, of_valued_no_leaf, of_valued_within, of_valued_named, of_linked, of_spares, of_last}

-- two tests that hold, one after the other
infixr 40 ◌also◌
pub ◌also◌ : {a b : Bool} → a ≡ true → b ≡ true → (a && b) ≡ true
p also q = and_true p q

all_joined : (bs cs : List Bool) → all (λ c. c) bs ≡ true → all (λ c. c) cs ≡ true → all (λ c. c) (bs ++ cs) ≡ true
unfolding all
all_joined [] cs e f = f
all_joined (b ∷ bs) cs e f =
    let (here, rest) = both b (all (λ c. c) bs) e in
    and_true here (all_joined bs cs rest f)

pub waiting_known : (q : List Entry) → All (λ r. known r ≡ true) (map waiting q)
unfolding known
waiting_known [] = tt
waiting_known (e ∷ q) = (refl, waiting_known q)

within_weight : (d w : ℕ) → d ≢ 0 → d * w ≤ 524288 → w ≤ 524288
within_weight zero w h k = absurd (h refl)
within_weight (suc d) w h k = omega arith

pub power_within : (n : ℕ) → 2 ^ n ≤ 524288 → n ≤ 19
power_within n h = go (ltb 19 n) refl
  where
    go : (b : Bool) → ltb 19 n ≡ b → n ≤ 19
    go true e = absurd (omega (arith, pow_mono {i = 20} {j = n} (ltb-true 19 n e)))
    go false e = ltb-false 19 n e

-- at most 19 tares
pub tares_within_19 : (b : Build) → Formed b → length b.tares ≤ 19
tares_within_19 b f = go (eqb b.built 0) refl
  where
    go : (t : Bool) → eqb b.built 0 ≡ t → length b.tares ≤ 19
    go true e = omega (arith, ap length (f.if_unbuilt (eqb-true _ _ e)).no_tare)
    go false e =
        let built : b.built ≢ 0 = eqb-false b.built 0 e in
        power_within (length b.tares) (within_weight b.built (2 ^ length b.tares) built (f.if_built built).times_weight)

-- and 20 buckets
pub buckets_within_20 : (b : Build) → Formed b → length b.buckets ≤ 20
buckets_within_20 b f = go (eqb b.built 0) refl
  where
    go : (t : Bool) → eqb b.built 0 ≡ t → length b.buckets ≤ 20
    go true e = omega (arith, ap length (f.if_unbuilt (eqb-true _ _ e)).no_bucket)
    go false e = omega (arith, (f.if_built (eqb-false b.built 0 e)).few, tares_within_19 b f)

-- the facts give the clauses
module _ (b : Build) (f : Formed b) where
  abbrev own : List Record
  own = b.arena.records

  at_all : node_at own ≡ node_at (records b)
  unfolding records
  at_all = sym (nodes_same own (map waiting b.queue) (waiting_none b.queue))

  place_all : place own ≡ place (records b)
  unfolding records
  place_all = sym (places_same own (map waiting b.queue) (waiting_none b.queue))

  outputs_all : outputs own ≡ outputs (records b)
  unfolding records
  outputs_all =
      sym (outputs_append own (map waiting b.queue) ∙
      (ap (λ (t : List Output). outputs own ++ t) (outputs_of_waiting b.queue) ∙ append-nil (outputs own)))

  entries_all : entries (records b) ≡ b.queue
  unfolding records
  entries_all = entries_after own b.queue (facts_all (λ r. not (waits r)) (λ r e. e) own f.none_waits)

  tares_are : tares_of (state_of b) ≡ b.tares
  unfolding tares_of state_of padded
  tares_are = take-append_seam b.tares (replicate (19 - length b.tares) 0)

  buckets_are : buckets_of (state_of b) ≡ b.buckets
  unfolding buckets_of state_of padded
  buckets_are = take-append_seam b.buckets (replicate (20 - length b.buckets) 0)

  sound_all : Sound (node_at (records b)) (place (records b))
  sound_all = subst (λ (p : ℕ → Bool). Sound (node_at (records b)) p) place_all
      (subst (λ (at : ℕ → Node). Sound at (place own)) at_all f.sound)

  defined_all : Defined (node_at (records b)) (place (records b)) (outputs (records b))
  defined_all =
      subst (λ (os : List Output). Defined (node_at (records b)) (place (records b)) os) outputs_all
      (subst (λ (p : ℕ → Bool). Defined (node_at (records b)) p (outputs own)) place_all
      (subst (λ (at : ℕ → Node). Defined at (place own) (outputs own)) at_all f.defined))

  abbrev numbers_all : List ℕ
  numbers_all = map (λ (o : Output). o.number) (outputs (records b)) ++ tares_of (state_of b)

  taken_all : Taken (variables_of (node_at (records b)) b.inputs) b.arena.fresh numbers_all
  taken_all =
      subst (λ (t : List ℕ). Taken (variables_of (node_at (records b)) b.inputs) b.arena.fresh
      (map (λ (o : Output). o.number) (outputs (records b)) ++ t)) (sym tares_are)
      (subst (λ (os : List Output). Taken (variables_of (node_at (records b)) b.inputs) b.arena.fresh
      (map (λ (o : Output). o.number) os ++ b.tares)) outputs_all
      (subst (λ (at : ℕ → Node). Taken (variables_of at b.inputs) b.arena.fresh
      (map (λ (o : Output). o.number) (outputs own) ++ b.tares)) at_all f.taken))

  waits_all : Waits (node_at (records b)) (place (records b)) (entries (records b))
  waits_all =
      subst (λ (q : List Entry). Waits (node_at (records b)) (place (records b)) q) (sym entries_all)
      (subst (λ (p : ℕ → Bool). Waits (node_at (records b)) p b.queue) place_all
      (subst (λ (at : ℕ → Node). Waits at (place own) b.queue) at_all f.waiting_are))

  spares_all : Spares (node_at (records b)) (buckets_of (state_of b))
  spares_all =
      subst (λ (t : List ℕ). Spares (node_at (records b)) t) (sym buckets_are)
      (subst (λ (at : ℕ → Node). Spares at b.buckets) at_all f.spares)

  passes_all : LinksPass (place (records b)) (records b)
  passes_all = record {
    of_nodes = of_sound_links (records b) sound_all;
    of_outputs = of_valued_named (records b) defined_all.valued;
    of_entries = waits_all.nodes_wait;
  }

  unbuilt_all : b.built ≡ 0 → all (λ c. c) (unbuilt_clauses (state_of b) (records b)) ≡ true
  unfolding unbuilt_clauses all no_tare no_bucket inputs_wait weights_add state_of
  unbuilt_all z =
      let u : Unbuilt b = f.if_unbuilt z in
      eq-eqb _ _ (ap length u.no_tare) also
      eq-eqb _ _ (ap length u.no_bucket) also
      (eq-eqb _ _ (ap length entries_all ∙ u.count) also
      (ap (λ (q : List Entry). all (among (map (λ (e : Entry). e.node) q)) (rising b.inputs 0)) entries_all ∙
      facts_all (among (map (λ (e : Entry). e.node) b.queue)) (λ i h. occurs_among (map (λ (e : Entry). e.node) b.queue) i h)
      (rising b.inputs 0)
      (All_rising (λ i. 1 ≤ occurs i (map (λ (e : Entry). e.node) b.queue)) b.inputs 0 (λ i a h. u.each_waits i (omega arith)))))
      also
      eq-eqb _ _ (ap (λ (q : List Entry). total (map (λ (e : Entry). e.weight) q)) entries_all ∙ u.sum_is) also
      refl

  built_all : b.built ≢ 0 → all (λ c. c) (built_clauses (state_of b) (records b)) ≡ true
  unfolding built_clauses all two_inputs built_power built_coarser built_times_weight some_bucket few_buckets buckets_linked left_maxima_within waiting_below_built state_of
  built_all n =
      let u : Built b = f.if_built n in
      let lefts : All (λ n. (node_at (records b) (left_link (node_at (records b) n).kind)).maximum ≤ 257) (buckets_of (state_of b)) =
      subst (λ (t : List ℕ). All (λ n. (node_at (records b) (left_link (node_at (records b) n).kind)).maximum ≤ 257) t) (sym buckets_are)
      (subst (λ (at : ℕ → Node). All (λ n. (at (left_link (at n).kind)).maximum ≤ 257) b.buckets) at_all u.lefts) in
      le-leb _ _ u.two also
      power_lawful b.built (top_bit b.built) u.power also
      le-leb _ _ u.coarser also
      le-leb (b.built * 2 ^ length b.tares) (2 ^ 19) u.times_weight also
      le-leb _ _ u.some also
      le-leb _ _ u.few also
      (ap₂ (λ (q : List Entry) (t : List ℕ). linked (records b) (some_wait q) t) entries_all buckets_are ∙
      of_linked (records b) (some_wait b.queue) b.buckets
      (subst (λ (at : ℕ → Node). Linked at (some_wait b.queue) b.buckets) at_all u.linked)) also
      facts_all (λ n. leb (node_at (records b) (left_link (node_at (records b) n).kind)).maximum 257) (λ n h. le-leb _ _ h)
      (buckets_of (state_of b)) lefts also
      (ap (all (λ e. ltb e.weight b.built)) entries_all ∙
      facts_all (λ e. ltb e.weight b.built) (λ e h. lt-ltb _ _ h) b.queue u.below_built) also
      refl

  when_all : all (λ c. c) (cond (eqb b.built 0) (unbuilt_clauses (state_of b) (records b)) (built_clauses (state_of b) (records b))) ≡ true
  when_all = go (eqb b.built 0) refl
    where
      go : (t : Bool) → eqb b.built 0 ≡ t → all (λ c. c)
          (cond t (unbuilt_clauses (state_of b) (records b)) (built_clauses (state_of b) (records b))) ≡ true
      go true e = unbuilt_all (eqb-true _ _ e)
      go false e = built_all (eqb-false b.built 0 e)

  pub clauses_of : all (λ c. c) (clauses_over (state_of b) (records b)) ≡ true
  unfolding clauses_over all state_of tares_within buckets_within slots_within clauses_within variables_below variable_total fresh_within kinds_known inputs_first outputs_rise outputs_distinct links_nodes place numbers_distinct numbers_above numbers_below numbers_of input_variables set_lawful links_spare_buckets entries_spare_buckets inputs_within waiting_within waiting_maxima_within waiting_lawful lawful_weight records is_leaf
  clauses_of =
      let low : 1 ≤ b.first = f.first_low in
      let high : b.first ≤ b.arena.fresh = f.first_high in
      let rs : List Record = records b in
      let firsts : (i : ℕ) → i < b.inputs → (x : ℤ) × ((node_at rs i).kind ≡ leaf x) =
      subst (λ (at : ℕ → Node). (i : ℕ) → i < b.inputs → (x : ℤ) × ((at i).kind ≡ leaf x)) at_all f.inputs_first in
      (le-leb _ _ (tares_within_19 b f) also (ap (λ (t : List ℕ). same (padded 0 19 t) (padded 0 19 b.tares)) tares_are ∙
      same_self (padded 0 19 b.tares))) also
      (le-leb _ _ (buckets_within_20 b f) also (ap (λ (t : List ℕ). same (padded 0 20 t) (padded 0 20 b.buckets)) buckets_are ∙
      same_self (padded 0 20 b.buckets))) also
      le-leb _ _ f.clauses_few also
      lt-ltb (b.arena.fresh - b.first) b.arena.fresh (omega arith) also
      le-leb _ _ f.fresh_few also
      facts_all known (λ r e. e) rs (All_append (λ r. known r ≡ true) own (map waiting b.queue) f.all_known
      (waiting_known b.queue)) also
      facts_all (λ i. is_leaf (node_at rs i).kind) (λ i e. e) (rising b.inputs 0)
      (All_rising (λ i. is_leaf (node_at rs i).kind ≡ true) b.inputs 0 (λ i a h. ap is_leaf (firsts i (omega arith)).1)) also
      of_last own b.queue f.none_waits also
      of_rise 0 (outputs rs) defined_all.rise also
      of_sound_leaves rs sound_all also
      pass_links (place rs) rs passes_all also
      of_sound_heights rs sound_all also
      of_sound_maxima rs sound_all also
      of_valued_no_leaf rs defined_all.valued also
      of_differ (outputs rs) defined_all.differ also
      of_valued_within rs defined_all.valued also
      occurs_distinct numbers_all taken_all.once also
      facts_all (λ n. all (λ v. ltb v n) (variables_of (node_at rs) b.inputs))
      (λ n h. facts_all (λ v. ltb v n) (λ v k. lt-ltb _ _ k) (variables_of (node_at rs) b.inputs) h) numbers_all
      taken_all.above_inputs also
      facts_all (λ n. ltb n b.arena.fresh) (λ n h. lt-ltb _ _ h) numbers_all taken_all.below_fresh also
      power_lawful b.set (top_bit b.set) f.set_power also
      all_joined (cond (eqb b.built 0) (unbuilt_clauses (state_of b) rs) (built_clauses (state_of b) rs)) _ when_all (
      of_sound_bounds rs sound_all also
      of_spares rs (buckets_of (state_of b)) spares_all also
      (ap₂ (λ (q : List Entry) (t : List ℕ). all (λ e. not (among t e.node)) q) entries_all buckets_are ∙
      facts_all (λ e. not (among b.buckets e.node)) (λ e h. ap not (occurs_not_among b.buckets e.node h)) b.queue
      f.entries_spare) also
      le-leb _ _ f.inputs_few also
      le-leb _ _ waits_all.few also
      le-leb _ _ waits_all.maxima_few also
      facts_all (λ e. lawful_weight e.weight) (λ e h. and_true (le-leb _ _ h.0) (le-leb _ _ h.1)) (entries rs) waits_all.weights
      also
      refl)
