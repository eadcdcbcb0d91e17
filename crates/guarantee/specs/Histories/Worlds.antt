-- Worlds that accepted calls reach: a start, then any sets and encodes. Each is well formed, its clauses mean its outputs and it weighs its
-- inputs. Refused calls, enforce, coarse and the precision calls leave a world as it is.
use Rattle.std.specs.Prelude.{◌≡◌, refl, ◌≢◌, Bool, true, false, ◌&&◌, ltb, length, get_or, drop, ℤ, pos}
use Rattle.std.proofs.Common.{sym, ap₂, ◌∙◌, subst, arith, mul_assoc, mul_comm, length-append, pow-add}
use Rattle.std.proofs.Math.Path.{ap}
use Rattle.std.proofs.Math.Bool.{not}
use mathlib.Core.List.{List, [], ◌∷◌, ◌++◌, map, reverse, append_assoc, append-nil}
use Prim.Native.Nat.{ℕ, ◌+◌, ◌*◌, ◌-◌, ◌^◌, ◌≤◌, ◌<◌}
use Rattle.std.proofs.Math.Nat.{one-mul}
use Rattle.std.proofs.Math.Dec.{leb}
use borrow.Author.Tests.{eqb-true, ne_eqb, ltb-false, leb-true}
use Rattle.rules.specs.Lists.{total, rising, in_turn}
use Rattle.rules.specs.Numbers.{divisor_of}
use Rattle.rules.specs.Digits.{top_bit}
use Rattle.rules.specs.Refusals.{divisor_unlawful}
use Rattle.rules.specs.Records.{leaf, Node, Output, Record, node_at, outputs}
use Rattle.rules.specs.Totalizer.{Arena, define_output}
use Rattle.rules.specs.Build.{Build, restructured, with_arena, unbuilt, root, root_node, largest, some_wait}
use Rattle.rules.specs.Buckets.{build_structure}
use Rattle.rules.specs.Refinement.{due, patched, merge_structures}
use Rattle.rules.specs.Precision.{divisor_coarser}
use Rattle.rules.specs.Encode.{prepared, root_values, encode_outputs, nothing_asked, encode, divisor_above}
use Rattle.laws.specs.Lists.Facts.{rising_length, neither}
use Rattle.laws.specs.Records.Places.{place, place_inside, leaf_place}
use Rattle.laws.specs.Numbers.Powers.{top_bit_least}
use Rattle.laws.specs.WellFormed.Plain.{Formed, Built}
use Rattle.preserve.specs.Given.{Ahead}
use Rattle.preserve.specs.Sets.{set_to, set_formed}
use Rattle.preserve.specs.RefinementWhole.{merged_fresh}
use Rattle.preserve.specs.Encodes.{Ready, values_within, outputs_formed, first_ready, refined_ready, still_built, prepared_cases, encode_fresh}
use Rattle.guarantee.specs.Meaning.Values.{value}
use Rattle.guarantee.specs.Meaning.Derived.{every}
use Rattle.guarantee.specs.Meaning.Defining.{Told, Grown, grown_nodes, grown_outputs, Defines}
use Rattle.guarantee.specs.Counting.Sums.{Begins, begins_at, begins_outputs}
use Rattle.guarantee.specs.Counting.Chains.{units, tare_sum, tops}
use Rattle.guarantee.specs.Counting.Queues.{waited}
use Rattle.guarantee.specs.Promise.{sum_of}
use Rattle.guarantee.specs.Counting.Weighing.{WeighsUnbuilt, WeighsBuilt, first_begins, first_weighs}
use Rattle.guarantee.specs.Histories.Clauses.{first_told, outputs_told}
use Rattle.guarantee.specs.Refinement.Keeps.{patched_weighs, patched_outputs, patched_leaf, merged_told}

-- what accepted calls lead to from a build: sets that are neither refused with 8 nor 9, encodes that are neither refused with 10 nor need a
-- variable above 1,000,000,000
pub data Leads (b : Build) : Build → Type 0 where
  here : Leads b b
  then_set : {c : Build} (d : ℕ) → Leads b c → divisor_unlawful d ≡ false → divisor_coarser c d ≡ false → Leads b (set_to c (divisor_of d))
  then_encode : {c : Build} (lo end : ℕ) → Leads b c → (not (nothing_asked c lo end) && divisor_above c) ≡ false → (encode c lo end).arena.fresh ≤ 1000000001 → Leads b (encode c lo end)

-- what is known of a reached build
pub record World (xs : List ℤ) (ws : List ℕ) (b : Build) : Type 0 where
  pub formed : Formed b
  pub ahead : Ahead b
  pub inputs_are : b.inputs ≡ length xs
  pub leaves_are : (i : ℕ) → i < length xs → (node_at b.arena.records i).kind ≡ leaf (get_or xs i (pos 0))
  pub sum_is : b.sum ≡ total ws
  pub told : Told every b.arena
  pub if_unbuilt : b.built ≡ 0 → WeighsUnbuilt xs ws b
  pub if_built : b.built ≢ 0 → WeighsBuilt xs ws b

-- outputs and clauses added to a build
grown_weighs_unbuilt : (xs : List ℤ) (ws : List ℕ) (b : Build) (t : Arena) → Grown b.arena t → WeighsUnbuilt xs ws b → WeighsUnbuilt xs ws (with_arena b t)
unfolding with_arena restructured
grown_weighs_unbuilt xs ws b t g w = record {
  waits = λ k u. subst (λ (at : ℕ → Node). sum_of xs ws (2 ^ k) u ≡ waited (λ n. value at u n) (2 ^ k) b.queue) (sym (grown_nodes b.arena t g)) (w.waits k u);
}

grown_weighs : (xs : List ℤ) (ws : List ℕ) (b : Build) (t : Arena) → Grown b.arena t → WeighsBuilt xs ws b → WeighsBuilt xs ws (with_arena b t)
unfolding with_arena restructured
grown_weighs xs ws b t g w = record {
  left_out = w.left_out;
  left_count = w.left_count;
  counts = λ u.
      subst (λ (at : ℕ → Node). 2 ^ w.left_out * units (map (λ n. value at u n) (tops at (some_wait b.queue) b.buckets)) ≡ sum_of xs ws b.built u + 2 ^ w.left_out * tare_sum u (drop w.left_out b.tares))
      (sym (grown_nodes b.arena t g)) (w.counts u);
  rest = λ j k u is.
      subst (λ (at : ℕ → Node). sum_of xs ws (2 ^ k) u ≡ 2 ^ j * sum_of xs ws b.built u + waited (λ n. value at u n) (2 ^ k) b.queue) (sym (grown_nodes b.arena t g)) (w.rest j k u is);
}

-- what stays from one build to a later one: the root, its outputs under their numbers, the tares, shifted up
pub record Follows (b c : Build) : Type 0 where
  pub still_built : c.built ≢ 0
  pub root_same : root c ≡ root b
  pub front : List ℕ
  pub tares_are : c.tares ≡ front ++ b.tares
  pub scale : 2 ^ length front * c.built ≡ b.built
  pub more : List Output
  pub outputs_are : outputs c.arena.records ≡ outputs b.arena.records ++ more

pub follows_self : (b : Build) → b.built ≢ 0 → Follows b b
follows_self b n = record {
  still_built = n;
  root_same = refl;
  front = [];
  tares_are = refl;
  scale = one-mul b.built;
  more = [];
  outputs_are = sym (append-nil (outputs b.arena.records));
}

pub follows_then : (a b c : Build) → Follows a b → Follows b c → Follows a c
follows_then a b c f g = record {
  still_built = g.still_built;
  root_same = g.root_same ∙ f.root_same;
  front = g.front ++ f.front;
  tares_are = g.tares_are ∙ (ap (λ (ts : List ℕ). g.front ++ ts) f.tares_are ∙ sym (append_assoc g.front f.front a.tares));
  scale =
      ap (λ (n : ℕ). 2 ^ n * c.built) (length-append g.front f.front) ∙
      (ap (λ (n : ℕ). n * c.built) (pow-add 2 (length g.front) (length f.front) ∙ mul_comm (2 ^ length g.front) (2 ^ length f.front)) ∙
      (mul_assoc (2 ^ length f.front) (2 ^ length g.front) c.built ∙ (ap (λ (n : ℕ). 2 ^ length f.front * n) g.scale ∙ f.scale)));
  more = f.more ++ g.more;
  outputs_are = g.outputs_are ∙ (ap (λ (os : List Output). os ++ g.more) f.outputs_are ∙ append_assoc (outputs a.arena.records) f.more g.more);
}

first_inputs : (b : Build) → (build_structure b).inputs ≡ b.inputs
unfolding build_structure restructured
first_inputs b = refl

first_sum : (b : Build) → (build_structure b).sum ≡ b.sum
unfolding build_structure restructured
first_sum b = refl

-- nodes that stand keep their kinds
leaf_begins : (rs rs' : List Record) → Begins rs rs' → (i : ℕ) (x : ℤ) → (node_at rs i).kind ≡ leaf x → (node_at rs' i).kind ≡ leaf x
leaf_begins rs rs' g i x e = ap (λ (nd : Node). nd.kind) (begins_at rs rs' g i (place_inside rs i (leaf_place rs i x e))) ∙ e

-- the first build
pub first_world : (xs : List ℤ) (ws : List ℕ) (b : Build) → World xs ws b → 2 ≤ b.inputs → divisor_above b ≡ false → unbuilt b ≡ true → (build_structure b).arena.fresh ≤ 1000000001 → World xs ws (build_structure b)
unfolding unbuilt divisor_above
first_world xs ws b w two above e few =
    let z : b.built ≡ 0 = eqb-true b.built 0 e in
    let reach : b.set ≤ largest b.queue = ltb-false (largest b.queue) b.set (ap (λ (t : Bool). t && ltb (largest b.queue) b.set) (sym e) ∙ above) in
    let r : Ready (build_structure b) = first_ready b w.formed w.ahead two above e few in
    let g : Begins b.arena.records (build_structure b).arena.records = first_begins xs ws b w.formed z reach (w.if_unbuilt z) r.formed in
    record {
      formed = r.formed;
      ahead = r.ahead;
      inputs_are = first_inputs b ∙ w.inputs_are;
      leaves_are = λ i h. leaf_begins b.arena.records (build_structure b).arena.records g i (get_or xs i (pos 0)) (w.leaves_are i h);
      sum_is = first_sum b ∙ w.sum_is;
      told = first_told b w.formed.sound (begins_outputs b.arena.records (build_structure b).arena.records g) w.told;
      if_unbuilt = λ z. absurd (r.is_built z);
      if_built = λ n. first_weighs xs ws b w.formed z reach (w.if_unbuilt z) r.formed;
    }

-- refinement
module _ (xs : List ℤ) (ws : List ℕ) (b : Build) (w : World xs ws b) (two : 2 ≤ b.inputs) (built : b.built ≢ 0) (is-due : due b ≡ true) (few : (merge_structures b).arena.fresh ≤ 1000000001) where
  pub refine_reach : b.set ≤ largest b.queue
  unfolding due unbuilt
  refine_reach = leb-true b.set (largest b.queue) (ap (λ (t : Bool). not t && leb b.set (largest b.queue)) (sym (ne_eqb b.built 0 built)) ∙ is-due)

  pub refine_room : b.arena.fresh + length (rising (top_bit b.built - top_bit b.set) b.arena.fresh) ≤ 1000000001
  unfolding merge_structures with_arena restructured patched
  refine_room = omega (arith, merged_fresh b.arena.records (reverse b.buckets) (patched b).arena, few)

  merged : Grown (patched b).arena (merge_structures b).arena × Told every (merge_structures b).arena
  merged = merged_told b w.formed built refine_reach w.ahead w.told refine_room

  kept_leaf : (i : ℕ) (x : ℤ) → (node_at b.arena.records i).kind ≡ leaf x → (node_at (patched b).arena.records i).kind ≡ leaf x
  kept_leaf = patched_leaf b w.formed built refine_reach w.ahead w.told refine_room

  refined : Ready (merge_structures b)
  unfolding due unbuilt
  refined = refined_ready b w.formed w.ahead two (ne_eqb b.built 0 built) is-due few

  pub refined_world : World xs ws (merge_structures b)
  unfolding merge_structures with_arena restructured patched
  refined_world = record {
    formed = refined.formed;
    ahead = refined.ahead;
    inputs_are = w.inputs_are;
    leaves_are = λ i h. ap (λ (at : ℕ → Node). (at i).kind) (grown_nodes (patched b).arena (merge_structures b).arena merged.0) ∙ kept_leaf i (get_or xs i (pos 0)) (w.leaves_are i h);
    sum_is = w.sum_is;
    told = merged.1;
    if_unbuilt = λ z. absurd (refined.is_built z);
    if_built = λ n. grown_weighs xs ws (patched b) (merge_structures b).arena merged.0 (patched_weighs b w.formed built refine_reach w.ahead w.told refine_room xs ws (w.if_built built));
  }

  pub refined_follows : Follows b (merge_structures b)
  unfolding merge_structures with_arena restructured patched root
  refined_follows = record {
    still_built = refined.is_built;
    root_same = head_same b.buckets _ (w.formed.if_built built).some;
    front = rising (top_bit b.built - top_bit b.set) b.arena.fresh;
    tares_are = refl;
    scale = scale;
    more = merged.0.more;
    outputs_are = grown_outputs (patched b).arena (merge_structures b).arena merged.0 ∙ ap (λ (os : List Output). os ++ merged.0.more) (patched_outputs b w.formed built refine_reach w.ahead w.told refine_room);
  }
    where
      u : Built b
      u = w.formed.if_built built

      head_same : (bs cs : List ℕ) → 1 ≤ length bs → get_or (bs ++ cs) 0 0 ≡ get_or bs 0 0
      head_same [] cs h = absurd (omega arith)
      head_same (b ∷ bs) cs h = refl

      p : ℕ
      p = top_bit b.set

      e : ℕ
      e = top_bit b.built

      low : p ≤ e
      low = top_bit_least p b.built (omega (arith, w.formed.set_power, u.coarser))

      whole : (e - p) + p ≡ e
      whole = omega (arith, low)

      scale : 2 ^ length (rising (e - p) b.arena.fresh) * b.set ≡ b.built
      scale =
          ap₂ (λ (n m : ℕ). 2 ^ n * m) (rising_length (e - p) b.arena.fresh) w.formed.set_power ∙
          (sym (pow-add 2 (e - p) p) ∙ (ap (λ (n : ℕ). 2 ^ n) whole ∙ sym u.power))

-- defining outputs of the root
module _ (xs : List ℤ) (ws : List ℕ) (b : Build) (w : World xs ws b) (built : b.built ≢ 0) (lo end : ℕ) (few : (encode_outputs b lo end).arena.fresh ≤ 1000000001) where
  outputs_defined : Defines every (node_at b.arena.records) (place b.arena.records) w.formed.sound b.arena (in_turn (λ s v. define_output s (root b) v) b.arena (root_values b lo end))
  unfolding root_node
  outputs_defined =
      outputs_told (node_at b.arena.records) (place b.arena.records) w.formed.sound (root b) (root_values b lo end) (values_within b lo end) b.arena (record { nodes_are = refl; places_are = refl; told = w.told })

  pub outputs_world : World xs ws (encode_outputs b lo end)
  unfolding encode_outputs with_arena restructured
  outputs_world =
      let t : Arena = in_turn (λ s v. define_output s (root b) v) b.arena (root_values b lo end) in
      let g : Grown b.arena t = outputs_defined.grown in
      let (formed, ahead) = outputs_formed b lo end (record { formed = w.formed; ahead = w.ahead; is_built = built }) few in
      record {
        formed = formed;
        ahead = ahead;
        inputs_are = w.inputs_are;
        leaves_are = λ i h. ap (λ (at : ℕ → Node). (at i).kind) (grown_nodes b.arena t g) ∙ w.leaves_are i h;
        sum_is = w.sum_is;
        told = outputs_defined.told;
        if_unbuilt = λ z. absurd (built z);
        if_built = λ n. grown_weighs xs ws b t g (w.if_built n);
      }

  pub outputs_follow : Follows b (encode_outputs b lo end)
  unfolding encode_outputs with_arena restructured root
  outputs_follow =
      let t : Arena = in_turn (λ s v. define_output s (root b) v) b.arena (root_values b lo end) in
      let g : Grown b.arena t = outputs_defined.grown in
      record { still_built = built; root_same = refl; front = []; tares_are = refl; scale = one-mul b.built; more = g.more; outputs_are = grown_outputs b.arena t g }

was_unbuilt : (b : Build) → unbuilt b ≡ true → b.built ≡ 0
unfolding unbuilt
was_unbuilt b e = eqb-true b.built 0 e

-- the first build, refinement or nothing
pub record Prepared (xs : List ℤ) (ws : List ℕ) (b c : Build) : Type 0 where
  pub world : World xs ws c
  pub is_built : c.built ≢ 0
  pub follows : b.built ≢ 0 → Follows b c

pub prepared_world : (xs : List ℤ) (ws : List ℕ) (b : Build) → World xs ws b → 2 ≤ b.inputs → divisor_above b ≡ false → (prepared b).arena.fresh ≤ 1000000001 → Prepared xs ws b (prepared b)
prepared_world xs ws b w two above = prepared_cases (λ c. c.arena.fresh ≤ 1000000001 → Prepared xs ws b c) b
    (λ e few. record {
      world = first_world xs ws b w two above e few;
      is_built = (first_ready b w.formed w.ahead two above e few).is_built;
      follows = λ n. absurd (n (was_unbuilt b e));
    })
    (λ e d few.
    let n : b.built ≢ 0 = still_built b e in
    record { world = refined_world xs ws b w two n d few; is_built = (refined_follows xs ws b w two n d few).still_built; follows = λ m. refined_follows xs ws b w two m d few })
    (λ e d few. record { world = w; is_built = still_built b e; follows = follows_self b })

-- encode
pub record Encoded (xs : List ℤ) (ws : List ℕ) (b c : Build) : Type 0 where
  pub world : World xs ws c
  pub follows : b.built ≢ 0 → Follows b c

pub encode_world : (xs : List ℤ) (ws : List ℕ) (b : Build) → World xs ws b → (lo end : ℕ) → (not (nothing_asked b lo end) && divisor_above b) ≡ false → (encode b lo end).arena.fresh ≤ 1000000001 → Encoded xs ws b (encode b lo end)
unfolding encode nothing_asked
encode_world xs ws b w lo end ten few = go (nothing_asked b lo end) refl ten few
  where
    go : (t : Bool) → nothing_asked b lo end ≡ t → (not t && divisor_above b) ≡ false → (elim t as (λ x. Build) [ true ↦ b | false ↦ encode_outputs (prepared b) lo end ]).arena.fresh ≤ 1000000001 →
        Encoded xs ws b (elim t [ true ↦ b | false ↦ encode_outputs (prepared b) lo end ])
    go true e ten few = record { world = w; follows = follows_self b }
    go false e ten few =
        let (empty, one) = neither (leb end lo) (ltb b.inputs 2) e in
        let p : Prepared xs ws b (prepared b) = prepared_world xs ws b w (ltb-false b.inputs 2 one) ten (omega (arith, encode_fresh (prepared b) lo end)) in
        record {
          world = outputs_world xs ws (prepared b) p.world p.is_built lo end few;
          follows = λ n. follows_then b (prepared b) (encode_outputs (prepared b) lo end) (p.follows n) (outputs_follow xs ws (prepared b) p.world p.is_built lo end few);
        }

-- set
pub set_world : (xs : List ℤ) (ws : List ℕ) (b : Build) → World xs ws b → (d : ℕ) → d ≡ 2 ^ top_bit d → (b.built ≢ 0 → d ≤ b.set) → World xs ws (set_to b d)
unfolding set_to
set_world xs ws b w d power below = record {
  formed = set_formed b d w.formed power (λ n. omega (arith, below n, (w.formed.if_built n).coarser));
  ahead = w.ahead;
  inputs_are = w.inputs_are;
  leaves_are = w.leaves_are;
  sum_is = w.sum_is;
  told = w.told;
  if_unbuilt = λ z. record { waits = (w.if_unbuilt z).waits };
  if_built = λ n. let v = w.if_built n in record { left_out = v.left_out; left_count = v.left_count; counts = v.counts; rest = v.rest };
}

pub set_follows : (b : Build) (d : ℕ) → b.built ≢ 0 → Follows b (set_to b d)
unfolding set_to root
set_follows b d n = record {
  still_built = n;
  root_same = refl;
  front = [];
  tares_are = refl;
  scale = one-mul b.built;
  more = [];
  outputs_are = sym (append-nil (outputs b.arena.records));
}
