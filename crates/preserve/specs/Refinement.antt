-- A refinement leaves a build that is well formed.
use Rattle.std.specs.Prelude.{◌≡◌, ◌≢◌, Bool, true, drop, replicate, ℤ, pos}
use Rattle.std.proofs.Math.Path.{refl, ap, subst}
use Rattle.std.proofs.Common.{sym, ◌∙◌, ap₂, mul_assoc, pow_pos, pow-add, length-drop}
use Rattle.std.proofs.Math.Bool.{not, false≢true}
use mathlib.Core.List.{List, [], ◌∷◌, ◌++◌, map}
use Prim.Native.Nat.{ℕ, zero, suc, ◌+◌, ◌*◌, ◌-◌, ◌^◌, ◌≤◌, ◌<◌}
use native.Mathlib.Omega.{arith}
use Rattle.std.proofs.Math.ListN.{length, length-append, length-take, get_or}
use Rattle.std.proofs.lemmas.List.{length-replicate}
use Rattle.std.proofs.Math.Seq.{get_or-drop}
use Rattle.rules.specs.Lists.{total, rising}
use Rattle.rules.specs.Numbers.{lawful}
use Rattle.rules.specs.Digits.{top_bit}
use Rattle.rules.specs.Records.{leaf, join, Node, Output, Record, waits, node_at, left_link, outputs}
use Rattle.rules.specs.Build.{Build, restructured, clause_total, clause_mark, largest, some_wait}
use Rattle.rules.specs.Queue.{Sorting, gathered}
use Rattle.rules.specs.Buckets.{buckets_over}
use Rattle.rules.specs.Refinement.{tares_left_out}
use Rattle.rules.specs.WellFormed.{known, is_leaf}
use Rattle.laws.specs.Lists.Facts.{All, All_map, All_append, All_drop, rising_length, total_append, occurs, occurs_append, occurs_none, All_zip}
use Rattle.laws.specs.Numbers.Powers.{top_bit_least}
use Rattle.laws.specs.Records.Places.{place, place_inside, leaf_place}
use Rattle.laws.specs.WellFormed.Plain.{Defined, Taken, variables_of, Waits, Linked, Built, Formed}
use Rattle.laws.specs.Totalizer.Grows.{Grown, grown_then, grown_length, grown_at, grown_place, grown_outputs, grown_all}
use Rattle.laws.specs.Queue.Gathers.{gathers_waits}
use Rattle.laws.specs.Buckets.Chains.{standing_none, left_inside, linked_grown, lefts_grown}
use Rattle.laws.specs.Buckets.Towers.{Fit, Tower, tower}
use Rattle.laws.specs.Queue.Runs.{some_waits}
use Rattle.laws.specs.Refinement.Relinks.{climb, linked_joins}
use Rattle.laws.specs.Refinement.Patches.{Patched, patched_over}
use Rattle.laws.specs.WellFormed.Keeps.{Rises, rises_grown, defined_rises, waits_grown, waits_same, variables_same, taken_tares, All_take, total_part}
use Rattle.preserve.specs.Gathered.{Gathered, gathered_made, members_fit}
use Rattle.preserve.specs.Given.{Ahead, set_positive, weights_few, waiting_below, buckets_there, buckets_inside, tares_lawful, fresh_lawful}

module _ (b : Build) (f : Formed b) (built : b.built ≢ 0) (reach : b.set ≤ largest b.queue) where
  abbrev pub base : List Record
  base = b.arena.records

  abbrev pub B : List ℕ
  B = b.buckets

  u : Built b
  u = f.if_built built

  abbrev pub p : ℕ
  p = top_bit b.set

  abbrev pub end : ℕ
  end = top_bit b.built

  abbrev pub most : ℕ
  most = largest b.queue

  set_is : 2 ^ p ≡ b.set
  set_is = sym f.set_power

  built_is : 2 ^ end ≡ b.built
  built_is = sym u.power

  p_end : p ≤ end
  p_end = top_bit_least p b.built (omega (arith, set_is, u.coarser))

  powers : most < 2 ^ end
  powers = waiting_below b f built

  -- each bucket is a join
  base_joins : All (λ n. (half : Bool) × (l : ℕ) × (r : ℕ) × ((node_at base n).kind ≡ join half l r)) B
  base_joins = linked_joins (node_at base) (some_wait b.queue) B u.linked

  chain : Linked (node_at base) true B
  chain = subst (λ (w : Bool). Linked (node_at base) w B) (some_waits b.queue (omega (arith, set_is, pow_pos p))) u.linked

  gathered_again : Gathered b end (λ q. Unit {0})
  gathered_again = gathered_made b f end (buckets_inside b f) powers reach (λ q. Unit {0}) (λ q ok e h. tt) tt

  abbrev pub q : Sorting
  q = gathered b end

  abbrev pub wait : Bool
  wait = some_wait q.queue

  base_grown : Grown base q.records
  base_grown = gathered_again.gathers.grown

  abbrev pub k : ℕ
  k = end - p

  abbrev pub new_tares : List ℕ
  new_tares = rising k b.arena.fresh

  own_count : length (tares_left_out b) ≡ suc (length b.tares) - length B
  unfolding tares_left_out
  own_count = omega (arith, length-take (suc (length b.tares) - length B) b.tares, u.some)

  abbrev pub mss : List (List ℕ)
  mss = drop p q.members ++ replicate (length (tares_left_out b)) []

  drop_count : length (drop p q.members) ≡ k
  drop_count = omega (arith, length-drop p q.members, gathered_again.gathers.count)

  mss_count : length mss ≡ k + length (tares_left_out b)
  mss_count = omega (
    arith,
    length-append (drop p q.members) (replicate (length (tares_left_out b)) []),
    drop_count,
    length-replicate {A = List ℕ} (length (tares_left_out b)) [],
  )

  fits : All (Fit q.records (length q.records) B) mss
  unfolding total
  fits =
      All_append (Fit q.records (length q.records) B) (drop p q.members) (replicate (length (tares_left_out b)) [])
      (All_drop (Fit q.records (length q.records) B) p q.members (members_fit base B end most q gathered_again.gathers))
      (empty (length (tares_left_out b)))
    where
      empty : (n : ℕ) → All (Fit q.records (length q.records) B) (replicate n [])
      empty zero = tt
      empty (suc n) = (record { there = tt; old = tt; avoid = tt; few = omega arith }, empty n)

  -- some bucket has a member
  pub held : 1 ≤ total (map length mss)
  unfolding total
  held =
      let top : ℕ = top_bit most in
      let low : p ≤ top = top_bit_least p most (omega (arith, set_is)) in
      let same : get_or (drop p q.members) (top - p) [] ≡ get_or q.members top [] = get_or-drop p q.members (top - p) [] ∙
      ap (λ i. get_or q.members i []) (omega arith) in
      let part : length (get_or (drop p q.members) (top - p) []) ≤ total (map length (drop p q.members)) =
      total_part length (drop p q.members) (top - p) [] refl in
      omega (
        arith,
        total_append length (drop p q.members) (replicate (length (tares_left_out b)) []),
        part,
        ap length same,
        gathered_again.filled,
      )

  module _ (room : b.arena.fresh + length new_tares ≤ 1000000001) where
    abbrev pub old_fresh : ℕ
    old_fresh = b.arena.fresh

    laws : All (λ t. lawful (pos t) ≡ true) (new_tares ++ tares_left_out b)
    unfolding tares_left_out
    laws =
        All_append (λ t. lawful (pos t) ≡ true) new_tares (tares_left_out b) (fresh_lawful b k f (omega (arith, rising_length k old_fresh)))
        (All_take (λ t. lawful (pos t) ≡ true) (suc (length b.tares) - length B) b.tares (tares_lawful b f (omega (arith, u.two))))

    pub built_tower : Tower wait B q.records (length q.records) [] mss
        (buckets_over wait q.records [] (new_tares ++ tares_left_out b) mss)
    built_tower =
        tower wait B (length q.records) mss q.records [] (new_tares ++ tares_left_out b)
        (All_map (λ a (h : a < length base). omega (arith, grown_length base q.records base_grown)) B (buckets_inside b f)) (omega arith)
        (standing_none wait B q.records base_grown.sound gathered_again.gathers.spared) tt fits laws
        (omega (arith, mss_count, length-append new_tares (tares_left_out b), rising_length k old_fresh))

    -- over any tower with a bucket, the old buckets linked
    module _ (rs : List Record) (d : ℕ) (ds : List ℕ) (t : Tower wait B q.records (length q.records) [] mss (rs, d ∷ ds)) where
      abbrev pub lower : List ℕ
      lower = d ∷ ds

      all_grown : Grown base rs
      all_grown = grown_then base q.records rs base_grown t.grown

      left_low : All (λ n. occurs (left_link (node_at rs n).kind) lower ≡ 0) B
      left_low = All_map (λ n h.
          let same : node_at rs n ≡ node_at base n = grown_at base rs all_grown n (place_inside base n h) in
          let small : left_link (node_at base n).kind < length base = left_inside base f.sound n h in
          ap (λ (x : Node). occurs (left_link x.kind) lower) same ∙
          occurs_none (λ c. length q.records ≤ c) (left_link (node_at base n).kind) lower t.fresh
          (λ (i : length q.records ≤ left_link (node_at base n).kind). omega (arith, grown_length base q.records base_grown))) B
          (buckets_there b f)

      pub linked_anew : Patched rs wait B lower (climb rs d B)
      linked_anew =
          patched_over rs wait B d ds t.standing (linked_grown base rs f.sound all_grown true B (buckets_there b f) chain)
          (All_map (grown_place base rs all_grown) B (buckets_there b f))
          (lefts_grown base rs f.sound all_grown B (buckets_there b f) u.lefts) left_low

      abbrev pub R : List Record
      R = climb rs d B

      -- a bucket is no leaf
      not_bucket : (i : ℕ) (x : ℤ) → (node_at base i).kind ≡ leaf x → occurs i B ≡ 0
      unfolding is_leaf
      not_bucket i x e =
          occurs_none (λ n. (half : Bool) × (l : ℕ) × (r : ℕ) × ((node_at base n).kind ≡ join half l r)) i B base_joins
          (λ (half, l, r, j). false≢true (sym (ap is_leaf j) ∙ ap is_leaf e))

      pub input_same : (i : ℕ) → i < b.inputs → node_at R i ≡ node_at base i
      input_same i h =
          let (x, e) = f.inputs_first i h in
          linked_anew.same i (not_bucket i x e) ∙ grown_at base rs all_grown i (place_inside base i (leaf_place base i x e))

      rises_patched : Rises (node_at rs) (node_at R) (place rs) (place R)
      unfolding is_leaf
      rises_patched = record {
        stays = λ n h. ap (λ (g : ℕ → Bool). g n) linked_anew.places ∙ h;
        grows = λ n h. linked_anew.grows n;
        no_leaf = λ n h none x e. go n (occurs n B) refl none x e;
      }
        where
          go : (n m : ℕ) → occurs n B ≡ m → ((x : ℤ) → (node_at rs n).kind ≢ leaf x) → (x : ℤ) → (node_at R n).kind ≡ leaf x → ⊥
          go n zero out none x e = none x (sym (ap (λ (y : Node). y.kind) (linked_anew.same n out)) ∙ e)
          go n (suc m) out none x e =
              let (l, r, j) = linked_anew.joins n (omega arith) in
              false≢true (sym (ap is_leaf j) ∙ ap is_leaf e)

      queue_free : All (λ e. (occurs e.node B ≡ 0) × (occurs e.node lower ≡ 0)) q.queue
      queue_free =
          All_zip {P = λ e. occurs e.node B ≡ 0} {Q = λ e. place q.records e.node ≡ true}
          (λ e out there. (
            out,
            occurs_none (λ x. length q.records ≤ x) e.node lower t.fresh
                (past e.node (place_inside q.records e.node there)),
          )) q.queue
          gathered_again.gathers.queue_avoid gathered_again.gathers.queue_there
        where
          past : (n : ℕ) → n < length q.records → length q.records ≤ n → ⊥
          past n h k = omega arith

      weight : b.set * 2 ^ length (new_tares ++ b.tares) ≤ 524288
      weight =
          let count : length (new_tares ++ b.tares) ≡ k + length b.tares =
          omega (arith, length-append new_tares b.tares, rising_length k old_fresh) in
          let whole : b.set * 2 ^ length (new_tares ++ b.tares) ≡ b.built * 2 ^ length b.tares =
          ap₂ (λ x y. x * 2 ^ y) (sym set_is) count ∙
          (ap (λ x. 2 ^ p * x) (pow-add 2 k (length b.tares)) ∙
          (sym (mul_assoc (2 ^ p) (2 ^ k) (2 ^ length b.tares)) ∙
          ap (λ x. x * 2 ^ length b.tares) (sym (pow-add 2 p k) ∙ (ap (λ j. 2 ^ j) (omega (arith, p_end)) ∙ built_is)))) in
          omega (arith, whole, u.times_weight)

      pub formed_over : Ahead b → Formed (restructured b b.set (new_tares ++ b.tares) (B ++ lower) q.queue
          (record { records = R; fresh = old_fresh + length new_tares; clauses = b.arena.clauses }))
      unfolding restructured clause_total clause_mark known waits
      formed_over ahead =
          let outs : outputs R ≡ outputs base = linked_anew.outputs_same ∙ grown_outputs base rs all_grown in
          let ns : List ℕ = map (λ (o : Output). o.number) (outputs base) in
          let vars : variables_of (node_at R) b.inputs ≡ variables_of (node_at base) b.inputs =
          variables_same (node_at base) (node_at R) b.inputs input_same in
          let count : length new_tares ≡ k = rising_length k old_fresh in
          let taken : Taken (variables_of (node_at base) b.inputs) (old_fresh + k) (ns ++ (new_tares ++ b.tares)) =
          taken_tares (variables_of (node_at base) b.inputs) ns b.tares old_fresh k f.taken ahead in
          let weight_few : most ≤ 1048575 = weights_few b f in
          let waiters : Waits (node_at rs) (place rs) q.queue =
          waits_grown q.records rs q.queue t.grown (gathers_waits base B end most q weight_few gathered_again.gathers) in
          let positive : 1 ≤ b.set = set_positive b f in
          record {
            all_known = linked_anew.kept known (λ n. refl) (grown_all (λ r. known r ≡ true) (λ n. refl) base rs all_grown f.all_known);
            none_waits = linked_anew.kept (λ r. not (waits r)) (λ n. refl)
                (grown_all (λ r. not (waits r) ≡ true) (λ n. refl) base rs all_grown f.none_waits);
            first_low = f.first_low;
            first_high = omega (arith, f.first_high);
            fresh_few = room;
            clauses_few = f.clauses_few;
            inputs_few = f.inputs_few;
            inputs_first = λ i h. ((f.inputs_first i h).0, ap (λ (x : Node). x.kind) (input_same i h) ∙ (f.inputs_first i h).1);
            sound = linked_anew.sound;
            defined =
                subst (λ (os : List Output). Defined (node_at R) (place R) os) (sym outs)
                (defined_rises (node_at rs) (node_at R) (place rs) (place R) (outputs base) rises_patched
                (defined_rises (node_at base) (node_at rs) (place base) (place rs) (outputs base) (rises_grown base rs all_grown)
                f.defined));
            taken =
                subst (λ (vs : List ℕ). Taken vs (old_fresh + length new_tares)
                (map (λ (o : Output). o.number) (outputs R) ++ (new_tares ++ b.tares))) (sym vars)
                (subst (λ (os : List Output). Taken (variables_of (node_at base) b.inputs) (old_fresh + length new_tares)
                (map (λ (o : Output). o.number) os ++ (new_tares ++ b.tares))) (sym outs)
                (subst (λ (j : ℕ). Taken (variables_of (node_at base) b.inputs) (old_fresh + j) (ns ++ (new_tares ++ b.tares)))
                (sym count) taken));
            waiting_are = waits_same (node_at rs) (node_at R) (place rs) (place R) q.queue
                (All_zip (λ e out there. (
                  linked_anew.same e.node out.0,
                  ap (λ (g : ℕ → Bool). g e.node) linked_anew.places ∙
                      there,
                )) q.queue queue_free waiters.nodes_wait) waiters;
            spares = linked_anew.spares;
            entries_spare = All_map (λ e h. let (x, y) = h in omega (arith, occurs_append e.node B lower)) q.queue queue_free;
            set_power = f.set_power;
            if_unbuilt = λ e. absurd (omega arith);
            if_built = λ ne. record {
              two = u.two;
              power = f.set_power;
              coarser = omega arith;
              times_weight = weight;
              some = omega (arith, length-append B lower);
              few = omega (arith, length-append B lower, t.many, mss_count, own_count, u.few, length-append new_tares b.tares, count);
              linked = linked_anew.linked;
              lefts = linked_anew.lefts;
              below_built = gathered_again.low;
            };
          }
