-- The answers of enforce over a state and a store that hold a build.
use mathlib.Core.Path.{◌≡◌, refl, sym}
use mathlib.Core.Bool.{Bool, true, false, ◌&&◌}
use mathlib.Core.Option.{some}
use mathlib.Core.List.{List, map}
use Prim.Native.Nat.{ℕ, ◌/◌, ◌^◌, ◌≤◌, ◌<◌}
use native.Mathlib.Omega.{arith}
use native.Mathlib.Nat.{le-div_iff_mul-le}
use lib.Dec.{leb, eqb}
use lib.ListN.{get_or, take}
use lib.Pow.{suc_ones}
use lib.IntN.{ℤ}
use Rattle.std.specs.Prelude.{Result, Ok, Err}
use Rattle.rules.specs.declared.Refusal.{Refusal}
use Rattle.rules.specs.declared.Refusal.TheVariants.{NotEncoded}
use Rattle.rules.specs.declared.State.{State}
use Rattle.rules.specs.Digits.{top_bit}
use Rattle.rules.specs.Records.{leaf, Output, Record, node_at, entries, outputs}
use Rattle.rules.specs.Build.{Build, records, tares_of, buckets_of, held, build_over, build_of, root, largest}
use Rattle.rules.specs.Enforce.{root_answer, built_answer, one_answer, enforce}
use Rattle.laws.specs.Lists.Facts.{All, All_map, All_second}
use Rattle.records.specs.Carries.{Stores}
use Rattle.records_waiting.specs.Read.{Readable}
use Rattle.enforce_answer.specs.Ends.{Ended}
use Rattle.enforce_answer.specs.Stored.{Stored}
use Rattle.enforce_answer.proofs.First.{node_kept, number_kept}
use Rattle.enforce_answer.proofs.Answers.{built_none, built_waits, built_root, enforce_within, enforce_none, enforce_one, enforce_more}

module _ (s : State) (store : List ℕ) (h : Readable s store) where
  has : Stored (build_of s store) store s.records
  unfolding build_of build_over records
  has = record {
    rs = held s store;
    stores = h.stores;
    node_is = λ n. node_kept (held s store) n h.laid.waiting_last;
    number_is = number_kept (held s store);
    queue_is = refl;
  }

  pub small : All (λ t. t < 2147483648) (take s.tares_used s.tares)
  unfolding build_of build_over tares_of
  small =
      let few : s.fresh ≤ 1000000001 = h.formed.fresh_few in
      All_map (λ (t : ℕ) (k : t < s.fresh). omega arith) (take s.tares_used s.tares)
      (All_second (λ n. n < s.fresh) (map (λ (o : Output). o.number) (outputs (build_of s store).arena.records)) (take s.tares_used s.tares)
      h.formed.taken.below_fresh)

  pub set_positive : 1 ≤ s.set
  unfolding build_of build_over
  set_positive =
      let p : s.set ≡ 2 ^ top_bit s.set = h.formed.set_power in
      omega (arith, suc_ones (top_bit s.set))

  pub quotient : (s.built ≡ 0 → ⊥) → 1 ≤ s.built / s.set
  unfolding build_of build_over
  quotient e =
      let o : 0 < s.set = set_positive in
      let k : s.set ≤ s.built = (h.formed.if_built e).coarser in
      (le-div_iff_mul-le {k = s.set} {x = 1} {y = s.built} o).1 (omega arith)

  module _ (u : ℕ) (c : List ℤ) where
    pub ask_unbuilt : s.built ≡ 0 → Ended (built_answer (build_of s store) u) c c (Err NotEncoded)
    unfolding build_of build_over
    ask_unbuilt e = built_none (build_of s store) u c e

    module _ (e : s.built ≡ 0 → ⊥) (m : ℕ) (is : (rs : List Record) → Stores store s.records rs → m ≡ largest (entries rs)) where
      pub ask_waits : s.set ≤ m → Ended (built_answer (build_of s store) u) c c (Err NotEncoded)
      unfolding build_of build_over
      ask_waits l = built_waits (build_of s store) u c e m (is (held s store) h.stores) l

      pub ask_root : (top : ℕ) (d : List ℤ) (r : Result ℕ Refusal) → m < s.set → top ≡ get_or (take s.buckets_used s.buckets) 0 0 →
          ((b : Build) → Stored b store s.records → b.tares ≡ take s.tares_used s.tares → root b ≡ top →
          Ended (root_answer b (u / (s.built / s.set))) c d r) → Ended (built_answer (build_of s store) u) c d r
      unfolding build_of build_over root tares_of buckets_of
      ask_root top d r l t p = built_root (build_of s store) u c e m (is (held s store) h.stores) d r l (p (build_of s store) has refl (sym t))

    module _ (t : Bool) (within : t ≡ (leb s.sum u && eqb s.set 1)) where
      pub ask_within : t ≡ true → Ended (enforce (build_of s store) u) c c (Ok 0)
      unfolding build_of build_over
      ask_within e = enforce_within (build_of s store) u c t within e

      module _ (e : t ≡ false) where
        pub ask_none : s.inputs ≡ 0 → Ended (enforce (build_of s store) u) c c (Ok 0)
        unfolding build_of build_over
        ask_none z = enforce_none (build_of s store) u c t within e z

        pub ask_one : (d : List ℤ) (r : Result ℕ Refusal) → s.inputs ≡ 1 →
            ((b : Build) (x : ℤ) → Stored b store s.records → b.set ≡ s.set → (node_at b.arena.records 0).kind ≡ leaf x → Ended (some (one_answer b u)) c d r) →
            Ended (enforce (build_of s store) u) c d r
        unfolding build_of build_over
        ask_one d r z p =
            let (x, k) = h.formed.inputs_first 0 (omega arith) in
            enforce_one (build_of s store) u c t within e d r z (p (build_of s store) x has refl k)

        pub ask_more : (d : List ℤ) (r : Result ℕ Refusal) → (s.inputs ≡ 0 → ⊥) → (s.inputs ≡ 1 → ⊥) → Ended (built_answer (build_of s store) u) c d r →
            Ended (enforce (build_of s store) u) c d r
        unfolding build_of build_over
        ask_more d r y z p = enforce_more (build_of s store) u c t within e d r y z p
