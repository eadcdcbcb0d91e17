-- Two or more inputs leave more than one lone member, unless that is a join of its own.
use Rattle.std.specs.Prelude.{◌≡◌, ◌⊎◌, Bool, true, false, List, [], ◌∷◌, ◌++◌, map, leb, length, get_or, set, drop}
use Rattle.std.proofs.Math.Path.{refl}
use Rattle.std.proofs.Common.{sym, ◌∙◌, ap, subst, inl, inr, arith, length-append, length-drop, get_or-drop, leb-true, leb-false}
use Prim.Native.Nat.{ℕ, suc, ◌+◌, ◌-◌, ◌/◌, ◌^◌, ◌≤◌, ◌<◌}
use Rattle.std.proofs.Math.Pow.{pow_pos}
use Rattle.std.proofs.lemmas.List.{length-map, drop-set-add}
use Rattle.rules.specs.Lists.{total}
use Rattle.rules.specs.Digits.{top_bit}
use Rattle.rules.specs.Records.{join, Node, Entry, Record, node_at}
use Rattle.rules.specs.Build.{largest}
use Rattle.rules.specs.Queue.{run, others, requeue, Sorting, queue_step}
use Rattle.laws.specs.Lists.Facts.{All, All_map, All_append, All_get_or, All_set, All_drop, All_image, total_le, length_total, All_zip}
use Rattle.laws.specs.Numbers.Powers.{top_bit_least}
use Rattle.laws.specs.Records.Places.{place, place_inside}
use Rattle.laws.specs.Totalizer.Grows.{grown_at, Unnamed}
use Rattle.laws.specs.Totalizer.Merges.{Merged, Crowned}
use Rattle.laws.specs.Queue.Runs.{run_others, run_all, others_all, requeue_all, requeue_more, total_zero}
use Rattle.laws.specs.Queue.Loads.{nodes_of}
use Rattle.laws.specs.Queue.Gathers.{Gathers, total_set, made, taken_some, taken_few, top_inside}

-- a join that no link names, by itself in its bucket
pub record Lone (at : ℕ → Node) (m : ℕ) : Type 0 where
  pub half : Bool
  pub left : ℕ
  pub right : ℕ
  pub kind_is : (at m).kind ≡ join half left right
  pub unnamed : Unnamed at m
  pub left_few : (at left).maximum ≤ 257
  pub right_some : 1 ≤ (at right).maximum

-- how many members the buckets from power p on have
abbrev pub held_from : ℕ → List (List ℕ) → ℕ
held_from p members = total (map length (drop p members))

held_more : (p j m : ℕ) (members : List (List ℕ)) → p + j < length members →
    held_from p (set members (p + j) (get_or members (p + j) [] ++ (m ∷ []))) ≡ suc (held_from p members)
held_more p j m members h =
    let x : List ℕ = get_or members (p + j) [] ++ (m ∷ []) in
    let here : get_or (drop p members) j [] ≡ get_or members (p + j) [] = get_or-drop p members j [] in
    ap (λ (t : List (List ℕ)). total (map length t)) (drop-set-add p members j x) ∙
    omega (
      arith,
      total_set length (drop p members) j x [] (omega (arith, length-drop p members)),
      ap length here,
      length-append (get_or members (p + j) []) (m ∷ []),
    )

-- what a first build's queue keeps: two or more things are left, or one join of its own
pub record Busy (p : ℕ) (q : Sorting) : Type 0 where
  pub each : All (λ e. 1 ≤ (node_at q.records e.node).maximum) q.queue
  pub members_each : All (λ ms. All (λ m. 1 ≤ (node_at q.records m).maximum) ms) q.members
  pub busy : (2 ≤ length q.queue + held_from p q.members) ⊎
      ((q.queue ≡ []) × All (λ ms. All (Lone (node_at q.records)) ms) (drop p q.members))

at_least : {A : Type 0} (f : A → ℕ) (xs : List A) → All (λ x. 1 ≤ f x) xs → length xs ≤ total (map f xs)
at_least f xs h = omega (arith, length_total xs, total_le (λ x. 1) f xs h)

no_length : {A : Type 0} (xs : List A) → length xs ≡ 0 → xs ≡ []
no_length [] h = refl
no_length (x ∷ xs) h = absurd (omega arith)

no_members : (P : ℕ → Type 0) (mss : List (List ℕ)) → total (map length mss) ≡ 0 → All (λ ms. All P ms) mss
no_members P mss h = All_map (λ ms e. subst (λ (t : List ℕ). All P t) (sym (no_length ms e)) tt) mss (total_zero length mss h)

module _ (base : List Record) (A : List ℕ) (n most : ℕ) (inside : All (λ a. a < length base) A) (powers : most < 2 ^ n) (p : ℕ) where
  module _ (q : Sorting) (g : Gathers base A n most q) (w : ℕ) (positive : 1 ≤ w) (is : largest q.queue ≡ w) (reach : 2 ^ p ≤ w) where
    abbrev taken : List ℕ
    taken = nodes_of (run w q.queue)

    abbrev after : List Record × ℕ → Sorting
    after r = record {
      records = r.0;
      members = set q.members (top_bit w) (get_or q.members (top_bit w) [] ++ (r.1 ∷ []));
      queue = requeue (others w q.queue) r.1 (w - 2 ^ top_bit w);
    }

    top_is : top_bit w ≡ p + (top_bit w - p)
    top_is = omega (arith, top_bit_least p w reach)

    held_one : (m : ℕ) → held_from p (set q.members (top_bit w) (get_or q.members (top_bit w) [] ++ (m ∷ []))) ≡ suc
        (held_from p q.members)
    held_one m =
        let there : p + (top_bit w - p) < length q.members =
        omega (arith, top_is, top_inside base A n most inside powers q g w positive is) in
        ap (λ k. held_from p (set q.members k (get_or q.members k [] ++ (m ∷ [])))) top_is ∙
        held_more p (top_bit w - p) m q.members there

    taken_each : Busy p q → All (λ m. 1 ≤ (node_at q.records m).maximum) taken
    taken_each b = All_image (λ m. 1 ≤ (node_at q.records m).maximum) (λ (e : Entry). e.node) (run w q.queue)
        (run_all (λ e. 1 ≤ (node_at q.records e.node).maximum) w q.queue b.each)

    crowned_lone : Busy p q → (r : List Record × ℕ) → Crowned q.records taken r → 2 ≤ length taken → Lone (node_at r.0) r.1
    crowned_lone b r c two =
        let later : List ℕ = drop (length taken / 2) taken in
        record {
          half = false;
          left = c.left;
          right = c.right;
          kind_is = c.kind_is;
          unnamed = c.unnamed;
          left_few = omega (arith, c.left_most, taken_few base A n most inside powers q g w positive is);
          right_some = omega (
            arith,
            c.right_is,
            length-drop (length taken / 2) taken,
            at_least (λ m. (node_at q.records m).maximum) later
                (All_drop (λ m. 1 ≤ (node_at q.records m).maximum) (length taken / 2) taken (taken_each b)),
          );
        }

    busy_over : Busy p q → (r : List Record × ℕ) → Merged q.records taken r → (2 ≤ length taken → Crowned q.records taken r) →
        Busy p (after r)
    busy_over b r m c =
        record {
          each =
              requeue_all (λ e. 1 ≤ (node_at r.0 e.node).maximum) (others w q.queue) r.1 (w - 2 ^ top_bit w)
              (others_all (λ e. 1 ≤ (node_at r.0 e.node).maximum) w q.queue
              (All_zip (λ e. same e.node) q.queue g.queue_there b.each))
              (λ i. merged_some);
          members_each =
              All_set (λ ms. All (λ m. 1 ≤ (node_at r.0 m).maximum) ms) q.members (top_bit w)
              (get_or q.members (top_bit w) [] ++ (r.1 ∷ [])) kept_members
              (All_append (λ m. 1 ≤ (node_at r.0 m).maximum) (get_or q.members (top_bit w) []) (r.1 ∷ [])
              (All_get_or (λ ms. All (λ m. 1 ≤ (node_at r.0 m).maximum) ms) q.members (top_bit w) [] kept_members tt)
              (merged_some, tt));
          busy = go (leb 2 (length (after r).queue + held_from p (after r).members)) refl b.busy;
        }
      where
        same : (x : ℕ) → place q.records x ≡ true → 1 ≤ (node_at q.records x).maximum → 1 ≤ (node_at r.0 x).maximum
        same x there h = rw (grown_at q.records r.0 m.grown x (place_inside q.records x there)) h

        kept_members : All (λ ms. All (λ m. 1 ≤ (node_at r.0 m).maximum) ms) q.members
        kept_members = All_zip (λ ms. All_zip same ms) q.members g.members_there b.members_each

        merged_some : 1 ≤ (node_at r.0 r.1).maximum
        merged_some = omega (
          arith,
          m.sum_is,
          taken_some base A n most inside powers q g w positive is,
          at_least (λ m. (node_at q.records m).maximum) taken (taken_each b),
        )

        counts_up : length q.queue ≡ length taken + length (others w q.queue)
        counts_up = omega (
          arith,
          length_total q.queue,
          run_others (λ e. 1) w q.queue,
          length_total (run w q.queue),
          length_total (others w q.queue),
          length-map (run w q.queue) (λ (e : Entry). e.node),
        )

        queued : length (others w q.queue) ≤ length (after r).queue
        queued = omega (
          arith,
          length_total (others w q.queue),
          length_total (after r).queue,
          requeue_more (λ e. 1) (others w q.queue) r.1 (w - 2 ^ top_bit w),
        )

        go : (t : Bool) → leb 2 (length (after r).queue + held_from p (after r).members) ≡ t →
            (2 ≤ length q.queue + held_from p q.members) ⊎
            ((q.queue ≡ []) × All (λ ms. All (Lone (node_at q.records)) ms) (drop p q.members)) →
            (2 ≤ length (after r).queue + held_from p (after r).members) ⊎
            (((after r).queue ≡ []) × All (λ ms. All (Lone (node_at r.0)) ms) (drop p (after r).members))
        go true e old = inl (leb-true _ _ e)
        go false e (inr old) = absurd (omega (
          arith,
          taken_some base A n most inside powers q g w positive is,
          ap length old.0,
          counts_up,
        ))
        go false e (inl old) =
            let few : length (after r).queue + held_from p (after r).members < 2 = leb-false _ _ e in
            let one : held_from p (after r).members ≡ suc (held_from p q.members) = held_one r.1 in
            let none : length (after r).queue ≡ 0 = omega arith in
            let empty : held_from p q.members ≡ 0 = omega arith in
            let two : 2 ≤ length taken = omega (arith, counts_up, queued) in
            let lone : Lone (node_at r.0) r.1 = crowned_lone b r (c two) two in
            let j : ℕ = top_bit w - p in
            let put : drop p (after r).members ≡ set (drop p q.members) j (get_or q.members (top_bit w) [] ++ (r.1 ∷ [])) =
            ap (λ k. drop p (set q.members k (get_or q.members (top_bit w) [] ++ (r.1 ∷ [])))) top_is ∙
            drop-set-add p q.members j (get_or q.members (top_bit w) [] ++ (r.1 ∷ [])) in
            let here : get_or q.members (top_bit w) [] ≡ get_or (drop p q.members) j [] = ap (λ k. get_or q.members k []) top_is ∙
            sym (get_or-drop p q.members j []) in
            let old_all : All (λ ms. All (Lone (node_at r.0)) ms) (drop p q.members) =
            no_members (Lone (node_at r.0)) (drop p q.members) empty in
            let old_here : All (Lone (node_at r.0)) (get_or q.members (top_bit w) []) =
            subst (λ (t : List ℕ). All (Lone (node_at r.0)) t) (sym here)
            (All_get_or (λ ms. All (Lone (node_at r.0)) ms) (drop p q.members) j [] old_all tt) in
            inr (
              no_length (after r).queue none,
              subst (λ (t : List (List ℕ)). All (λ ms. All (Lone (node_at r.0)) ms) t) (sym put)
                  (All_set (λ ms. All (Lone (node_at r.0)) ms) (drop p q.members) j (get_or q.members (top_bit w) [] ++ (r.1 ∷ []))
                  old_all
                  (All_append (Lone (node_at r.0)) (get_or q.members (top_bit w) []) (r.1 ∷ []) old_here (lone, tt))),
            )

  -- a step keeps it
  pub busy_step : (q : Sorting) → Gathers base A n most q → Busy p q → 2 ^ p ≤ largest q.queue →
      Busy p (queue_step (largest q.queue) q)
  unfolding queue_step
  busy_step q g b reach =
      let w : ℕ = largest q.queue in
      let positive : 1 ≤ w = omega (arith, pow_pos p) in
      let (m, c) = made base A n most inside powers q g w positive refl in
      busy_over q g w positive refl reach b _ m c
