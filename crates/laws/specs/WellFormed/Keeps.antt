-- What well formed asks of outputs, numbers and waiting entries, as nodes change: kept where nodes stay or their maxima grow.
use Rattle.std.specs.Prelude.{◌≡◌, refl, ◌≢◌, Bool, true, false, ℕ, zero, suc, ◌+◌, ◌≤◌, ◌<◌, ltb, length, get_or, take, ℤ, pos}
use Rattle.std.proofs.Common.{sym, ◌∙◌, ap, ap₂, subst, arith, le-leb, ltb-true, ltb-false}
use mathlib.Core.List.{List, [], ◌∷◌, ◌++◌, map, reverse, reverse-cons}
use Rattle.rules.specs.Lists.{total, rising}
use Rattle.rules.specs.Numbers.{lawful}
use Rattle.rules.specs.Records.{leaf, Node, Output, Entry, Record, node_at}
use Rattle.rules.specs.WellFormed.{variable_of}
use Rattle.laws.specs.Lists.Facts.{All, All_map, All_append, All_first, All_second, All_rising, and_true, total_cong, occurs, occurs_append, occurs_none, rising_once, rising_below}
use Rattle.laws.specs.Records.Places.{place, place_inside}
use Rattle.laws.specs.WellFormed.Plain.{Defined, variables_of, Taken, Waits}
use Rattle.laws.specs.Totalizer.Grows.{Grown, grown_at, grown_place}

-- nodes whose maxima do not fall and that become no leaf
pub record Rises (at at' : ℕ → Node) (pl pl' : ℕ → Bool) : Type 0 where
  pub stays : (n : ℕ) → pl n ≡ true → pl' n ≡ true
  pub grows : (n : ℕ) → pl n ≡ true → (at n).maximum ≤ (at' n).maximum
  pub no_leaf : (n : ℕ) → pl n ≡ true → ((x : ℤ) → (at n).kind ≢ leaf x) → (x : ℤ) → (at' n).kind ≢ leaf x

pub rises_grown : (rs rs' : List Record) → Grown rs rs' → Rises (node_at rs) (node_at rs') (place rs) (place rs')
rises_grown rs rs' g = record {
  stays = grown_place rs rs' g;
  grows = λ n p. let e : (node_at rs' n).maximum ≡ (node_at rs n).maximum =
      ap (λ (x : Node). x.maximum) (grown_at rs rs' g n (place_inside rs n p)) in omega arith;
  no_leaf = λ n p h x e. h x (sym (ap (λ (x : Node). x.kind) (grown_at rs rs' g n (place_inside rs n p))) ∙ e);
}

pub defined_rises : (at at' : ℕ → Node) (pl pl' : ℕ → Bool) (os : List Output) → Rises at at' pl pl' → Defined at pl os → Defined at' pl' os
defined_rises at at' pl pl' os h d = record {
  valued = All_map (λ o v. record {
    named = h.stays o.node v.named;
    no_leaf = h.no_leaf o.node v.named v.no_leaf;
    low =
        v.low;
    high = omega (arith, v.high, h.grows o.node v.named);
  }) os d.valued;
  rise = d.rise;
  differ = d.differ;
}

-- waiting entries whose nodes stay
pub waits_same : (at at' : ℕ → Node) (pl pl' : ℕ → Bool) (q : List Entry) →
    All (λ e. (at' e.node ≡ at e.node) × (pl' e.node ≡ true)) q → Waits at pl q → Waits at' pl' q
waits_same at at' pl pl' q h w = record {
  nodes_wait = All_map (λ e k. k.1) q h;
  few = w.few;
  maxima_few = omega (
    arith,
    w.maxima_few,
    total_cong (λ (e : Entry). (at' e.node).maximum) (λ (e : Entry). (at e.node).maximum) q
        (All_map (λ e k. ap (λ (x : Node). x.maximum) k.0) q h),
  );
  weights = w.weights;
}

pub waits_grown : (rs rs' : List Record) (q : List Entry) → Grown rs rs' → Waits (node_at rs) (place rs) q → Waits (node_at rs') (place rs') q
waits_grown rs rs' q g w =
    waits_same (node_at rs) (node_at rs') (place rs) (place rs') q
    (All_map (λ e p. (grown_at rs rs' g e.node (place_inside rs e.node p), grown_place rs rs' g e.node p)) q w.nodes_wait) w

-- input variables stay with the inputs' nodes
pub variables_same : (at at' : ℕ → Node) (n : ℕ) → ((i : ℕ) → i < n → at' i ≡ at i) → variables_of at' n ≡ variables_of at n
unfolding rising
variables_same at at' n h = go n 0 (λ i a b. h i (omega arith))
  where
    go : (n k : ℕ) → ((i : ℕ) → k ≤ i → i < k + n → at' i ≡ at i) →
        map (λ (i : ℕ). variable_of (at' i).kind) (rising n k) ≡ map (λ (i : ℕ). variable_of (at i).kind) (rising n k)
    go zero k h = refl
    go (suc n) k h = ap₂ (λ (x : ℕ) (xs : List ℕ). x ∷ xs) (ap (λ (x : Node). variable_of x.kind) (h k (omega arith) (omega arith)))
        (go n (suc k) (λ i a b. h i (omega arith) (omega arith)))

-- k fresh tares taken
pub taken_tares : (vs ns T : List ℕ) (fresh k : ℕ) → Taken vs fresh (ns ++ T) → All (λ v. v < fresh) vs →
    Taken vs (fresh + k) (ns ++ (rising k fresh ++ T))
taken_tares vs ns T fresh k t low = record {
  once = λ n. once n (ltb n fresh) refl;
  above_inputs = put (λ n. All (λ v. v < n) vs) t.above_inputs (λ i a b. All_map (λ v (h : v < fresh). omega arith) vs low);
  below_fresh = put (λ n. n < fresh + k) (All_map (λ n (h : n < fresh). omega arith) (ns ++ T) t.below_fresh) (λ i a b. b);
}
  where
    put : (P : ℕ → Type 0) → All P (ns ++ T) → ((i : ℕ) → fresh ≤ i → i < fresh + k → P i) → All P (ns ++ (rising k fresh ++ T))
    put P h f = All_append P ns (rising k fresh ++ T) (All_first P ns T h)
        (All_append P (rising k fresh) T (All_rising P k fresh f) (All_second P ns T h))

    once : (n : ℕ) (b : Bool) → ltb n fresh ≡ b → occurs n (ns ++ (rising k fresh ++ T)) ≤ 1
    once n true e =
        omega (
          arith,
          occurs_append n ns (rising k fresh ++ T),
          occurs_append n (rising k fresh) T,
          occurs_append n ns T,
          t.once n,
          rising_below k fresh n (ltb-true n fresh e),
        )
    once n false e =
        let high : fresh ≤ n = ltb-false n fresh e in
        let none : occurs n (ns ++ T) ≡ 0 = occurs_none (λ m. m < fresh) n (ns ++ T) t.below_fresh (λ (h : n < fresh). omega arith) in
        omega (
          arith,
          occurs_append n ns (rising k fresh ++ T),
          occurs_append n (rising k fresh) T,
          occurs_append n ns T,
          rising_once k fresh n,
        )

-- a fresh number makes a lawful literal
pub lawful_number : (t : ℕ) → 1 ≤ t → t ≤ 1000000000 → lawful (pos t) ≡ true
unfolding lawful
lawful_number t low high = and_true (le-leb 1 t low) (le-leb t 1000000000 high)

-- a fact of every element by its place
pub All_places : {A : Type 0} (P : A → Type 0) (d : A) (xs : List A) → ((i : ℕ) → i < length xs → P (get_or xs i d)) → All P xs
All_places P d [] h = tt
All_places P d (x ∷ xs) h = (h 0 (omega arith), All_places P d xs (λ i k. h (suc i) (omega arith)))

-- a fact of every element holds of a part of the list, and in the other order
pub All_take : {A : Type 0} (P : A → Type 0) (k : ℕ) (xs : List A) → All P xs → All P (take k xs)
All_take P zero xs h = tt
All_take P (suc k) [] h = tt
All_take P (suc k) (x ∷ xs) h = (h.0, All_take P k xs h.1)

pub All_reverse : {A : Type 0} (P : A → Type 0) (xs : List A) → All P xs → All P (reverse xs)
All_reverse P [] h = tt
All_reverse {A = A} P (x ∷ xs) h = subst (λ (t : List A). All P t) (sym (reverse-cons x xs))
    (All_append P (reverse xs) (x ∷ []) (All_reverse P xs h.1) (h.0, tt))

-- a part of a sum is within it
pub total_part : {A : Type 0} (f : A → ℕ) (xs : List A) (k : ℕ) (d : A) → f d ≡ 0 → f (get_or xs k d) ≤ total (map f xs)
unfolding total
total_part f [] k d z = omega arith
total_part f (x ∷ xs) zero d z = omega arith
total_part f (x ∷ xs) (suc k) d z = omega (arith, total_part f xs k d z)
