-- What a bucket's members and the waiting entries that reach its power weigh together never grows.
use Rattle.std.specs.Prelude.{◌≡◌, Bool, List, [], ◌∷◌, ◌++◌, map, ℕ, ◌+◌, ◌-◌, ◌^◌, ◌≤◌, ◌<◌, eqb, length, get_or, set}
use Rattle.std.proofs.Math.Path.{refl, ap}
use Rattle.std.proofs.Common.{◌∙◌, get_or-set_same, get_or-set_other}
use Rattle.std.proofs.Math.Bool.{true, false, cond}
use native.Mathlib.Omega.{arith}
use Rattle.std.proofs.Math.Dec.{leb}
use borrow.Author.Tests.{leb-true, le-leb, lt-leb, eqb-true, eqb-false}
use Rattle.rules.specs.Lists.{total}
use Rattle.rules.specs.Digits.{top_bit}
use Rattle.rules.specs.Records.{Entry}
use Rattle.rules.specs.Queue.{run, others, requeue}
use Rattle.laws.specs.Lists.Facts.{All, All_map, All_get_or, total_append, total_cong}
use Rattle.laws.specs.Numbers.Powers.{top_bit_within, top_bit_off}
use Rattle.laws.specs.Queue.Runs.{run_weight, run_others, requeue_total, others_all}

-- what an entry's node weighs by g if the entry's weight reaches 2 ^ k
unfoldable pub heavy : (ℕ → ℕ) → ℕ → Entry → ℕ
heavy g k e = cond (leb (2 ^ k) e.weight) (g e.node) 0

-- what the members of bucket k and the waiting entries that reach 2 ^ k weigh together
unfoldable pub load : (ℕ → ℕ) → ℕ → List (List ℕ) → List Entry → ℕ
unfolding total heavy
load g k members queue = total (map g (get_or members k [])) + total (map (heavy g k) queue)

abbrev pub nodes_of : List Entry → List ℕ
nodes_of es = map (λ (e : Entry). e.node) es

-- entries of one weight
heavy_equal : (g : ℕ → ℕ) (k w : ℕ) (es : List Entry) → All (λ e. e.weight ≡ w) es →
    total (map (heavy g k) es) ≡ cond (leb (2 ^ k) w) (total (map g (nodes_of es))) 0
unfolding heavy total
heavy_equal g k w [] h = none (leb (2 ^ k) w)
  where
    none : (b : Bool) → ◌≡◌ {A = ℕ} 0 (cond b 0 0)
    none true = refl
    none false = refl
heavy_equal g k w (e ∷ es) h = go (leb (2 ^ k) w) (ap (leb (2 ^ k)) h.0) (heavy_equal g k w es h.1)
  where
    go : (b : Bool) → leb (2 ^ k) e.weight ≡ b → total (map (heavy g k) es) ≡ cond b (total (map g (nodes_of es))) 0 →
        heavy g k e + total (map (heavy g k) es) ≡ cond b (g e.node + total (map g (nodes_of es))) 0
    go true p ih = rw p (omega arith)
    go false p ih = rw p (omega arith)

-- all that waits with at least weight 1 counts at power 0
pub heavy_all : (g : ℕ → ℕ) (es : List Entry) → All (λ e. 1 ≤ e.weight) es →
    total (map (heavy g 0) es) ≡ total (map (λ (e : Entry). g e.node) es)
unfolding heavy
heavy_all g es h = total_cong (heavy g 0) (λ (e : Entry). g e.node) es
    (All_map (λ e k. ap (λ (b : Bool). cond b (g e.node) 0) (le-leb (2 ^ 0) e.weight k)) es h)

-- the run of weight w counts at power k where w reaches it
pub run_load : (g : ℕ → ℕ) (queue : List Entry) (w k : ℕ) →
    total (map (heavy g k) queue) ≡ cond (leb (2 ^ k) w) (total (map g (nodes_of (run w queue)))) 0 + total
    (map (heavy g k) (others w queue))
run_load g queue w k = run_others (heavy g k) w queue ∙
    ap (λ x. x + total (map (heavy g k) (others w queue))) (heavy_equal g k w (run w queue) (run_weight w queue))

module _ (g g' : ℕ → ℕ) (members : List (List ℕ)) (queue : List Entry) (w m : ℕ) (positive : 1 ≤ w) (inside : top_bit w < length members)
    (members_same : All (λ ms. All (λ x. g' x ≡ g x) ms) members) (queue-same : All (λ e. g' e.node ≡ g e.node) queue)
    (merged : g' m ≤ total (map g (nodes_of (run w queue)))) where
  again : (k : ℕ) → heavy g' k (record { node = m; weight = w - 2 ^ top_bit w }) ≤ cond (leb (2 ^ k) w)
      (total (map g (nodes_of (run w queue)))) 0
  unfolding heavy
  again k = go (leb (2 ^ k) (w - 2 ^ top_bit w)) refl
    where
      go : (b : Bool) → leb (2 ^ k) (w - 2 ^ top_bit w) ≡ b →
          cond b (g' m) 0 ≤ cond (leb (2 ^ k) w) (total (map g (nodes_of (run w queue)))) 0
      go true e =
          let low : 2 ^ k ≤ w - 2 ^ top_bit w = leb-true _ _ e in
          rw (le-leb (2 ^ k) w (omega arith)) merged
      go false e = omega arith

  none_again : heavy g' (top_bit w) (record { node = m; weight = w - 2 ^ top_bit w }) ≡ 0
  unfolding heavy
  none_again = ap (λ (b : Bool). cond b (g' m) 0) (lt-leb (2 ^ top_bit w) (w - 2 ^ top_bit w) (top_bit_off w))

  others_same : (k : ℕ) → total (map (heavy g' k) (others w queue)) ≡ total (map (heavy g k) (others w queue))
  unfolding heavy
  others_same k =
      total_cong (heavy g' k) (heavy g k) (others w queue)
      (others_all (λ e. heavy g' k e ≡ heavy g k e) w queue
      (All_map (λ e h. ap (λ (x : ℕ). cond (leb (2 ^ k) e.weight) x 0) h) queue queue-same))

  bucket_same : (k : ℕ) → total (map g' (get_or members k [])) ≡ total (map g (get_or members k []))
  bucket_same k = total_cong g' g (get_or members k []) (All_get_or (λ ms. All (λ x. g' x ≡ g x) ms) members k [] members_same tt)

  -- taking weight w does not make it more
  pub load_step : (k : ℕ) → load g' k (set members (top_bit w) (get_or members (top_bit w) [] ++ (m ∷ [])))
      (requeue (others w queue) m (w - 2 ^ top_bit w)) ≤ load g k members queue
  unfolding load
  load_step k = go (eqb k (top_bit w)) refl
    where
      left_most : (k : ℕ) → total (map (heavy g' k) (requeue (others w queue) m (w - 2 ^ top_bit w))) ≤ heavy g' k
          (record { node = m; weight = w - 2 ^ top_bit w }) + total (map (heavy g' k) (others w queue))
      left_most k = requeue_total (heavy g' k) (others w queue) m (w - 2 ^ top_bit w)

      go : (b : Bool) → eqb k (top_bit w) ≡ b →
          total (map g' (get_or (set members (top_bit w) (get_or members (top_bit w) [] ++ (m ∷ []))) k [])) + total
          (map (heavy g' k) (requeue (others w queue) m (w - 2 ^ top_bit w))) ≤
          total (map g (get_or members k [])) + total (map (heavy g k) queue)
      go true e =
          let is : k ≡ top_bit w = eqb-true k (top_bit w) e in
          let here : get_or (set members (top_bit w) (get_or members (top_bit w) [] ++ (m ∷ []))) (top_bit w) [] ≡ get_or members (top_bit w)
          [] ++ (m ∷ []) =
          get_or-set_same members (top_bit w) (get_or members (top_bit w) [] ++ (m ∷ [])) [] inside in
          let sum : total (map g' (get_or members (top_bit w) [] ++ (m ∷ []))) ≡ total (map g' (get_or members (top_bit w) [])) + total
          (map g' (m ∷ [])) =
          total_append g' (get_or members (top_bit w) []) (m ∷ []) in
          let reached : leb (2 ^ top_bit w) w ≡ true = le-leb _ _ (top_bit_within w positive) in
          let all : total (map (heavy g (top_bit w)) queue) ≡ total (map g (nodes_of (run w queue))) + total
          (map (heavy g (top_bit w)) (others w queue)) =
          run_load g queue w (top_bit w) ∙ ap (λ (b : Bool). cond b (total (map g (nodes_of (run w queue)))) 0 + total
          (map (heavy g (top_bit w)) (others w queue))) reached in
          rw is (rw here (omega (
            arith,
            sum,
            all,
            single,
            bucket_same (top_bit w),
            left_most (top_bit w),
            none_again,
            others_same (top_bit w),
            merged,
          )))
        where
          single : total (map g' (m ∷ [])) ≡ g' m
          single = one (g' m)
            where
              one : (x : ℕ) → total (x ∷ []) ≡ x
              one x = omega arith
      go false e =
          let other : get_or (set members (top_bit w) (get_or members (top_bit w) [] ++ (m ∷ []))) k [] ≡ get_or members k [] =
          get_or-set_other members (top_bit w) k (get_or members (top_bit w) [] ++ (m ∷ [])) [] (eqb-false k (top_bit w) e) in
          rw other (omega (arith, bucket_same k, run_load g queue w k, left_most k, again k, others_same k))
