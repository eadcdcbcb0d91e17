-- "Counted over all inputs, the powers of the buckets each stands under plus what waits equals the weight sum": after any accepted calls.
use Rattle.std.specs.Prelude.{◌≡◌, refl, ◌≢◌, Bool, true, false, eqb, get_or, drop, ℤ, pos, negsuc}
use Rattle.std.proofs.Math.Path.{sym, ap}
use Rattle.std.proofs.Common.{ap₂, ◌∙◌, inl, inr, mul_comm, mul-one, mul-add, div-one, pow-add, eqb-true, eq-eqb, ne_eqb}
use mathlib.Core.List.{List, [], ◌∷◌, map}
use Prim.Native.Nat.{ℕ, zero, suc, ◌+◌, ◌*◌, ◌/◌, ◌^◌, ◌≤◌, ◌<◌}
use native.Mathlib.Omega.{arith}
use Rattle.std.proofs.Math.Nat.{mul_assoc, mul-zero, zero-add, pow-succ'}
use Rattle.std.proofs.Math.ListN.{length}
use Rattle.std.proofs.lemmas.List.{length-map}
use Rattle.std.proofs.Math.IntN.{nat_abs}
use Rattle.std.proofs.lemmas.Bool.{eqb-false}
use Rattle.rules.specs.Lists.{total}
use Rattle.rules.specs.Digits.{top_bit}
use Rattle.rules.specs.Records.{Entry, node_at, literal_word}
use Rattle.rules.specs.Build.{Build, output_weight, some_wait}
use Rattle.rules.specs.Combined.{combined_literals, combined_weights}
use Rattle.rules.specs.Start.{start_refusal, new_build}
use Rattle.laws.specs.Lists.Facts.{All, All_map, All_drop, occurs, occurs_here, occurs_more}
use Rattle.laws.specs.Combined.{combined_once}
use Rattle.preserve.specs.Starts.{lent}
use Rattle.guarantee.specs.Meaning.Truth.{Truths}
use Rattle.guarantee.specs.Meaning.Values.{bit}
use Rattle.guarantee.specs.Counting.Chains.{units, tare_sum, tops, tops_length}
use Rattle.guarantee.specs.Counting.Queues.{waited}
use Rattle.guarantee.specs.Counting.Weighing.{values}
use Rattle.guarantee.specs.Promise.{sum_of}
use Rattle.guarantee.specs.Histories.Worlds.{Leads, World}
use Rattle.guarantee.specs.Histories.Reached.{started_world, leads_world}
use Rattle.guarantee.specs.Histories.Plain.{Plain, leads_plain, new_plain}
use Rattle.guarantee.proofs.Answered.{counting}
use Rattle.guarantee.specs.Standing.{powers, waits_of, weight_of, only, weight_values}

powers_units : (f : ℕ → ℕ) (k m : ℕ) (ms : List ℕ) → powers f (k * 2 ^ length ms) (m ∷ ms) ≡ k * units (map f (m ∷ ms))
powers_units f k m [] = ap (λ (x : ℕ). x * f m + 0) (mul-one k) ∙ (omega arith ∙ ap (λ (x : ℕ). k * (x + 0)) (sym (mul-one (f m))))
powers_units f k m (n ∷ ms) =
    let p : ℕ = 2 ^ length ms in
    let half : k * 2 ^ suc (length ms) / 2 ≡ k * p =
    ap (λ (x : ℕ). x / 2) (ap (λ (x : ℕ). k * x) (pow-succ' 2 (length ms) ∙ mul_comm 2 p) ∙ sym (mul_assoc k p 2)) ∙ omega arith in
    let first : k * 2 ^ suc (length ms) * f m ≡ k * (f m * 2 ^ suc (length ms)) = mul_assoc k (2 ^ suc (length ms)) (f m) ∙ ap (λ (x : ℕ). k * x) (mul_comm (2 ^ suc (length ms)) (f m)) in
    let lower : powers f (k * 2 ^ suc (length ms) / 2) (n ∷ ms) ≡ k * units (map f (n ∷ ms)) = ap (λ (w : ℕ). powers f w (n ∷ ms)) half ∙ powers_units f k n ms in
    ap₂ ◌+◌ first lower ∙ (sym (mul-add k (f m * 2 ^ suc (length ms)) (units (map f (n ∷ ms)))) ∙ ap (λ (x : ℕ). k * (f m * 2 ^ suc x + units (map f (n ∷ ms)))) (sym (length-map ms f)))

waits_waited : (f : ℕ → ℕ) (es : List Entry) → waited f 1 es ≡ waits_of f es
unfolding total
waits_waited f [] = refl
waits_waited f (e ∷ es) = ap₂ (λ (x y : ℕ). x * f e.node + y) (div-one e.weight) (waits_waited f es)

-- inputs of which none is x weigh nothing where x alone is true
sum_none : (d : ℕ) (x : ℤ) (xs : List ℤ) (ws : List ℕ) → occurs (literal_word x) (map literal_word xs) ≡ 0 → sum_of xs ws d (only x) ≡ 0
sum_none d x [] ws h = refl
sum_none d x (y ∷ xs) [] h = refl
sum_none d x (y ∷ xs) (w ∷ ws) h =
    let off : eqb (literal_word y) (literal_word x) ≡ false =
    ne_eqb (literal_word y) (literal_word x) (λ e. omega (arith, h, occurs_here (literal_word x) (literal_word y) (map literal_word xs) (sym e))) in
    let rest : sum_of xs ws d (only x) ≡ 0 = sum_none d x xs ws (omega (arith, h, occurs_more (literal_word x) (literal_word y) (map literal_word xs))) in
    ap₂ (λ (t : Bool) (s : ℕ). w / d * bit t + s) off rest ∙ omega (arith, mul-zero (w / d))

stands_there : (xs : List ℤ) (i : ℕ) → i < length xs → 1 ≤ occurs (literal_word (get_or xs i (pos 0))) (map literal_word xs)
stands_there [] i h = absurd (omega arith)
stands_there (x ∷ xs) zero h = omega (arith, occurs_here (literal_word x) (literal_word x) (map literal_word xs) refl)
stands_there (x ∷ xs) (suc i) h = omega (arith, stands_there xs i (omega arith), occurs_more (literal_word (get_or xs i (pos 0))) (literal_word x) (map literal_word xs))

-- where input i alone is true, the inputs weigh its weight
sum_only : (xs : List ℤ) (ws : List ℕ) → length xs ≡ length ws → ((n : ℕ) → occurs n (map literal_word xs) ≤ 1) → (i : ℕ) → i < length xs →
    sum_of xs ws 1 (only (get_or xs i (pos 0))) ≡ get_or ws i 0
sum_only [] ws e once i h = absurd (omega arith)
sum_only (x ∷ xs) [] e once i h = absurd (omega arith)
sum_only (x ∷ xs) (w ∷ ws) e once zero h =
    let none : sum_of xs ws 1 (only x) ≡ 0 = sum_none 1 x xs ws (omega (arith, once (literal_word x), occurs_here (literal_word x) (literal_word x) (map literal_word xs) refl)) in
    ap₂ (λ (t : Bool) (s : ℕ). w / 1 * bit t + s) (eq-eqb (literal_word x) (literal_word x) refl) none ∙ omega (arith, mul-one (w / 1), div-one w)
sum_only (x ∷ xs) (w ∷ ws) e once (suc i) h =
    let y : ℤ = get_or xs i (pos 0) in
    let there : 1 ≤ occurs (literal_word y) (map literal_word xs) = stands_there xs i (omega arith) in
    let off : eqb (literal_word x) (literal_word y) ≡ false =
    ne_eqb (literal_word x) (literal_word y) (λ q. omega (arith, there, once (literal_word y), occurs_here (literal_word y) (literal_word x) (map literal_word xs) (sym q))) in
    let rest : sum_of xs ws 1 (only y) ≡ get_or ws i 0 = sum_only xs ws (omega arith) (λ n. omega (arith, once n, occurs_more n (literal_word x) (map literal_word xs))) i (omega arith) in
    ap₂ (λ (t : Bool) (s : ℕ). w / 1 * bit t + s) off rest ∙ omega (arith, mul-zero (w / 1))

-- a tare is no input, so it is not true where an input alone is
word_apart : (x : ℤ) (u : ℕ) → nat_abs x ≢ u → eqb (literal_word (pos u)) (literal_word x) ≡ false
unfolding literal_word
word_apart (pos n) u h = ne_eqb (2 * u) (2 * n) (λ e. h (omega arith))
word_apart (negsuc n) u h = ne_eqb (2 * u) (2 * suc n + 1) (λ e. omega arith)

tares_none : (x : ℤ) (ts : List ℕ) → All (λ u. nat_abs x ≢ u) ts → tare_sum (only x) ts ≡ 0
tares_none x [] a = refl
tares_none x (u ∷ ts) a = ap₂ (λ (t : Bool) (s : ℕ). bit t + 2 * s) (word_apart x u a.0) (tares_none x ts a.1)

inputs_place : (xs : List ℤ) (P : ℤ → Type 0) → All P xs → (i : ℕ) → i < length xs → P (get_or xs i (pos 0))
inputs_place [] P a i h = absurd (omega arith)
inputs_place (x ∷ xs) P a zero h = a.0
inputs_place (x ∷ xs) P a (suc i) h = inputs_place xs P a.1 i (omega arith)

module _ (xs : List ℤ) (ws : List ℕ) (b : Build) (v : World xs ws b) (plain : Plain b) (i : ℕ) (h : i < length xs) (weighs : sum_of xs ws 1 (only (get_or xs i (pos 0))) ≡ get_or ws i 0) where
  x : ℤ
  x = get_or xs i (pos 0)

  t : Truths
  unfolding x
  t = only x

  members : List ℕ
  members = tops (node_at b.arena.records) (some_wait b.queue) b.buckets

  unbuilt_weighs : b.built ≡ 0 → weight_of b x ≡ get_or ws i 0
  unfolding t x
  unbuilt_weighs z =
      let none : powers (values b t) (b.built * output_weight b) (tops (node_at b.arena.records) (some_wait b.queue) b.buckets) ≡ 0 =
      ap (λ (bs : List ℕ). powers (values b t) (b.built * output_weight b) (tops (node_at b.arena.records) (some_wait b.queue) bs)) (v.formed.if_unbuilt z).no_bucket in
      weight_values b v.formed plain x (inr z) ∙
      (ap₂ ◌+◌ none (sym (waits_waited (values b t) b.queue) ∙ (sym ((v.if_unbuilt z).waits 0 t) ∙ weighs)) ∙ zero-add (get_or ws i 0))

  module _ (n : b.built ≢ 0) where
    left : ℕ
    left = (v.if_built n).left_out

    tares_off : tare_sum t (drop left b.tares) ≡ 0
    unfolding t x
    tares_off =
        tares_none x (drop left b.tares)
        (All_drop (λ u. nat_abs x ≢ u) left b.tares (inputs_place xs (λ y. All (λ u. nat_abs y ≢ u) b.tares) (All_map (λ y a. a.1) xs (counting xs ws b v n).inputs_apart) i h))

    own : 2 ^ left * units (map (values b t) members) ≡ sum_of xs ws b.built t
    unfolding left members
    own =
        (v.if_built n).counts t ∙ (ap (λ (k : ℕ). sum_of xs ws b.built t + 2 ^ left * k) tares_off ∙ omega (arith, mul-zero (2 ^ left)))

    counted : (ms : List ℕ) → left + length ms ≡ suc (length b.tares) → 1 ≤ length ms → powers (values b t) (b.built * output_weight b) ms ≡ b.built * (2 ^ left * units (map (values b t) ms))
    unfolding output_weight
    counted [] e k = absurd (omega arith)
    counted (m ∷ ms) e k =
        let tall : length b.tares ≡ left + length ms = omega arith in
        let root : b.built * 2 ^ length b.tares ≡ b.built * 2 ^ left * 2 ^ length ms =
        ap (λ (j : ℕ). b.built * 2 ^ j) tall ∙ (ap (λ (j : ℕ). b.built * j) (pow-add 2 left (length ms)) ∙ sym (mul_assoc b.built (2 ^ left) (2 ^ length ms))) in
        ap (λ (w : ℕ). powers (values b t) w (m ∷ ms)) root ∙ (powers_units (values b t) (b.built * 2 ^ left) m ms ∙ mul_assoc b.built (2 ^ left) (units (map (values b t) (m ∷ ms))))

    built_weighs : weight_of b x ≡ get_or ws i 0
    unfolding t x members left
    built_weighs =
        let j : ℕ = top_bit b.built in
        let tall : length members ≡ length b.buckets = tops_length (node_at b.arena.records) (some_wait b.queue) b.buckets in
        let under : powers (values b t) (b.built * output_weight b) members ≡ b.built * sum_of xs ws b.built t =
        counted members (omega (arith, (v.if_built n).left_count)) (omega (arith, (v.formed.if_built n).some)) ∙ ap (λ (k : ℕ). b.built * k) own in
        weight_values b v.formed plain x (inl n) ∙
        (ap₂ ◌+◌ (under ∙ ap (λ (k : ℕ). k * sum_of xs ws b.built t) (v.formed.if_built n).power) (sym (waits_waited (values b t) b.queue)) ∙
        (sym ((v.if_built n).rest j 0 t (omega arith)) ∙ weighs))

  weighed : weight_of b x ≡ get_or ws i 0
  weighed = go (eqb b.built 0) refl
    where
      go : (k : Bool) → eqb b.built 0 ≡ k → weight_of b x ≡ get_or ws i 0
      go true e = unbuilt_weighs (eqb-true b.built 0 e)
      go false e = built_weighs (eqb-false b.built 0 e)

total_places : (f : ℤ → ℕ) (xs : List ℤ) (ws : List ℕ) → length xs ≡ length ws → ((i : ℕ) → i < length xs → f (get_or xs i (pos 0)) ≡ get_or ws i 0) → total (map f xs) ≡ total ws
unfolding total
total_places f [] [] e h = refl
total_places f [] (w ∷ ws) e h = absurd (omega arith)
total_places f (x ∷ xs) [] e h = absurd (omega arith)
total_places f (x ∷ xs) (w ∷ ws) e h = ap₂ ◌+◌ (h 0 (omega arith)) (total_places f xs ws (omega arith) (λ i k. h (suc i) (omega arith)))

module _ (lits : List ℤ) (weights : List ℕ) (first : ℕ) (store : List ℕ) (accepted : start_refusal lits weights first store ≡ 0) (b : Build)
    (reached : Leads (new_build (combined_literals lits) (combined_weights lits weights) first) b) where
  -- the inputs: the combined list
  abbrev pub xs : List ℤ
  xs = combined_literals lits

  abbrev pub ws : List ℕ
  ws = combined_weights lits weights

  v : World xs ws b
  v = leads_world xs ws (new_build xs ws first) b (started_world xs ws first store (lent lits weights first store accepted)) reached

  plain : Plain b
  plain = leads_plain xs ws (new_build xs ws first) b (started_world xs ws first store (lent lits weights first store accepted)) (new_plain xs ws first) reached

  -- for each input, the powers of the buckets that it stands under plus what waits of it is its weight
  pub input_weight : (i : ℕ) → i < length xs → weight_of b (get_or xs i (pos 0)) ≡ get_or ws i 0
  unfolding x
  input_weight i h = weighed xs ws b v plain i h (sum_only xs ws (lent lits weights first store accepted).lengths (combined_once lits) i h)

  -- counted over all inputs, the powers of the buckets each stands under plus what waits equals the weight sum
  pub weight_sum : total (map (weight_of b) xs) ≡ b.sum
  weight_sum = total_places (weight_of b) xs ws (lent lits weights first store accepted).lengths input_weight ∙ sym v.sum_is
