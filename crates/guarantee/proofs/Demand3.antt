-- Demand 3 and Ask 13 over builds: what an answer promises, over any accepted calls, also after more encoding and after refinement.
use Rattle.std.specs.Prelude.{◌≡◌, ◌≢◌, ◌↔◌, Bool, true, false, cond, ◌&&◌, List, [], ◌∷◌, ℕ, zero, suc, ◌+◌, ◌*◌, ◌-◌, ◌/◌, ◌%◌, ◌^◌, ◌≤◌, ◌<◌, eqb, leb, ltb, ℤ, pos, neg_ℤ}
use Rattle.std.proofs.Math.Path.{refl}
use Rattle.std.proofs.Common.{sym, ap, ap₂, ◌∙◌, subst, arith, zero-mul, one-mul, mul-one, mul_comm, suc-mul, div-add-mod', mod-lt, div-mul-le_self, div-one, mul-div_cancel, mul-pos, mul-le-mul_left, mul-suc, pow_pos, pow-add, eqb-true, leb-true, leb-false, ltb-true, ltb-false}
use Rattle.std.proofs.Math.Option.{none, some}
use Rattle.std.proofs.Math.Nat.{zero-div, div-div-eq-div-mul}
use Rattle.std.proofs.Math.ListN.{length}
use Rattle.std.proofs.lemmas.Bool.{eqb-false}
use Rattle.rules.specs.Lists.{total}
use Rattle.rules.specs.Digits.{top_bit}
use Rattle.rules.specs.Records.{node_at}
use Rattle.rules.specs.Totalizer.{number_of}
use Rattle.rules.specs.Build.{Build, unbuilt, output_weight, root, root_node, largest}
use Rattle.rules.specs.Combined.{combined_literals, combined_weights}
use Rattle.rules.specs.Start.{start_refusal, new_build}
use Rattle.rules.specs.Enforce.{set_tares, output_answer, root_answer, built_answer, enforce}
use Rattle.laws.specs.Lists.Facts.{All_map}
use Rattle.laws.specs.Records.Places.{place}
use Rattle.laws.specs.Numbers.Powers.{top_bit_least}
use Rattle.laws.specs.Queue.Runs.{largest_all}
use Rattle.laws.specs.WellFormed.Plain.{Formed}
use Rattle.preserve.specs.Starts.{Lent, lent}
use Rattle.guarantee.specs.Meaning.Truth.{Assign, Truths, holds}
use Rattle.guarantee.specs.Meaning.Values.{value, value_all}
use Rattle.guarantee.specs.Counting.Chains.{tare_sum, tare_all}
use Rattle.guarantee.specs.Counting.Queues.{waited, waited_none}
use Rattle.guarantee.specs.Promise.{sum_of, Admits, Refined, Promised}
use Rattle.guarantee.specs.Answers.{Counting}
use Rattle.guarantee.proofs.Answers.{bound_law}
use Rattle.guarantee.specs.Histories.Worlds.{Leads, World, Follows}
use Rattle.guarantee.specs.Histories.Reached.{started_world, leads_world, leads_follows}
use Rattle.guarantee.specs.Answered.{asked, Enforced}
use Rattle.guarantee.proofs.Answered.{counting, enforced, nothing_some, none_some, none_enforce, two_enforce, later_admits}
use Rattle.guarantee.specs.Single.{Alone}
use Rattle.guarantee.proofs.Single.{alone}
use Rattle.guarantee.specs.Demand3.{inputs, input_weights}

self_div : (k : ℕ) → k ≢ 0 → k / k ≡ 1
self_div zero h = absurd (h refl)
self_div (suc k) h = ap (λ (m : ℕ). m / suc k) (sym (one-mul (suc k))) ∙ mul-div_cancel 1 (omega arith)

not_zero : (k : ℕ) → k ≢ 0 → 1 ≤ k
not_zero zero h = absurd (h refl)
not_zero (suc k) h = omega arith

-- the finer divisor goes into the coarser one
scale_is : (b c : Build) (f : Follows b c) → b.built / c.built ≡ 2 ^ length f.front
scale_is b c f =
    let positive : 1 ≤ c.built = not_zero c.built f.still_built in
    ap (λ (k : ℕ). k / c.built) (sym f.scale) ∙ mul-div_cancel (2 ^ length f.front) positive

-- weights undivided
sum_one : (xs : List ℤ) (ws : List ℕ) → length xs ≡ length ws → sum_of xs ws 1 (λ x. true) ≡ total ws
unfolding total
sum_one [] [] e = refl
sum_one [] (w ∷ ws) e = absurd (omega arith)
sum_one (x ∷ xs) [] e = absurd (omega arith)
sum_one (x ∷ xs) (w ∷ ws) e = ap₂ ◌+◌ (mul-one (w / 1) ∙ div-one w) (sum_one xs ws (omega arith))

-- the built divisor is 2^j times the set one
ratio : (b : Build) → Formed b → b.built ≢ 0 → (j : ℕ) × (top_bit b.set + j ≡ top_bit b.built) × (2 ^ j * b.set ≡ b.built) × (b.built / b.set ≡ 2 ^ j)
ratio b f n = (j, up, scale, ap (λ (k : ℕ). k / b.set) (sym scale) ∙ mul-div_cancel (2 ^ j) (omega (arith, pow_pos p, f.set_power)))
  where
    p : ℕ
    p = top_bit b.set

    j : ℕ
    j = top_bit b.built - p

    up : p + j ≡ top_bit b.built
    up = omega (arith, top_bit_least p b.built (omega (arith, f.set_power, (f.if_built n).coarser)))

    scale : 2 ^ j * b.set ≡ b.built
    scale =
        ap (λ (k : ℕ). 2 ^ j * k) f.set_power ∙ (mul_comm (2 ^ j) (2 ^ p) ∙ (sym (pow-add 2 p j) ∙ (ap (λ (k : ℕ). 2 ^ k) up ∙ sym (f.if_built n).power)))

-- u over built over set divisor is u times the set one over the built one
asked_is : (xs : List ℤ) (ws : List ℕ) (b : Build) → World xs ws b → b.built ≢ 0 → (u : ℕ) → asked b u ≡ u * b.set / b.built
asked_is xs ws b w n u =
    let (j, up, scale, is) = ratio b w.formed n in
    let positive : 1 ≤ b.set = omega (arith, pow_pos (top_bit b.set), w.formed.set_power) in
    ap (λ (k : ℕ). u / k) is ∙ sym
    (ap (λ (k : ℕ). u * b.set / k) (sym scale ∙ mul_comm (2 ^ j) b.set) ∙
    (sym (div-div-eq-div-mul (u * b.set) b.set (2 ^ j)) ∙ ap (λ (k : ℕ). k / 2 ^ j) (mul-div_cancel u positive)))

-- what waits does not reach the set divisor, so the weights at it are those at the built one, shifted
settled_sum : (xs : List ℤ) (ws : List ℕ) (b : Build) → World xs ws b → (n : b.built ≢ 0) → largest b.queue < b.set → (t : Truths) →
    (sum_of xs ws b.set t ≡ b.built / b.set * sum_of xs ws b.built t) × (1 ≤ b.built / b.set)
settled_sum xs ws b w n low t =
    let p : ℕ = top_bit b.set in
    let (j, up, scale, is) = ratio b w.formed n in
    let set_is : b.set ≡ 2 ^ p = w.formed.set_power in
    let none : waited (λ i. value (node_at b.arena.records) t i) (2 ^ p) b.queue ≡ 0 =
    waited_none (λ i. value (node_at b.arena.records) t i) (2 ^ p) b.queue
    (All_map (λ q h. omega (arith, low, set_is)) b.queue (largest_all b.queue (largest b.queue) (omega arith))) in (
      ap (λ (d : ℕ). sum_of xs ws d t) set_is ∙ ((w.if_built n).rest j p t up ∙ (omega (arith, none) ∙ ap (λ (k : ℕ). k * sum_of xs ws b.built t) (sym is))),
      subst (λ (k : ℕ). 1 ≤ k) (sym is) (pow_pos j),
    )

module _ (lits : List ℤ) (weights : List ℕ) (first : ℕ) (store : List ℕ) (accepted : start_refusal lits weights first store ≡ 0) (b : Build)
    (reached : Leads (new_build (combined_literals lits) (combined_weights lits weights) first) b) where
  -- the inputs: the combined list
  abbrev pub xs : List ℤ
  xs = inputs lits weights

  abbrev pub ws : List ℕ
  ws = input_weights lits weights

  given : Lent xs ws first store
  given = lent lits weights first store accepted

  world : World xs ws b
  world = leads_world xs ws (new_build xs ws first) b (started_world xs ws first store given) reached

  inputs_two : 2 ≤ length xs → 2 ≤ b.inputs
  inputs_two two = omega (arith, world.inputs_are)

  -- a later built divisor goes into the earlier one
  later_divides : (c : Build) → Leads b c → b.built / c.built * c.built ≡ b.built
  later_divides c later = go (eqb b.built 0) refl
    where
      go : (t : Bool) → eqb b.built 0 ≡ t → b.built / c.built * c.built ≡ b.built
      go true e =
          let z : b.built ≡ 0 = eqb-true b.built 0 e in
          ap (λ (k : ℕ). k / c.built * c.built) z ∙ (ap (λ (k : ℕ). k * c.built) (zero-div c.built) ∙ (zero-mul c.built ∙ sym z))
      go false e =
          let f : Follows b c = leads_follows xs ws b c world (eqb-false b.built 0 e) later in
          ap (λ (k : ℕ). k * c.built) (scale_is b c f) ∙ f.scale

  -- Ask 13 of the change requests, its second sentence: an answer for u, asked as q = u divided by built over set divisor, admits in any later
  -- world at divisor d' the loads whose sum at d' is at most (D/d')(q + 1) - 1
  answer_later : 2 ≤ length xs → (u : ℕ) (l : ℤ) (ls : List ℤ) → enforce b u ≡ some (l ∷ ls) → (c : Build) → Leads b c → (α : Assign) →
      Admits xs c.arena.clauses (l ∷ ls) α ↔ (sum_of xs ws c.built (holds α) ≤ b.built / c.built * suc (asked b u) - 1)
  answer_later two u l ls e c later α =
      let en : Enforced b u (l ∷ ls) = enforced b u l ls (inputs_two two) e in
      let f : Follows b c = leads_follows xs ws b c world en.is_built later in
      let main = later_admits xs ws b c world (leads_world xs ws b c world later) f (asked b u) (l ∷ ls) en.answered α in
      let same : b.built / c.built * suc (asked b u) ≡ 2 ^ length f.front * suc (asked b u) = ap (λ (k : ℕ). k * suc (asked b u)) (scale_is b c f) in
      let some_more : 1 ≤ 2 ^ length f.front * suc (asked b u) = mul-pos (pow_pos (length f.front)) (omega arith) in
      (λ h. omega (arith, main.0 h), λ h. main.1 (omega arith))

  -- Ask 13, its first sentence: a finer question to a coarser build. The answer admits exactly the loads whose weights, divided by the set
  -- divisor and rounded down, sum to at most u; so it does in any later world, until a refinement
  finer_question : 2 ≤ length xs → (u : ℕ) (l : ℤ) (ls : List ℤ) → enforce b u ≡ some (l ∷ ls) → (c : Build) → Leads b c → c.built ≡ b.built → (α : Assign) →
      Admits xs c.arena.clauses (l ∷ ls) α ↔ (sum_of xs ws b.set (holds α) ≤ u)
  finer_question two u l ls e c later same α =
      let en : Enforced b u (l ∷ ls) = enforced b u l ls (inputs_two two) e in
      let k : ℕ = b.built / b.set in
      let s : ℕ = sum_of xs ws b.built (holds α) in
      let main : Admits xs c.arena.clauses (l ∷ ls) α ↔ (s ≤ b.built / b.built * suc (u / k) - 1) =
      subst (λ (d : ℕ). Admits xs c.arena.clauses (l ∷ ls) α ↔ (sum_of xs ws d (holds α) ≤ b.built / d * suc (u / k) - 1)) same
      (answer_later two u l ls e c later α) in
      let (is, positive) = settled_sum xs ws b world en.is_built en.settled (holds α) in
      let one : b.built / b.built * suc (u / k) - 1 ≡ u / k = ap (λ (m : ℕ). m * suc (u / k) - 1) (self_div b.built en.is_built) ∙ omega (arith, one-mul (suc (u / k))) in
      let law : (s ≤ u / k) ↔ (k * s ≤ u) = bound_div u k s positive in
      (λ h. omega (arith, is, law.0 (omega (arith, main.0 h, one))), λ h. main.1 (omega (arith, one, law.1 (omega (arith, is)))))
    where
      bound_div : (u k s : ℕ) → 1 ≤ k → (s ≤ u / k) ↔ (k * s ≤ u)
      bound_div u k s h = (λ q. omega (arith, mul-le-mul_left k q, div-mul-le_self u k, mul_comm k (u / k)), λ q. over (leb s (u / k)) refl q)
        where
          over : (t : Bool) → leb s (u / k) ≡ t → k * s ≤ u → s ≤ u / k
          over true e q = leb-true s (u / k) e
          over false e q =
              let up : suc (u / k) ≤ s = leb-false s (u / k) e in
              let more : k * suc (u / k) ≤ k * s = mul-le-mul_left k up in
              absurd (omega (arith, more, mul-suc k (u / k), mul_comm k (u / k), div-add-mod' u k, mod-lt u h))

  -- two or more inputs and a non-empty answer, in any later world
  refined : 2 ≤ length xs → (u : ℕ) (l : ℤ) (ls : List ℤ) → enforce b u ≡ some (l ∷ ls) → (c : Build) → Leads b c →
      Refined xs ws b.set b.built u (l ∷ ls) c.built c.arena.clauses
  refined two u l ls e c later =
      let n : b.built ≢ 0 = (enforced b u l ls (inputs_two two) e).is_built in
      record {
        is_built = not_zero b.built n;
        divides = later_divides c later;
        admits = λ α.
            subst (λ (q : ℕ). Admits xs c.arena.clauses (l ∷ ls) α ↔ (sum_of xs ws c.built (holds α) ≤ b.built / c.built * suc q - 1)) (asked_is xs ws b world n u)
            (answer_later two u l ls e c later α);
      }

  -- a non-empty answer for u, in any later world
  pub promised : (u : ℕ) (l : ℤ) (ls : List ℤ) → enforce b u ≡ some (l ∷ ls) → (c : Build) → Leads b c →
      Promised xs ws b.set b.built u (l ∷ ls) c.built c.arena.clauses
  promised u l ls e c later = go (ltb 1 (length xs)) refl (ltb 0 (length xs)) refl
    where
      go : (t : Bool) → ltb 1 (length xs) ≡ t → (v : Bool) → ltb 0 (length xs) ≡ v → Promised xs ws b.set b.built u (l ∷ ls) c.built c.arena.clauses
      go true q v r =
          let two : 2 ≤ length xs = ltb-true 1 (length xs) q in
          record { unrefined = finer_question two u l ls e c later; one_input = λ one. absurd (omega arith); two_inputs = λ h. refined two u l ls e c later }
      go false q true r =
          let low : length xs ≤ 1 = ltb-false 1 (length xs) q in
          let a : Alone xs ws b = alone xs ws first store given (omega (arith, ltb-true 0 (length xs) r)) b reached in
          record { unrefined = λ same. a.admits u l ls e c later; one_input = λ one. a.kept c later; two_inputs = λ h. absurd (omega arith) }
      go false q false r = absurd (nothing_some l ls (sym (none_enforce b u (omega (arith, world.inputs_are, ltb-false 0 (length xs) r))) ∙ e))

  -- two or more inputs and an empty answer
  empty_two : 2 ≤ length xs → (u : ℕ) → enforce b u ≡ some [] → sum_of xs ws b.set (λ x. true) ≤ u
  unfolding built_answer root_answer output_answer unbuilt output_weight root_node
  empty_two two u e = first_test (leb b.sum u) refl (eqb b.set 1) refl (sym (two_enforce b u (inputs_two two)) ∙ e)
    where
      lengths : length xs ≡ length ws
      lengths = given.lengths

      q : ℕ
      q = asked b u

      v : ℕ
      v = 2 ^ length b.tares

      -- the bound reaches the root's maximum
      high : (n : b.built ≢ 0) → largest b.queue < b.set → (node_at b.arena.records (root b)).maximum ≤ q / v → sum_of xs ws b.set (λ x. true) ≤ u
      high n low h =
          let c : Counting xs ws b.built b.arena (root b) b.tares = counting xs ws b world n in
          let s : ℕ = sum_of xs ws b.built (λ x. true) in
          let k : ℕ = b.built / b.set in
          let is : (s + tare_sum (λ x. true) b.tares) / v ≡ (node_at b.arena.records (root b)).maximum =
          sym (c.root_value (λ x. true)) ∙ value_all (node_at b.arena.records) (place b.arena.records) world.formed.sound (root b) in
          let within : s + tare_sum (λ x. true) b.tares < suc (q / v) * v = (bound_law (s + tare_sum (λ x. true) b.tares) (q / v) (length b.tares)).0 (omega arith) in
          let small : s ≤ q = omega (arith, tare_all b.tares, suc-mul (q / v) v, div-mul-le_self q v) in
          let (set_is, positive) = settled_sum xs ws b world n low (λ x. true) in
          omega (arith, set_is, mul-le-mul_left k small, div-mul-le_self u k, mul_comm k (u / k))

      rooted : (n : b.built ≢ 0) → largest b.queue < b.set → (t : Bool) → leb (node_at b.arena.records (root b)).maximum (q / v) ≡ t →
          cond t (some []) (output_answer b q (number_of b.arena.records (root b) (suc (q / v)))) ≡ some [] → sum_of xs ws b.set (λ x. true) ≤ u
      rooted n low true y k = high n low (leb-true (node_at b.arena.records (root b)).maximum (q / v) y)
      rooted n low false y k = absurd (numbered (number_of b.arena.records (root b) (suc (q / v))) k)
        where
          numbered : (m : ℕ) → output_answer b q m ≡ some [] → ⊥
          numbered zero k = none_some [] k
          numbered (suc m) k = nothing_some (neg_ℤ (pos (suc m))) (set_tares b.tares (v - 1 - q % v)) (sym k)

      built : (t : Bool) → eqb b.built 0 ≡ t → (d : Bool) → leb b.set (largest b.queue) ≡ d → cond t none (cond d none (root_answer b q)) ≡ some [] → sum_of xs ws b.set (λ x. true) ≤ u
      built true z d y k = absurd (none_some [] k)
      built false z true y k = absurd (none_some [] k)
      built false z false y k =
          rooted (eqb-false b.built 0 z) (leb-false b.set (largest b.queue) y) (leb (node_at b.arena.records (root b)).maximum (q / v)) refl k

      first_test : (t : Bool) → leb b.sum u ≡ t → (d : Bool) → eqb b.set 1 ≡ d → cond (t && d) (some []) (built_answer b u) ≡ some [] → sum_of xs ws b.set (λ x. true) ≤ u
      first_test true h true y k =
          let undivided : sum_of xs ws b.set (λ x. true) ≡ total ws = ap (λ (d : ℕ). sum_of xs ws d (λ x. true)) (eqb-true b.set 1 y) ∙ sum_one xs ws lengths in
          omega (arith, leb-true b.sum u h, world.sum_is)
      first_test true h false y k = built (eqb b.built 0) refl (leb b.set (largest b.queue)) refl k
      first_test false h d y k = built (eqb b.built 0) refl (leb b.set (largest b.queue)) refl k

  -- Demand 3, an empty answer, of any number of inputs, comes only if all inputs together, divided by the set divisor, stay within u
  pub promised_empty : (u : ℕ) → enforce b u ≡ some [] → sum_of xs ws b.set (λ x. true) ≤ u
  promised_empty u e = go (ltb 1 (length xs)) refl (ltb 0 (length xs)) refl
    where
      nothing : (ys : List ℤ) (vs : List ℕ) → length ys ≡ 0 → sum_of ys vs b.set (λ x. true) ≤ u
      nothing [] vs h = omega arith
      nothing (y ∷ ys) vs h = absurd (omega arith)

      go : (t : Bool) → ltb 1 (length xs) ≡ t → (v : Bool) → ltb 0 (length xs) ≡ v → sum_of xs ws b.set (λ x. true) ≤ u
      go true q v r = empty_two (ltb-true 1 (length xs) q) u e
      go false q true r = (alone xs ws first store given (omega (arith, ltb-false 1 (length xs) q, ltb-true 0 (length xs) r)) b reached).empty u e
      go false q false r = nothing xs ws (omega (arith, ltb-false 0 (length xs) r))
