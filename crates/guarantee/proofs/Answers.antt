-- What an answer of an output and tares admits, over any build whose clauses mean what its outputs say and whose root counts the inputs.
use Rattle.std.specs.Prelude.{◌≡◌, ◌≢◌, ◌↔◌, Bool, true, false, List, [], ◌∷◌, ℕ, suc, ◌+◌, ◌*◌, ◌/◌, ◌^◌, ◌≤◌, ◌<◌, leb, length, ℤ, pos, neg_ℤ, nat_abs}
use Rattle.std.proofs.Math.Path.{refl}
use Rattle.std.proofs.Common.{ap₂, ◌∙◌, subst, arith, div-lt_iff_lt-mul, pow_pos}
use borrow.Author.Tests.{leb-true, leb-false, lt-leb}
use Rattle.rules.specs.Records.{Record, node_at, outputs}
use Rattle.rules.specs.Totalizer.{Arena, number_of, literal_of}
use Rattle.rules.specs.Enforce.{set_tares}
use Rattle.laws.specs.Lists.Facts.{All, All_map}
use Rattle.laws.specs.Records.Places.{place}
use Rattle.guarantee.specs.Meaning.Truth.{Assign, Truths, holds, Held, both, not_both, neg_holds, holds_agree}
use Rattle.guarantee.specs.Meaning.Values.{bit, value}
use Rattle.guarantee.specs.Promise.{sum_of, Admits}
use Rattle.guarantee.specs.Meaning.Derived.{literal, Claimed, every, Claim, found, output_holds, meant, meant_apart, meant_at, meant_sat}
use Rattle.guarantee.specs.Counting.Chains.{tare_sum}
use Rattle.guarantee.specs.Counting.Tares.{tares_least, tares_exact, tared, tared_apart, tared_bits, bits_same}
use Rattle.guarantee.specs.Answers.{Counting, tared_answer}

pub sum_agree : (d : ℕ) (t u : Truths) (xs : List ℤ) (ws : List ℕ) → All (λ x. t x ≡ u x) xs → sum_of xs ws d t ≡ sum_of xs ws d u
sum_agree d t u [] ws a = refl
sum_agree d t u (x ∷ xs) [] a = refl
sum_agree d t u (x ∷ xs) (w ∷ ws) a = ap₂ (λ y z. w / d * bit y + z) a.0 (sum_agree d t u xs ws a.1)

-- a bound on the root is one on the sum
pub bound_law : (s j k : ℕ) → (s / 2 ^ k ≤ j) ↔ (s < suc j * 2 ^ k)
bound_law s j k = (λ h. (div-lt_iff_lt-mul (pow_pos k)).0 (omega arith), λ h. omega (arith, (div-lt_iff_lt-mul {x = s} {y = suc j} (pow_pos k)).1 h))

module _ (xs : List ℤ) (ws : List ℕ) (d : ℕ) (s : Arena) (root : ℕ) (tares : List ℕ) (c : Counting xs ws d s root tares)
    (j x number : ℕ) (defined : number_of s.records root (suc j) ≡ number) (some : 1 ≤ number) (fits : x < 2 ^ length tares) where
  rs : List Record
  rs = s.records

  -- the root has an output, so it is a join
  claim : Claim rs (record { node = root; value = suc j; number = number_of rs root (suc j) })
  unfolding rs number_of
  claim = found (Claim rs) (outputs rs) root (suc j) c.told.means.claims (omega arith)

  claimed : Claimed rs root (suc j)
  unfolding rs
  claimed = rw claim.kind_is (omega arith)

  literal_is : literal rs root (suc j) ≡ pos number
  unfolding literal literal_of rs
  literal_is = rw (claim.kind_is, defined) refl

  answer : List ℤ
  answer = tared_answer tares x number

  -- an assignment that the clauses and the answer allow keeps the bound
  admits_only : (α : Assign) → Admits xs s.clauses answer α → sum_of xs ws d (holds α) + x < suc j * 2 ^ length tares
  unfolding answer tared_answer rs
  admits_only α a = go (leb (suc j) (value (node_at rs) (holds a.all) root)) refl
    where
      sums : sum_of xs ws d (holds a.all) ≡ sum_of xs ws d (holds α)
      sums = sum_agree d (holds a.all) (holds α) xs ws a.agrees

      least : x ≤ tare_sum (holds a.all) tares
      least = tares_least a.all tares x fits a.answered.1

      go : (b : Bool) → leb (suc j) (value (node_at rs) (holds a.all) root) ≡ b → sum_of xs ws d (holds α) + x < suc j * 2 ^ length tares
      go true e =
          let true_out : holds a.all (pos number) ≡ true =
          subst (λ (l : ℤ). holds a.all l ≡ true) literal_is
          (output_holds rs (place rs) c.sound s.clauses c.told.means a.all a.satisfies root (suc j) (omega arith) (leb-true _ _ e) claimed) in
          absurd (both a.answered.0 (not_both a.all (pos number) true_out))
      go false e =
          let low : value (node_at rs) (holds a.all) root ≤ j = omega (arith, leb-false (suc j) (value (node_at rs) (holds a.all) root) e) in
          let bounded : sum_of xs ws d (holds a.all) + tare_sum (holds a.all) tares < suc j * 2 ^ length tares =
          (bound_law (sum_of xs ws d (holds a.all) + tare_sum (holds a.all) tares) j (length tares)).0 (rw (c.root_value (holds a.all)) at low) in
          omega (arith, sums, least)

  -- and every input assignment within it is allowed
  admits_all : (α : Assign) → sum_of xs ws d (holds α) + x < suc j * 2 ^ length tares → Admits xs s.clauses answer α
  unfolding answer tared_answer rs number_of
  admits_all α h = record {
    all = ρ;
    agrees = agrees;
    satisfies = meant_sat rs (place rs) c.sound s.clauses every c.told.means α';
    answered = (neg_holds ρ (pos number) some (output_false ∙ lt-leb (suc j) (value (node_at rs) (holds ρ) root) (omega (arith, within))), exact.1);
  }
    where
      α' : Assign
      α' = tared tares x α

      ρ : Assign
      ρ = meant rs (place rs) c.sound s.clauses every c.told.means α'

      keeps : (y : ℕ) → All (λ o. y ≢ o.number) (outputs rs) → ρ y ≡ α' y
      keeps y a = meant_apart rs (place rs) c.sound s.clauses every c.told.means α' y a

      agrees : All (λ y. holds ρ y ≡ holds α y) xs
      agrees = All_map (λ y a. holds_agree ρ α y (keeps (nat_abs y) a.0 ∙ tared_apart tares x α (nat_abs y) a.1)) xs c.inputs_apart

      exact : (tare_sum (holds ρ) tares ≡ x) × Held ρ (set_tares tares x)
      exact = tares_exact ρ tares x fits (bits_same ρ α' tares x (All_map (λ u a. keeps u a) tares c.tares_apart) c.tares_low (tared_bits tares x α c.tares_once c.tares_low))

      sums : sum_of xs ws d (holds ρ) ≡ sum_of xs ws d (holds α)
      sums = sum_agree d (holds ρ) (holds α) xs ws agrees

      within : value (node_at rs) (holds ρ) root ≤ j
      within = rw (c.root_value (holds ρ)) ((bound_law (sum_of xs ws d (holds ρ) + tare_sum (holds ρ) tares) j (length tares)).1 (rw (sums, exact.0) h))

      output_false : holds ρ (pos number) ≡ leb (suc j) (value (node_at rs) (holds ρ) root)
      output_false =
          subst (λ (n : ℕ). holds ρ (pos n) ≡ leb (suc j) (value (node_at rs) (holds ρ) root)) defined
          (found (λ o. holds ρ (pos o.number) ≡ leb o.value (value (node_at rs) (holds ρ) o.node)) (outputs rs) root (suc j)
          (meant_at rs (place rs) c.sound s.clauses every c.told.means α') (omega arith))

  pub admits : (α : Assign) → Admits xs s.clauses (neg_ℤ (pos number) ∷ set_tares tares x) α ↔ (sum_of xs ws d (holds α) + x < suc j * 2 ^ length tares)
  unfolding answer tared_answer
  admits α = (admits_only α, admits_all α)
