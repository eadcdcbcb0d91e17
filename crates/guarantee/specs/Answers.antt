-- What is known of a build when its answers are read, and the answer of an output and tares.
use Rattle.std.specs.Prelude.{◌≡◌, ◌≢◌, List, ◌∷◌, ℕ, ◌+◌, ◌/◌, ◌^◌, ◌≤◌, length, ℤ, pos, neg_ℤ, nat_abs}
use Rattle.rules.specs.Records.{node_at, outputs}
use Rattle.rules.specs.Totalizer.{Arena}
use Rattle.rules.specs.Enforce.{set_tares}
use Rattle.laws.specs.Lists.Facts.{All}
use Rattle.laws.specs.Records.Places.{place}
use Rattle.laws.specs.WellFormed.Plain.{Sound}
use Rattle.guarantee.specs.Meaning.Truth.{Truths}
use Rattle.guarantee.specs.Meaning.Values.{value}
use Rattle.guarantee.specs.Promise.{sum_of}
use Rattle.guarantee.specs.Meaning.Derived.{every}
use Rattle.guarantee.specs.Meaning.Defining.{Told}
use Rattle.guarantee.specs.Counting.Chains.{tare_sum}
use Rattle.guarantee.specs.Counting.Tares.{Once}

-- what is known of a build: nodes by the rule, clauses that mean its outputs, a root that counts the inputs and tares in units of d
pub record Counting (xs : List ℤ) (ws : List ℕ) (d : ℕ) (s : Arena) (root : ℕ) (tares : List ℕ) : Type 0 where
  pub sound : Sound (node_at s.records) (place s.records)
  pub told : Told every s
  pub root_value : (t : Truths) → value (node_at s.records) t root ≡ (sum_of xs ws d t + tare_sum t tares) / 2 ^ length tares
  pub inputs_apart : All (λ x. All (λ o. nat_abs x ≢ o.number) (outputs s.records) × All (λ u. nat_abs x ≢ u) tares) xs
  pub tares_once : Once tares
  pub tares_low : All (λ u. 1 ≤ u) tares
  pub tares_apart : All (λ u. All (λ o. u ≢ o.number) (outputs s.records)) tares

-- the answer that asks for at most j in units of the root and sets the tares to x: the output's number negated, then the tares
unfoldable pub tared_answer : List ℕ → ℕ → ℕ → List ℤ
tared_answer tares x number = neg_ℤ (pos number) ∷ set_tares tares x
