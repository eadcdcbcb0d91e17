-- What nodes that were appended, or buckets that were brought up to date, leave of values, claims and clauses.
use Rattle.std.specs.Prelude.{◌≡◌, ◌≢◌, Bool, true, List, [], ℤ, nat_abs}
use Rattle.std.proofs.Math.Path.{refl, ap, ap₂}
use Rattle.std.proofs.Common.{sym, ◌∙◌, subst, append-nil, arith}
use Prim.Native.Nat.{ℕ, zero, suc, ◌+◌, ◌≤◌, ◌<◌}
use Rattle.rules.specs.Records.{Kind, leaf, join, dummy, Node, Output, node_at, outputs}
use Rattle.rules.specs.Totalizer.{Arena, counts}
use Rattle.laws.specs.Lists.Facts.{All, All_map, All_zip}
use Rattle.laws.specs.Records.Places.{place}
use Rattle.laws.specs.WellFormed.Plain.{Sound, Rise}
use Rattle.guarantee.specs.Meaning.Truth.{Truths, Member, member_all, all_members}
use Rattle.guarantee.specs.Meaning.Values.{value_of, value_by, value}
use Rattle.guarantee.specs.Meaning.Derived.{Derived, every, CompleteAt, Claim}
use Rattle.guarantee.specs.Meaning.Growing.{Onto, derived_onto, complete_onto, claim_onto}
use Rattle.guarantee.specs.Meaning.Defining.{Told}

-- nodes that stay, with all that they link, keep their values
module _ (at at' : ℕ → Node) (Stays : ℕ → Type 0) (same : (n : ℕ) → Stays n → at' n ≡ at n)
    (links : (n : ℕ) (half : Bool) (l r : ℕ) → Stays n → (at n).kind ≡ join half l r → Stays l × Stays r) (t : Truths) where
  stay_kind : (k : ℕ) → ((m : ℕ) → Stays m → value_by at' t k m ≡ value_by at t k m) → (n : ℕ) → Stays n → (kd : Kind) → (at n).kind ≡ kd →
      value_of (value_by at' t k) t kd ≡ value_of (value_by at t k) t kd
  unfolding value_of
  stay_kind k ih n g (leaf x) e = refl
  stay_kind k ih n g (join half l r) e = let (gl, gr) = links n half l r g e in ap₂ (λ x y. x + counts half y) (ih l gl) (ih r gr)
  stay_kind k ih n g dummy e = refl

  stay_by : (k n : ℕ) → Stays n → value_by at' t k n ≡ value_by at t k n
  unfolding value_by
  stay_by zero n g = refl
  stay_by (suc k) n g =
      ap (λ (nd : Node). value_of (value_by at' t k) t nd.kind) (same n g) ∙ stay_kind k (stay_by k) n g (at n).kind refl

  pub value_stays : (n : ℕ) → Stays n → value at' t n ≡ value at t n
  unfolding value
  value_stays n g = ap (λ (nd : Node). value_by at' t (suc nd.height) n) (same n g) ∙ stay_by (suc (at n).height) n g

-- more nodes, and fresh numbers taken: new leaves' variables are no output's number
pub told_more : (s s' : Arena) → Sound (node_at s.records) (place s.records) → ((n : ℕ) → place s.records n ≡ true → node_at s'.records n ≡ node_at s.records n) →
    outputs s'.records ≡ outputs s.records → s'.clauses ≡ s.clauses → s.fresh ≤ s'.fresh →
    ((n : ℕ) (x : ℤ) → (node_at s'.records n).kind ≡ leaf x → (nat_abs x < s'.fresh) × All (λ o. nat_abs x ≢ o.number) (outputs s.records)) →
    Told every s → Told every s'
told_more s s' sound kept same-outputs same-clauses more leaves told = record {
  means = record {
    claims = over (Claim s'.records)
        (All_zip (λ o m k. claim_onto s.records s'.records sound g o (λ n x e. member_of o m n x e) k) (outputs s.records) (all_members (outputs s.records)) told.means.claims);
    rise = subst (Rise 1) (sym same-outputs) told.means.rise;
    complete = over (CompleteAt every s'.records s'.clauses)
        (All_zip (λ o k c. subst (λ (cs : List (List ℤ)). CompleteAt every s'.records cs o) (append-nil s.clauses ∙ sym same-clauses)
        (complete_onto s.records s'.records sound g every s.clauses [] o k c)) (outputs s.records) told.means.claims told.means.complete);
    derived = subst (All (Derived s'.records)) (sym same-clauses) (All_map (derived_onto s.records s'.records sound g) s.clauses told.means.derived);
  };
  numbers_low = over (λ o. o.number < s'.fresh) (All_map (λ o h. omega arith) (outputs s.records) told.numbers_low);
  leaves_low = λ n x e. (leaves n x e).0;
  fresh_positive = omega (arith, told.fresh_positive);
}
  where
    g : Onto s.records s'.records
    g = record { nodes_kept = kept; more = []; outputs_are = same-outputs ∙ sym (append-nil (outputs s.records)) }

    over : (P : Output → Type 0) → All P (outputs s.records) → All P (outputs s'.records)
    over P a = subst (All P) (sym same-outputs) a

    member_of : (o : Output) → Member o (outputs s.records) → (n : ℕ) (x : ℤ) → (node_at s'.records n).kind ≡ leaf x → nat_abs x ≢ o.number
    member_of o m n x e = member_all (λ p. nat_abs x ≢ p.number) o (outputs s.records) m (leaves n x e).1
