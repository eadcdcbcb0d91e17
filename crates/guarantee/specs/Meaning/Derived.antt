-- What clauses mean that are derived and complete, in any order and with repeats, whoever wrote them: each claimed output is true where its
-- node's value reaches it, and giving each output that meaning satisfies them.
use Rattle.std.specs.Prelude.{◌≡◌, ◌≢◌, Bool, true, false, cond, ◌&&◌, List, [], ◌∷◌, ◌++◌, eqb, ℤ, pos, nat_abs}
use Rattle.std.proofs.Math.Path.{refl, ap, ap₂}
use Rattle.std.proofs.Common.{sym, ◌∙◌, leb-true, leb-false, le-leb, eqb-true, eq-eqb, ne_eqb}
use Prim.Native.Nat.{ℕ, zero, suc, ◌+◌, ◌-◌, ◌≤◌, ◌<◌, min, max}
use native.Mathlib.Omega.{arith}
use Rattle.std.proofs.Math.Dec.{leb}
use Rattle.rules.specs.Numbers.{lawful}
use Rattle.rules.specs.Records.{Kind, leaf, join, dummy, Node, Output, Record, node_at, outputs}
use Rattle.rules.specs.Totalizer.{counts, asks, number_in, number_of, literal_of, side, clause}
use Rattle.laws.specs.Lists.Facts.{All, All_map, All_zip}
use Rattle.laws.specs.Numbers.Halving.{counts_asks, asks_counts, counts_mono}
use Rattle.laws.specs.WellFormed.Plain.{Sound, Rise}
use Rattle.guarantee.specs.Meaning.Truth.{Assign, holds, sat, Sat, Member, member_all, both, not_both, neg_holds, pos_holds, holds_agree, or_left, or_drop, sat_right, sat_one}
use Rattle.guarantee.specs.Meaning.Values.{bit, value, value_leaf, value_join, value_most, value_agree}

-- output v of node n as a literal
unfoldable pub literal : List Record → ℕ → ℕ → ℤ
unfolding literal_of node_at number_of
literal rs n v = literal_of (node_at rs n).kind (number_of rs n v)

-- the output is claimed: a leaf's always is, a join's where it has a number
abbrev pub ClaimedKind : Kind → ℕ → Type 0
ClaimedKind (leaf x) number = Unit {0}
ClaimedKind (join half l r) number = 1 ≤ number
ClaimedKind dummy number = ⊥

abbrev pub Claimed : List Record → ℕ → ℕ → Type 0
Claimed rs n v = ClaimedKind (node_at rs n).kind (number_of rs n v)

-- the sides of a pair are claimed, but for one that is 0
abbrev pub Sides : List Record → Bool → ℕ → ℕ → ℕ × ℕ → Type 0
Sides rs half l r p = (1 ≤ p.0 → Claimed rs l p.0) × (1 ≤ asks half p.1 → Claimed rs r (asks half p.1))

-- a + b = v within the two maxima
abbrev pub Pair : List Record → Bool → ℕ → ℕ → ℕ → ℕ × ℕ → Type 0
Pair rs half l r v p = (p.0 ≤ (node_at rs l).maximum) × (p.1 ≤ counts half (node_at rs r).maximum) × (p.0 + p.1 ≡ v)

-- derived: the clause is one that the totalizer rule gives for a claimed output
pub record Derived (rs : List Record) (c : List ℤ) : Type 0 where
  pub o : Output
  pub half : Bool
  pub l : ℕ
  pub r : ℕ
  pub p : ℕ × ℕ
  pub claimed : Member o (outputs rs)
  pub kind_is : (node_at rs o.node).kind ≡ join half l r
  pub pair : Pair rs half l r o.value p
  pub sides : Sides rs half l r p
  pub is : c ≡ clause rs half l r o.number p

-- which clauses are asked: of an output, those of pairs (a, b) with this b
abbrev pub Asked : Type 1
Asked = Output → ℕ → Type 0

-- all are
abbrev pub every : Asked
every o b = Unit {0}

-- complete at an output: every asked clause that the rule asks for it is there, and its sides are claimed
abbrev pub CompleteAt : Asked → List Record → List (List ℤ) → Output → Type 0
CompleteAt asked rs cs o =
    (half : Bool) (l r : ℕ) (p : ℕ × ℕ) → (node_at rs o.node).kind ≡ join half l r → Pair rs half l r o.value p → asked o p.1 →
    Sides rs half l r p × Member (clause rs half l r o.number p) cs

-- a claimed output is of a join, and its number is no leaf's variable
pub record Claim (rs : List Record) (o : Output) : Type 0 where
  pub half : Bool
  pub l : ℕ
  pub r : ℕ
  pub kind_is : (node_at rs o.node).kind ≡ join half l r
  pub positive : 1 ≤ o.value
  pub apart : (n : ℕ) (x : ℤ) → (node_at rs n).kind ≡ leaf x → nat_abs x ≢ o.number

-- clauses that mean what the outputs among the records say
pub record Means (asked : Asked) (rs : List Record) (cs : List (List ℤ)) : Type 0 where
  pub claims : All (Claim rs) (outputs rs)
  pub rise : Rise 1 (outputs rs)
  pub complete : All (CompleteAt asked rs cs) (outputs rs)
  pub derived : All (Derived rs) cs

-- a fact of every output, at the output that is found
pub found : (P : Output → Type 0) (os : List Output) (n v : ℕ) → All P os → 1 ≤ number_in os n v → P (record { node = n; value = v; number = number_in os n v })
unfolding number_in
found P [] n v a h = absurd (omega arith)
found P (o ∷ os) n v a h = go (eqb o.node n) refl (eqb o.value v) refl h (found P os n v a.1)
  where
    go : (x : Bool) → eqb o.node n ≡ x → (y : Bool) → eqb o.value v ≡ y → 1 ≤ cond (x && y) o.number (number_in os n v) →
        (1 ≤ number_in os n v → P (record { node = n; value = v; number = number_in os n v })) →
        P (record { node = n; value = v; number = cond (x && y) o.number (number_in os n v) })
    go true p true q h ih = rw (← eqb-true o.node n p, ← eqb-true o.value v q) a.0
    go true p false q h ih = ih h
    go false p y q h ih = ih h

-- a side that holds leaves the rest of the clause to hold
side_drop : (ρ : Assign) (rs : List Record) (n v : ℕ) (rest : List ℤ) → (1 ≤ v → holds ρ (literal rs n v) ≡ true) → sat ρ (side rs n v ++ rest) ≡ true → sat ρ rest ≡ true
unfolding side literal
side_drop ρ rs n zero rest k h = h
side_drop ρ rs n (suc v) rest k h = or_drop h (not_both ρ (literal rs n (suc v)) (k (omega arith)))

bit_true : (b : Bool) → 1 ≤ bit b → b ≡ true
bit_true true p = refl
bit_true false p = absurd (omega arith)

module _ (rs : List Record) (place : ℕ → Bool) (nodes : Sound (node_at rs) place) (cs : List (List ℤ)) (means : Means every rs cs) (ρ : Assign) (holding : Sat ρ cs) where
  abbrev Reaches : ℕ → Type 0
  Reaches k = (n v : ℕ) → (node_at rs n).height < k → 1 ≤ v → v ≤ value (node_at rs) (holds ρ) n → Claimed rs n v → holds ρ (literal rs n v) ≡ true

  reaches_join : (k : ℕ) → Reaches k → (n v : ℕ) (half : Bool) (l r : ℕ) → (node_at rs n).height ≤ k → 1 ≤ v → v ≤ value (node_at rs) (holds ρ) n →
      (node_at rs n).kind ≡ join half l r → 1 ≤ number_of rs n v → holds ρ (pos (number_of rs n v)) ≡ true
  unfolding clause number_of
  reaches_join k ih n v half l r p j m e f =
      let at : ℕ → Node = node_at rs in
      let h : (at n).height ≡ suc (max (at l).height (at r).height) = (nodes n).height_is half l r e in
      let is : value at (holds ρ) n ≡ value at (holds ρ) l + counts half (value at (holds ρ) r) = value_join at place nodes (holds ρ) n half l r e in
      let ml : value at (holds ρ) l ≤ (at l).maximum = value_most at place nodes (holds ρ) l in
      let mr : counts half (value at (holds ρ) r) ≤ counts half (at r).maximum = counts_mono half (value at (holds ρ) r) (at r).maximum (value_most at place nodes (holds ρ) r) in
      let a : ℕ = min v (value at (holds ρ) l) in
      let b : ℕ = v - a in
      let bs : b ≤ counts half (value at (holds ρ) r) = omega arith in
      let x : ℕ = number_of rs n v in
      let there = found (CompleteAt every rs cs) (outputs rs) n v means.complete f half l r (a, b) e (omega arith, omega arith, omega arith) tt in
      sat_one ρ (pos x)
      (side_drop ρ rs r (asks half b) (pos x ∷ [])
      (λ z. ih r (asks half b) (omega arith) z (counts_asks half b (value at (holds ρ) r) bs) (there.0.1 z))
      (side_drop ρ rs l a (side rs r (asks half b) ++ (pos x ∷ []))
      (λ z. ih l a (omega arith) z (omega arith) (there.0.0 z))
      (member_all (λ c. sat ρ c ≡ true) (clause rs half l r x (a, b)) cs there.1 holding)))

  reaches_kind : (k : ℕ) → Reaches k → (n v : ℕ) → (node_at rs n).height ≤ k → 1 ≤ v → v ≤ value (node_at rs) (holds ρ) n →
      (kd : Kind) → (node_at rs n).kind ≡ kd → ClaimedKind kd (number_of rs n v) → holds ρ (literal_of kd (number_of rs n v)) ≡ true
  unfolding literal_of
  reaches_kind k ih n v p j m (leaf x) e f = bit_true (holds ρ x) (omega (arith, value_leaf (node_at rs) place nodes (holds ρ) n x e))
  reaches_kind k ih n v p j m (join half l r) e f = reaches_join k ih n v half l r p j m e f
  reaches_kind k ih n v p j m dummy e f = absurd f

  reaches : (k : ℕ) → Reaches k
  unfolding literal
  reaches zero n v p j m f = absurd (omega arith)
  reaches (suc k) n v p j m f = reaches_kind k (reaches k) n v (omega arith) j m (node_at rs n).kind refl f

  -- a claimed output is true whenever its node's value reaches it
  pub output_holds : (n v : ℕ) → 1 ≤ v → v ≤ value (node_at rs) (holds ρ) n → Claimed rs n v → holds ρ (literal rs n v) ≡ true
  output_holds n v j m f = reaches (suc (node_at rs n).height) n v (omega arith) j m f

-- the assignment with each output's variable given a truth of its own
unfoldable pub given : (Output → Bool) → Assign → List Output → Assign
given f α [] x = α x
given f α (o ∷ os) x = cond (eqb x o.number) (f o) (given f α os x)

-- a variable that is no output's keeps its truth
pub given_apart : (f : Output → Bool) (α : Assign) (os : List Output) (x : ℕ) → All (λ o. x ≢ o.number) os → given f α os x ≡ α x
unfolding given
given_apart f α [] x a = refl
given_apart f α (o ∷ os) x a = rw (ne_eqb x o.number a.0) (given_apart f α os x a.1)

pub rise_high : (low : ℕ) (os : List Output) → Rise low os → All (λ o. low ≤ o.number) os
rise_high low [] r = tt
rise_high low (o ∷ os) r = (r.0, All_map (λ x p. omega (arith, r.0)) os (rise_high (suc o.number) os r.1))

given_at : (f : Output → Bool) (α : Assign) (low : ℕ) (os : List Output) → Rise low os → All (λ o. given f α os o.number ≡ f o) os
unfolding given
given_at f α low [] r = tt
given_at f α low (o ∷ os) r = (
  rw (eq-eqb o.number o.number refl),
  All_zip (λ x p e. rw (ne_eqb x.number o.number (λ z. omega arith)) e) os
      (rise_high (suc o.number) os r.1) (given_at f α (suc o.number) os r.1),
)

-- a literal says that node n's value is at least v
abbrev Says : Assign → List Record → ℕ → ℕ → Type 0
Says ρ rs n v = (1 ≤ nat_abs (literal rs n v)) × (holds ρ (literal rs n v) ≡ leb v (value (node_at rs) (holds ρ) n))

-- a side that does not hold makes its clause hold
side_false : (ρ : Assign) (rs : List Record) (n v : ℕ) (rest : List ℤ) → (1 ≤ v → Says ρ rs n v) → leb v (value (node_at rs) (holds ρ) n) ≡ false → sat ρ (side rs n v ++ rest) ≡ true
unfolding side literal
side_false ρ rs n zero rest s h = absurd (omega (arith, leb-false 0 (value (node_at rs) (holds ρ) n) h))
side_false ρ rs n (suc v) rest s h =
    let k : Says ρ rs n (suc v) = s (omega arith) in
    or_left (sat ρ rest) (neg_holds ρ (literal rs n (suc v)) k.0 (k.1 ∙ h))

pair_sat : (ρ : Assign) (rs : List Record) (half : Bool) (l r number v a b : ℕ) →
    (1 ≤ a → Says ρ rs l a) → (1 ≤ asks half b → Says ρ rs r (asks half b)) →
    holds ρ (pos number) ≡ leb v (value (node_at rs) (holds ρ) l + counts half (value (node_at rs) (holds ρ) r)) → a + b ≡ v →
    sat ρ (clause rs half l r number (a, b)) ≡ true
unfolding clause
pair_sat ρ rs half l r number v a b sl sr so e = go (leb a (value at (holds ρ) l)) refl (leb (asks half b) (value at (holds ρ) r)) refl
  where
    at : ℕ → Node
    at = node_at rs

    right : List ℤ
    right = side rs r (asks half b) ++ (pos number ∷ [])

    go : (x : Bool) → leb a (value at (holds ρ) l) ≡ x → (y : Bool) → leb (asks half b) (value at (holds ρ) r) ≡ y → sat ρ (clause rs half l r number (a, b)) ≡ true
    go false p y q = side_false ρ rs l a right sl p
    go true p false q = sat_right ρ (side rs l a) right (side_false ρ rs r (asks half b) (pos number ∷ []) sr q)
    go true p true q =
        sat_right ρ (side rs l a) right
        (sat_right ρ (side rs r (asks half b)) (pos number ∷ [])
        (or_left false (so ∙ le-leb v (value at (holds ρ) l + counts half (value at (holds ρ) r))
        (omega (arith, leb-true a (value at (holds ρ) l) p, asks_counts half b (value at (holds ρ) r) (leb-true (asks half b) (value at (holds ρ) r) q))))))

pub lawful_positive : (x : ℤ) → lawful x ≡ true → 1 ≤ nat_abs x
unfolding lawful
lawful_positive x h = go (leb 1 (nat_abs x)) refl h
  where
    go : (b : Bool) → leb 1 (nat_abs x) ≡ b → (b && leb (nat_abs x) 1000000000) ≡ true → 1 ≤ nat_abs x
    go true q h = leb-true 1 (nat_abs x) q
    go false q h = absurd (both h refl)

leaf_says : (b : Bool) → b ≡ leb 1 (bit b)
leaf_says true = refl
leaf_says false = refl

module _ (rs : List Record) (place : ℕ → Bool) (nodes : Sound (node_at rs) place) (cs : List (List ℤ)) (asked : Asked) (means : Means asked rs cs) (α : Assign) where
  -- each output set to "value at least v"
  unfoldable pub meant : Assign
  meant = given (λ o. leb o.value (value (node_at rs) (holds α) o.node)) α (outputs rs)

  -- a variable that is no output's keeps its truth
  pub meant_apart : (x : ℕ) → All (λ o. x ≢ o.number) (outputs rs) → meant x ≡ α x
  unfolding meant
  meant_apart x a = given_apart (λ o. leb o.value (value (node_at rs) (holds α) o.node)) α (outputs rs) x a

  -- so the values stay
  pub meant_value : (n : ℕ) → value (node_at rs) (holds meant) n ≡ value (node_at rs) (holds α) n
  meant_value n =
      value_agree (node_at rs) (holds meant) (holds α)
      (λ m x e. holds_agree meant α x (meant_apart (nat_abs x) (All_map (λ o c. c.apart m x e) (outputs rs) means.claims))) n

  -- each output says that its node's value is at least its own
  pub meant_at : All (λ o. holds meant (pos o.number) ≡ leb o.value (value (node_at rs) (holds meant) o.node)) (outputs rs)
  unfolding meant
  meant_at =
      All_zip (λ o low e. pos_holds meant o.number low ∙ (e ∙ ap (leb o.value) (sym (meant_value o.node)))) (outputs rs)
      (rise_high 1 (outputs rs) means.rise)
      (given_at (λ o. leb o.value (value (node_at rs) (holds α) o.node)) α 1 (outputs rs) means.rise)

  says_kind : (n v : ℕ) → v ≤ (node_at rs n).maximum → 1 ≤ v → (kd : Kind) → (node_at rs n).kind ≡ kd → ClaimedKind kd (number_of rs n v) →
      (1 ≤ nat_abs (literal_of kd (number_of rs n v))) × (holds meant (literal_of kd (number_of rs n v)) ≡ leb v (value (node_at rs) (holds meant) n))
  unfolding literal_of number_of
  says_kind n v m j (leaf x) e f =
      let one : (node_at rs n).maximum ≡ 1 = ((nodes n).leaf_is x e).1 in
      let is : v ≡ 1 = omega arith in
      (lawful_positive x ((nodes n).leaf_is x e).0, leaf_says (holds meant x) ∙ ap₂ leb (sym is) (sym (value_leaf (node_at rs) place nodes (holds meant) n x e)))
  says_kind n v m j (join half l r) e f =
      (f, found (λ o. holds meant (pos o.number) ≡ leb o.value (value (node_at rs) (holds meant) o.node)) (outputs rs) n v meant_at f)
  says_kind n v m j dummy e f = absurd f

  -- a claimed output says what it means
  pub output_says : (n v : ℕ) → 1 ≤ v → v ≤ (node_at rs n).maximum → Claimed rs n v → Says meant rs n v
  unfolding literal
  output_says n v j m f = says_kind n v m j (node_at rs n).kind refl f

  derived_sat : (c : List ℤ) → Derived rs c → sat meant c ≡ true
  derived_sat c d =
      let at : ℕ → Node = node_at rs in
      let o : Output = d.o in
      let p : ℕ × ℕ = d.p in
      ap (sat meant) d.is ∙
      pair_sat meant rs d.half d.l d.r o.number o.value p.0 p.1
      (λ z. output_says d.l p.0 z d.pair.0 (d.sides.0 z))
      (λ z. output_says d.r (asks d.half p.1) z (counts_asks d.half p.1 (at d.r).maximum d.pair.1) (d.sides.1 z))
      (member_all (λ o. holds meant (pos o.number) ≡ leb o.value (value at (holds meant) o.node)) o (outputs rs) d.claimed meant_at ∙
      ap (leb o.value) (value_join at place nodes (holds meant) o.node d.half d.l d.r d.kind_is))
      d.pair.2

  -- the clauses hold where each output means what it says
  pub meant_sat : Sat meant cs
  meant_sat = All_map derived_sat cs means.derived
