-- Ask 2: what an answer of one input admits. Nothing is ever built over it, so its answers are read over the divisor that was set.
use Rattle.std.specs.Prelude.{◌≡◌, ◌↔◌, Bool, ◌&&◌, ◌||◌, leb, ltb, length, ℤ, neg_ℤ, nat_abs}
use Rattle.std.proofs.Math.Path.{refl, ap, ap₂, subst}
use Rattle.std.proofs.Common.{sym, ◌∙◌, mul-one, div-one}
use Rattle.std.proofs.Math.Bool.{true, false, cond}
use Rattle.std.proofs.Math.Option.{some}
use mathlib.Core.List.{List, [], ◌∷◌, zip_with}
use Prim.Native.Nat.{ℕ, ◌+◌, ◌*◌, ◌/◌, ◌≤◌, ◌<◌, max}
use native.Mathlib.Omega.{arith}
use Rattle.std.proofs.Math.Nat.{mul-zero}
use Rattle.std.proofs.Math.Dec.{eqb}
use borrow.Author.Tests.{eq-eqb, ne_eqb, eqb-true, leb-true, leb-false, lt-ltb}
use Rattle.rules.specs.Lists.{total, rising}
use Rattle.rules.specs.Numbers.{lawful}
use Rattle.rules.specs.Records.{Entry, node_at, node_of, leaf_node}
use Rattle.rules.specs.Totalizer.{Arena, literal_of}
use Rattle.rules.specs.Build.{Build, largest}
use Rattle.rules.specs.Start.{new_build}
use Rattle.rules.specs.Encode.{encode, encode_outputs, prepared, nothing_asked}
use Rattle.rules.specs.Enforce.{one_answer, enforce}
use Rattle.laws.specs.Lists.Facts.{or_right}
use Rattle.laws.specs.Records.Words.{both}
use Rattle.preserve.specs.Starts.{Lent}
use Rattle.preserve.specs.Sets.{set_to}
use Rattle.guarantee.specs.Meaning.Truth.{Assign, holds, not_both, neg_holds, both as contradict}
use Rattle.guarantee.specs.Meaning.Values.{bit}
use Rattle.guarantee.specs.Promise.{sum_of, Admits}
use Rattle.guarantee.specs.Histories.Worlds.{Leads, here, then_set, then_encode}
use Rattle.guarantee.proofs.Answered.{nothing_some, same_some}
use Rattle.guarantee.specs.Single.{Single, Alone}

pub new_single : (x : ℤ) (w first : ℕ) → Single x w first (new_build (x ∷ []) (w ∷ []) first)
unfolding new_build total rising zip_with
new_single x w first = record { one_input = refl; not_built = refl; sum_is = omega arith; queue_is = refl; arena_is = refl }

-- an encode of one input does nothing
idle : (b : Build) (lo end : ℕ) → b.inputs ≡ 1 → encode b lo end ≡ b
unfolding encode nothing_asked
idle b lo end e = go (leb end lo || ltb b.inputs 2) (or_right (leb end lo) (ltb b.inputs 2) (lt-ltb b.inputs 2 (omega arith)))
  where
    go : (t : Bool) → t ≡ true → (elim t as (λ y. Build) [ true ↦ b | false ↦ encode_outputs (prepared b) lo end ]) ≡ b
    go true q = refl
    go false q = absurd (contradict q refl)

-- calls change nothing but the set divisor
pub single_kept : (x : ℤ) (w first : ℕ) (b c : Build) → Single x w first b → Leads b c → Single x w first c
unfolding set_to
single_kept x w first b c s here = s
single_kept x w first b c s (then_set {c = m} d l e h) =
    let k : Single x w first m = single_kept x w first b m s l in
    record { one_input = k.one_input; not_built = k.not_built; sum_is = k.sum_is; queue_is = k.queue_is; arena_is = k.arena_is }
single_kept x w first b c s (then_encode {c = m} lo end l e h) =
    let k : Single x w first m = single_kept x w first b m s l in
    subst (Single x w first) (sym (idle m lo end k.one_input)) k

module _ (x : ℤ) (w first : ℕ) (lit : 1 ≤ nat_abs x) (b : Build) (s : Single x w first b) (u : ℕ) where
  one_is : one_answer b u ≡ cond (leb (w / b.set) u) [] (neg_ℤ x ∷ [])
  unfolding one_answer largest literal_of node_at node_of new_build leaf_node
  one_is =
      let alone : max w 0 ≡ w = omega arith in
      ap₂ (λ (q : List Entry) (a : Arena). cond (leb (largest q / b.set) u) [] (neg_ℤ (literal_of (node_at a.records 0).kind 0) ∷ [])) s.queue_is s.arena_is ∙
      ap (λ (k : ℕ). cond (leb (k / b.set) u) [] (neg_ℤ x ∷ [])) alone

  enforce_is : enforce b u ≡ cond (leb w u && eqb b.set 1) (some []) (some (cond (leb (w / b.set) u) [] (neg_ℤ x ∷ [])))
  unfolding enforce
  enforce_is =
      rw (ne_eqb b.inputs 0 (λ e. omega (arith, s.one_input)), eq-eqb b.inputs 1 s.one_input) (ap₂ (λ (k : ℕ) (ys : List ℤ). cond (leb k u && eqb b.set 1) (some []) (some ys)) s.sum_is one_is)

  -- an answer that is not empty is the negation, and the weight so divided is above u
  negated : (l : ℤ) (ls : List ℤ) → enforce b u ≡ some (l ∷ ls) → (u < w / b.set) × (l ∷ ls ≡ neg_ℤ x ∷ [])
  negated l ls e = go (leb w u && eqb b.set 1) (leb (w / b.set) u) refl (sym enforce_is ∙ e)
    where
      go : (t v : Bool) → leb (w / b.set) u ≡ v → cond t (some []) (some (cond v [] (neg_ℤ x ∷ []))) ≡ some (l ∷ ls) → (u < w / b.set) × (l ∷ ls ≡ neg_ℤ x ∷ [])
      go true v q k = absurd (nothing_some l ls k)
      go false true q k = absurd (nothing_some l ls k)
      go false false q k = (leb-false (w / b.set) u q, sym (same_some (neg_ℤ x ∷ []) (l ∷ ls) k))

  -- with or without later calls it admits exactly the loads whose weight, divided by the divisor set then, is at most u
  single_admits : (l : ℤ) (ls : List ℤ) → enforce b u ≡ some (l ∷ ls) → (c : Build) → Single x w first c → (α : Assign) →
      Admits (x ∷ []) c.arena.clauses (l ∷ ls) α ↔ (sum_of (x ∷ []) (w ∷ []) b.set (holds α) ≤ u)
  unfolding new_build
  single_admits l ls e c k α =
      let (over, is) = negated l ls e in
      let none : c.arena.clauses ≡ [] = ap (λ (a : Arena). a.clauses) k.arena_is in
      subst (λ (ys : List ℤ). Admits (x ∷ []) c.arena.clauses ys α ↔ (sum_of (x ∷ []) (w ∷ []) b.set (holds α) ≤ u)) (sym is)
      (subst (λ (cs : List (List ℤ)). Admits (x ∷ []) cs (neg_ℤ x ∷ []) α ↔ (sum_of (x ∷ []) (w ∷ []) b.set (holds α) ≤ u)) (sym none)
      (λ a. only (holds α x) (λ t. contradict a.answered.0 (not_both a.all x (a.agrees.0 ∙ t))), λ h. every (holds α x) refl over h))
    where
      only : (t : Bool) → (t ≡ true → ⊥) → w / b.set * bit t + 0 ≤ u
      only true f = absurd (f refl)
      only false f = omega (arith, mul-zero (w / b.set))

      every : (t : Bool) → holds α x ≡ t → u < w / b.set → w / b.set * bit t + 0 ≤ u → Admits (x ∷ []) [] (neg_ℤ x ∷ []) α
      every true q over h = absurd (omega (arith, mul-one (w / b.set)))
      every false q over h = record { all = α; agrees = (refl, tt); satisfies = tt; answered = (neg_holds α x lit q, tt) }

  single_empty : enforce b u ≡ some [] → sum_of (x ∷ []) (w ∷ []) b.set (λ y. true) ≤ u
  single_empty e = go (leb w u) refl (eqb b.set 1) refl (leb (w / b.set) u) refl (sym enforce_is ∙ e)
    where
      divided : w / b.set ≤ u → w / b.set * 1 + 0 ≤ u
      divided h = omega (arith, mul-one (w / b.set))

      go : (t : Bool) → leb w u ≡ t → (d : Bool) → eqb b.set 1 ≡ d → (v : Bool) → leb (w / b.set) u ≡ v → cond (t && d) (some []) (some (cond v [] (neg_ℤ x ∷ []))) ≡ some [] → w / b.set * 1 + 0 ≤ u
      go t p d r true q k = divided (leb-true (w / b.set) u q)
      go true p true r false q k =
          let one : w / b.set ≡ w = ap (λ (n : ℕ). w / n) (eqb-true b.set 1 r) ∙ div-one w in
          divided (omega (arith, one, leb-true w u p))
      go true p false r false q k = absurd (nothing_some (neg_ℤ x) [] (sym k))
      go false p d r false q k = absurd (nothing_some (neg_ℤ x) [] (sym k))

lit_positive : (x : ℤ) → lawful x ≡ true → 1 ≤ nat_abs x
unfolding lawful
lit_positive x h = leb-true 1 (nat_abs x) (both (leb 1 (nat_abs x)) _ h).0

pub alone : (xs : List ℤ) (ws : List ℕ) (first : ℕ) (store : List ℕ) → Lent xs ws first store → length xs ≡ 1 → (b : Build) → Leads (new_build xs ws first) b → Alone xs ws b
alone [] ws first store t one b r = absurd (omega arith)
alone (x ∷ []) [] first store t one b r = absurd (omega (arith, t.lengths))
alone (x ∷ y ∷ xs) ws first store t one b r = absurd (omega arith)
alone (x ∷ []) (v ∷ w ∷ ws) first store t one b r = absurd (omega (arith, t.lengths))
alone (x ∷ []) (w ∷ []) first store t one b r =
    let s : Single x w first b = single_kept x w first (new_build (x ∷ []) (w ∷ []) first) b (new_single x w first) r in
    let lit : 1 ≤ nat_abs x = lit_positive x t.literals.0 in
    record {
      admits = λ u l ls e c k α. single_admits x w first lit b s u l ls e c (single_kept x w first b c s k) α;
      empty = λ u e. single_empty x w first lit b s u e;
      kept = λ c k. (single_kept x w first b c s k).not_built ∙ sym s.not_built;
    }
