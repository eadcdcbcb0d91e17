-- An answer has at most 20 literals: the negation of an output, and the tares.
use mathlib.Core.Path.{◌≡◌, refl}
use mathlib.Core.Bool.{Bool, true, false, cond, ◌&&◌}
use mathlib.Core.Option.{Option, none, some}
use mathlib.Core.List.{List, [], ◌∷◌, ◌++◌}
use Prim.Native.Nat.{ℕ, zero, suc, ◌-◌, ◌/◌, ◌%◌, ◌≤◌}
use native.Mathlib.Omega.{arith}
use lib.Dec.{leb, eqb}
use lib.IntN.{ℤ, pos, neg_ℤ}
use lib.ListN.{length, drop, length-append}
use Rattle.rules.specs.declared.State.{State}
use Rattle.rules.specs.Records.{node_at}
use Rattle.rules.specs.Totalizer.{number_of, literal_of}
use Rattle.rules.specs.Build.{Build, build_of, unbuilt, output_weight, root, root_node, largest}
use Rattle.rules.specs.WellFormed.{well_formed}
use Rattle.rules.specs.Enforce.{EnforceEnd, set_tares, output_answer, root_answer, built_answer, one_answer, enforce, refused_end, scratch_short, enforce_end, enforce_ub}
use Rattle.laws.specs.WellFormed.Whole.{well_formed_facts}
use Rattle.laws.specs.WellFormed.ToClauses.{tares_within_19}

abbrev Few : Option (List ℤ) → Type 0
Few none = Unit {0}
Few (some a) = length a ≤ 20

tares_few : (ts : List ℕ) (x : ℕ) → length (set_tares ts x) ≤ length ts
unfolding set_tares
tares_few [] x = omega arith
tares_few (t ∷ ts) x =
    let more : length (cond (eqb (x % 2) 1) (pos t ∷ []) []) ≤ 1 = go (eqb (x % 2) 1) in
    omega (arith, tares_few ts (x / 2), length-append (set_tares ts (x / 2)) (cond (eqb (x % 2) 1) (pos t ∷ []) []))
  where
    go : (b : Bool) → length (cond b (pos t ∷ []) []) ≤ 1
    go true = omega arith
    go false = omega arith

picked : (b : Bool) (x y : Option (List ℤ)) → Few x → Few y → Few (cond b x y)
picked true x y p q = p
picked false x y p q = q

module _ (b : Build) (few : length b.tares ≤ 19) where
  output_few : (u n : ℕ) → Few (output_answer b u n)
  unfolding output_answer
  output_few u zero = tt
  output_few u (suc n) = omega (arith, few, tares_few b.tares (output_weight b - 1 - u % output_weight b))

  root_few : (u : ℕ) → Few (root_answer b u)
  unfolding root_answer
  root_few u =
      picked (leb (root_node b).maximum (u / output_weight b)) (some []) (output_answer b u (number_of b.arena.records (root b) (suc (u / output_weight b)))) (omega arith)
      (output_few u (number_of b.arena.records (root b) (suc (u / output_weight b))))

  built_few : (u : ℕ) → Few (built_answer b u)
  unfolding built_answer
  built_few u =
      picked (unbuilt b) none (cond (leb b.set (largest b.queue)) none (root_answer b (u / (b.built / b.set)))) tt
      (picked (leb b.set (largest b.queue)) none (root_answer b (u / (b.built / b.set))) tt (root_few (u / (b.built / b.set))))

  one_few : (u : ℕ) → length (one_answer b u) ≤ 20
  unfolding one_answer
  one_few u = go (leb (largest b.queue / b.set) u) (neg_ℤ (literal_of (node_at b.arena.records 0).kind 0))
    where
      go : (t : Bool) (x : ℤ) → length (cond t [] (x ∷ [])) ≤ 20
      go true x = omega arith
      go false x = omega arith

  pub enforce_few : (u : ℕ) → Few (enforce b u)
  unfolding enforce
  enforce_few u =
      picked (leb b.sum u && eqb b.set 1) (some []) (cond (eqb b.inputs 0) (some []) (cond (eqb b.inputs 1) (some (one_answer b u)) (built_answer b u))) (omega arith)
      (picked (eqb b.inputs 0) (some []) (cond (eqb b.inputs 1) (some (one_answer b u)) (built_answer b u)) (omega arith)
      (picked (eqb b.inputs 1) (some (one_answer b u)) (built_answer b u) (one_few u) (built_few u)))

abbrev Short : EnforceEnd → Type 0
Short e = length e.answer ≤ 20

refused_short : (n : ℕ) (c : List ℤ) → Short (refused_end n c)
unfolding refused_end
refused_short n c = omega arith

end_few : (o : Option (List ℤ)) (c : List ℤ) → Few o → Short (enforce_end o c)
unfolding enforce_end
end_few none c h = refused_short 11 c
end_few (some a) c h = go (scratch_short c a)
  where
    go : (b : Bool) → Short (elim b [ true ↦ refused_end 7 c | false ↦ record { answer = a; scratch = a ++ drop (length a) c; refusal = 0 } ])
    go true = refused_short 7 c
    go false = h

-- of any state and any words lent
pub answer_within_20 : (s : State) (store : List ℕ) (clauses scratch : List ℤ) (u : ℕ) → length (enforce_ub s store clauses scratch u).answer ≤ 20
unfolding enforce_ub
answer_within_20 s store clauses scratch u = go (well_formed s store clauses) refl
  where
    go : (b : Bool) → well_formed s store clauses ≡ b →
        Short (elim b [ true ↦ enforce_end (enforce (build_of s store) u) scratch | false ↦ refused_end 12 scratch ])
    go true e =
        end_few (enforce (build_of s store) u) scratch
        (enforce_few (build_of s store) (tares_within_19 (build_of s store) (well_formed_facts s store clauses e).formed) u)
    go false e = refused_short 12 scratch
