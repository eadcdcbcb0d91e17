-- Enforce: the answer, and what the scratch and the refusal word hold afterwards.
use Rattle.std.specs.Prelude.{Bool, true, false, cond, ◌&&◌, List, [], ◌∷◌, ◌++◌, ℕ, zero, suc, ◌-◌, ◌/◌, ◌%◌, leb, ltb, eqb, length, drop, ℤ, pos, neg_ℤ}
use Rattle.std.proofs.Math.Option.{Option, none, some}
use Rattle.rules.specs.declared.State.{State}
use Rattle.rules.specs.Records.{node_at}
use Rattle.rules.specs.Totalizer.{number_of, literal_of}
use Rattle.rules.specs.Build.{Build, build_of, unbuilt, output_weight, root, root_node, largest}
use Rattle.rules.specs.WellFormed.{well_formed}

-- the tares of the set bits of x, highest power first
unfoldable pub set_tares : List ℕ → ℕ → List ℤ
set_tares [] x = []
set_tares (t ∷ ts) x = set_tares ts (x / 2) ++ cond (eqb (x % 2) 1) (pos t ∷ []) []

-- output j+1 undefined: 11, which is `none`; else its negation, then the tares of the set bits of W - 1 - (u mod W)
unfoldable pub output_answer : Build → ℕ → ℕ → Option (List ℤ)
unfolding set_tares output_weight
output_answer b u zero = none
output_answer b u (suc number) =
    some (neg_ℤ (pos (suc number)) ∷ set_tares b.tares (output_weight b - 1 - u % output_weight b))

-- j = u/W: j at least the root maximum: empty
unfoldable pub root_answer : Build → ℕ → Option (List ℤ)
unfolding output_weight root_node output_answer number_of root
root_answer b u =
    let j : ℕ = u / output_weight b in
    cond (leb (root_node b).maximum j) (some []) (output_answer b u (number_of b.arena.records (root b) (suc j)))

-- not built: 11; a waiting weight at least the set divisor: 11; u is divided by built over set divisor
unfoldable pub built_answer : Build → ℕ → Option (List ℤ)
unfolding unbuilt largest root_answer
built_answer b u = cond (unbuilt b) none (cond (leb b.set (largest b.queue)) none (root_answer b (u / (b.built / b.set))))

-- one input, by Ask 2: empty exactly if its weight, the only one that waits, divided by the set divisor, rounded down, is at most u, else its negation
unfoldable pub one_answer : Build → ℕ → List ℤ
unfolding largest literal_of node_at
one_answer b u = cond (leb (largest b.queue / b.set) u) [] (neg_ℤ (literal_of (node_at b.arena.records 0).kind 0) ∷ [])

-- weight sum at most u and set divisor 1: empty; no inputs: empty; one input; else by the build
unfoldable pub enforce : Build → ℕ → Option (List ℤ)
unfolding one_answer built_answer
enforce b u =
    cond (leb b.sum u && eqb b.set 1) (some [])
    (cond (eqb b.inputs 0) (some [])
    (cond (eqb b.inputs 1) (some (one_answer b u))
    (built_answer b u)))

-- what enforce answers, and what the scratch and the refusal word hold afterwards
pub record EnforceEnd : Type 0 where
  pub answer : List ℤ
  pub scratch : List ℤ
  pub refusal : ℕ

-- a refusal: the part is empty, the number stands in the lent word, the scratch is untouched
unfoldable pub refused_end : ℕ → List ℤ → EnforceEnd
refused_end n scratch = record { answer = []; scratch = scratch; refusal = n }

-- 7: enforce, if the scratch is shorter than the answer
unfoldable pub scratch_short : List ℤ → List ℤ → Bool
scratch_short scratch answer = ltb (length scratch) (length answer)

-- 11: not encoded; refusal 7 comes last; the answer is the front part of the scratch, the rest of it is untouched
unfoldable pub enforce_end : Option (List ℤ) → List ℤ → EnforceEnd
unfolding refused_end scratch_short
enforce_end none scratch = refused_end 11 scratch
enforce_end (some answer) scratch =
    elim (scratch_short scratch answer) [
      | true ↦ refused_end 7 scratch
      | false ↦ record { answer = answer; scratch = answer ++ drop (length answer) scratch; refusal = 0 }
    ]

-- enforce_ub
unfoldable pub enforce_ub : State → List ℕ → List ℤ → List ℤ → ℕ → EnforceEnd
unfolding well_formed enforce_end enforce build_of refused_end
enforce_ub s store clauses scratch u =
    elim (well_formed s store clauses) [ true ↦ enforce_end (enforce (build_of s store) u) scratch | false ↦ refused_end 12 scratch ]
