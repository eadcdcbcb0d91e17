-- The three ways of an encode: the first build, a refinement, what stands.
use mathlib.Core.Path.{◌≡◌, refl, sym, ap, ap₂, ◌∙◌}
use mathlib.Core.Logic.{◌≢◌}
use mathlib.Core.Bool.{Bool, true, false, not, ◌&&◌, true≢false}
use mathlib.Core.List.{List}
use Prim.Native.Nat.{ℕ}
use lib.IntN.{ℤ}
use borrow.Author.Tests.{eq-eqb, leb-false, lt-ltb}
use Rattle.rules.specs.declared.State.{State}
use Rattle.rules.specs.Records.{Record, entries}
use Rattle.rules.specs.Build.{Build, held, build_of, build_over, unbuilt, largest}
use Rattle.rules.specs.Buckets.{build_structure}
use Rattle.rules.specs.Refinement.{due, merge_structures}
use Rattle.rules.specs.Encode.{prepared, encode_outputs, nothing_asked, encode, divisor_above}
use Rattle.laws.specs.WellFormed.Plain.{WellFormed}
use Rattle.records.specs.Carries.{Stores}
use Rattle.records_waiting.proofs.Whole.{readable}
use Rattle.encode_case.specs.Case.{reaches}

-- what an encode prepares, by whether nothing stands yet and whether a refinement is due
way : (b : Build) (t u : Bool) → unbuilt b ≡ t → due b ≡ u →
    prepared b ≡ elim t [ true ↦ build_structure b | false ↦ elim u [ true ↦ merge_structures b | false ↦ b ] ]
unfolding prepared
way b t u e d = ap₂ (λ (x y : Bool). elim x [ true ↦ build_structure b | false ↦ elim y [ true ↦ merge_structures b | false ↦ b ] ]) e d

pub first_way : (b : Build) → unbuilt b ≡ true → prepared b ≡ build_structure b
first_way b e = way b true (due b) e refl

pub refined_way : (b : Build) → unbuilt b ≡ false → reaches b ≡ true → prepared b ≡ merge_structures b
unfolding due reaches
refined_way b e r = way b false true e (ap₂ (λ (x y : Bool). not x && y) e r)

-- nothing is due where no weight reaches the divisor; a build that is not refused then stands
module _ (b : Build) (d : divisor_above b ≡ false) (low : reaches b ≡ false) where
  pub stands_built : unbuilt b ≡ false
  unfolding divisor_above reaches
  stands_built = go (unbuilt b) refl
    where
      go : (t : Bool) → unbuilt b ≡ t → unbuilt b ≡ false
      go true e = absurd (true≢false (sym (ap₂ (λ (x y : Bool). x && y) e (lt-ltb (largest b.queue) b.set (leb-false b.set (largest b.queue) low))) ∙ d))
      go false e = e

  pub stands : prepared b ≡ b
  unfolding due reaches
  stands = way b false false stands_built (ap₂ (λ (x y : Bool). not x && y) stands_built low)

-- what stands is built
pub built_is : (s : State) (store : List ℕ) → unbuilt (build_of s store) ≡ false → s.built ≢ 0
unfolding unbuilt build_of build_over
built_is s store e z = true≢false (sym (eq-eqb s.built 0 z) ∙ e)

-- where something is asked, an encode is what it prepares with the outputs of the range
pub encode_way : (b p : Build) (lo end : ℕ) → nothing_asked b lo end ≡ false → prepared b ≡ p → encode b lo end ≡ encode_outputs p lo end
unfolding encode
encode_way b p lo end a e =
    ap (λ (t : Bool). elim t [ true ↦ b | false ↦ encode_outputs (prepared b) lo end ]) a ∙ ap (λ (x : Build). encode_outputs x lo end) e

-- the largest waiting weight by the words
pub largest_by : (s : State) (store : List ℕ) (clauses : List ℤ) → WellFormed s store clauses → (r : ℕ) → ((rs : List Record) → Stores store s.records rs → r ≡ largest (entries rs)) →
    r ≡ largest (build_of s store).queue
unfolding build_of build_over
largest_by s store clauses w r h = h (held s store) (readable s store clauses w).stores
