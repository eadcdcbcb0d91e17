-- Small builds beside document 01's own cases: whole stores, clause lists and answers, computed over the public calls.
use Rattle.std.specs.Prelude.{◌≡◌, refl, [], ◌∷◌, map, length, pos}
use Rattle.rules.specs.Build.{clause_words}
use Rattle.rules.specs.Blackboard.{Lent, started, begun, set_to, encoded, enforced, used, counts, tares, neg, p3_build, p6_refined}

-- P3, the store, whole: leaves 1, 2, 3; weight 3 takes leaf 3, which waits with 1; weight 2 takes leaf 2; weight 1 merges leaves 1 and 3
p3_store : p3_build.store ≡
    1 ∷ 2 ∷ 0 ∷ 0 ∷ 1 ∷ 0 ∷ 0 ∷ 0 ∷
    1 ∷ 4 ∷ 0 ∷ 0 ∷ 1 ∷ 0 ∷ 0 ∷ 0 ∷
    1 ∷ 6 ∷ 0 ∷ 0 ∷ 1 ∷ 0 ∷ 0 ∷ 0 ∷
    2 ∷ 0 ∷ 2 ∷ 0 ∷ 2 ∷ 1 ∷ 0 ∷ 0 ∷
    1 ∷ 8 ∷ 0 ∷ 0 ∷ 1 ∷ 0 ∷ 0 ∷ 0 ∷
    2 ∷ 4 ∷ 3 ∷ 0 ∷ 3 ∷ 2 ∷ 0 ∷ 0 ∷
    2 ∷ 2 ∷ 1 ∷ 0 ∷ 2 ∷ 1 ∷ 0 ∷ 0 ∷
    2 ∷ 6 ∷ 5 ∷ 1 ∷ 3 ∷ 3 ∷ 0 ∷ 0 ∷
    4 ∷ 6 ∷ 1 ∷ 10 ∷ 0 ∷ 0 ∷ 0 ∷ 0 ∷
    4 ∷ 3 ∷ 2 ∷ 12 ∷ 0 ∷ 0 ∷ 0 ∷ 0 ∷
    4 ∷ 3 ∷ 1 ∷ 14 ∷ 0 ∷ 0 ∷ 0 ∷ 0 ∷
    4 ∷ 5 ∷ 2 ∷ 16 ∷ 0 ∷ 0 ∷ 0 ∷ 0 ∷
    4 ∷ 6 ∷ 2 ∷ 18 ∷ 0 ∷ 0 ∷ 0 ∷ 0 ∷
    4 ∷ 7 ∷ 2 ∷ 20 ∷ 0 ∷ 0 ∷ 0 ∷ 0 ∷ []
unfolding p3_build
p3_store = refl

-- P6 refined: the first two clauses stood there; the last but two is the old output's further clause, over the bucket's new carry
p6_clauses : used p6_refined ≡ clause_words (
    (neg 2 ∷ neg 1 ∷ pos 3 ∷ []) ∷
    (neg 3 ∷ pos 4 ∷ []) ∷
    (neg 1 ∷ pos 8 ∷ []) ∷
    (neg 2 ∷ pos 8 ∷ []) ∷
    (neg 7 ∷ pos 9 ∷ []) ∷
    (neg 2 ∷ pos 9 ∷ []) ∷
    (neg 6 ∷ pos 10 ∷ []) ∷
    (neg 2 ∷ pos 10 ∷ []) ∷
    (neg 1 ∷ neg 2 ∷ pos 11 ∷ []) ∷
    (neg 2 ∷ pos 12 ∷ []) ∷
    (neg 1 ∷ pos 12 ∷ []) ∷
    (neg 11 ∷ pos 13 ∷ []) ∷
    (neg 5 ∷ neg 12 ∷ pos 13 ∷ []) ∷
    (neg 2 ∷ neg 6 ∷ pos 14 ∷ []) ∷
    (neg 10 ∷ neg 13 ∷ pos 15 ∷ []) ∷
    (neg 14 ∷ pos 15 ∷ []) ∷
    (neg 2 ∷ neg 7 ∷ pos 16 ∷ []) ∷
    (neg 9 ∷ neg 15 ∷ pos 17 ∷ []) ∷
    (neg 16 ∷ pos 17 ∷ []) ∷
    (neg 8 ∷ neg 17 ∷ pos 4 ∷ []) ∷
    (neg 17 ∷ pos 18 ∷ []) ∷
    (neg 8 ∷ pos 18 ∷ []) ∷ [])
unfolding p6_refined used neg clause_words
p6_clauses = refl

p6_counts : counts p6_refined ≡ 27 ∷ 22 ∷ 74 ∷ 16 ∷ []
unfolding p6_refined counts
p6_counts = refl

-- an empty middle bucket keeps its tare: weights 1, 4 have tares 3 and 4
middle_build : Lent
unfolding begun encoded
middle_build = encoded (begun (pos 1 ∷ pos 2 ∷ []) (1 ∷ 4 ∷ []) 3 400 100) 0 5

middle : used middle_build ≡ clause_words (
    (neg 1 ∷ neg 3 ∷ pos 5 ∷ []) ∷
    (neg 4 ∷ neg 5 ∷ pos 6 ∷ []) ∷
    (neg 6 ∷ pos 7 ∷ []) ∷
    (neg 2 ∷ pos 7 ∷ []) ∷
    (neg 2 ∷ neg 6 ∷ pos 8 ∷ []) ∷ [])
unfolding middle_build used neg clause_words
middle = refl

-- refinement with tares between: 64 and 3 at 32, then at 1; powers 0 and 1 are the new segment, 2, 3, 4 between, 5 the tare once left out
between_build : Lent
unfolding started set_to encoded
between_build = encoded (set_to (encoded (set_to (started (pos 1 ∷ pos 2 ∷ []) (64 ∷ 3 ∷ []) 3 400 100) 32) 0 4) 1) 0 1

between_tares : tares between_build ≡ 5 ∷ 6 ∷ 7 ∷ 8 ∷ 9 ∷ 3 ∷ []
unfolding between_build tares
between_tares = refl

between : used between_build ≡ clause_words (
    (neg 1 ∷ pos 4 ∷ []) ∷
    (neg 6 ∷ pos 10 ∷ []) ∷
    (neg 2 ∷ pos 10 ∷ []) ∷
    (neg 2 ∷ neg 5 ∷ pos 11 ∷ []) ∷
    (neg 2 ∷ neg 6 ∷ pos 12 ∷ []) ∷
    (neg 10 ∷ neg 11 ∷ pos 13 ∷ []) ∷
    (neg 12 ∷ pos 13 ∷ []) ∷
    (neg 7 ∷ neg 13 ∷ pos 14 ∷ []) ∷
    (neg 8 ∷ neg 14 ∷ pos 15 ∷ []) ∷
    (neg 9 ∷ neg 15 ∷ pos 16 ∷ []) ∷
    (neg 3 ∷ neg 16 ∷ pos 17 ∷ []) ∷
    (neg 17 ∷ pos 4 ∷ []) ∷ [])
unfolding between_build used neg clause_words
between = refl

between_counts : counts between_build ≡ 26 ∷ 12 ∷ 43 ∷ 15 ∷ []
unfolding between_build counts
between_counts = refl

-- x and -x both inputs
both_build : Lent
unfolding begun encoded
both_build = encoded (begun (pos 1 ∷ neg 1 ∷ []) (3 ∷ 2 ∷ []) 2 400 100) 0 5

both : used both_build ≡ clause_words (
    (neg 1 ∷ neg 2 ∷ pos 3 ∷ []) ∷
    (pos 1 ∷ pos 4 ∷ []) ∷
    (neg 1 ∷ pos 4 ∷ []) ∷
    (neg 3 ∷ pos 5 ∷ []) ∷
    (neg 4 ∷ pos 5 ∷ []) ∷
    (neg 1 ∷ pos 1 ∷ pos 6 ∷ []) ∷
    (neg 4 ∷ neg 3 ∷ pos 7 ∷ []) ∷
    (neg 6 ∷ pos 7 ∷ []) ∷
    (neg 6 ∷ neg 3 ∷ pos 8 ∷ []) ∷ [])
unfolding both_build neg used clause_words
both = refl

-- set below built: the bound is divided by built over set divisor. Weights 8, 12 built at 4, then set 1: u = 11 is asked as 2, u = 12 as 3
finer_build : Lent
unfolding started set_to encoded
finer_build = set_to (encoded (set_to (started (pos 1 ∷ pos 2 ∷ []) (8 ∷ 12 ∷ []) 3 400 100) 4) 0 5) 1

finer : map (enforced finer_build) (11 ∷ 12 ∷ 20 ∷ []) ≡ (0, neg 8 ∷ pos 3 ∷ []) ∷ (0, neg 8 ∷ []) ∷ (0, []) ∷ []
unfolding finer_build enforced neg
finer = refl

-- the arrays full: weights 1,048,575 and 1 have 19 tares and 20 buckets, and the longest answer is 20 literals
full_build : Lent
unfolding begun encoded
full_build = encoded (begun (pos 1 ∷ pos 2 ∷ []) (1048575 ∷ 1 ∷ []) 3 1600 400) 0 1

full : full_build.state.tares_used ∷ full_build.state.buckets_used ∷ length (enforced full_build 0).1 ∷ [] ≡ 19 ∷ 20 ∷ 20 ∷ []
unfolding full_build enforced
full = refl

-- equal weights keep the order in which they came: weights 1, 1
equal_build : Lent
unfolding begun encoded
equal_build = encoded (begun (pos 1 ∷ pos 2 ∷ []) (1 ∷ 1 ∷ []) 3 400 100) 0 2

equal : used equal_build ≡ clause_words (
    (neg 2 ∷ pos 3 ∷ []) ∷
    (neg 1 ∷ pos 3 ∷ []) ∷
    (neg 1 ∷ neg 2 ∷ pos 4 ∷ []) ∷ [])
unfolding equal_build used neg clause_words
equal = refl
