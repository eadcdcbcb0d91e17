-- The promise of an answer at document 01's worked cases and at those of document 02's asks, computed over words, so its hypotheses can be met.
use Rattle.std.specs.Prelude.{◌≡◌, refl, ◌↔◌, true, List, [], ◌∷◌, map, ℕ, ◌*◌, ◌≤◌, replicate, ℤ, pos, negsuc}
use Rattle.std.proofs.Common.{lit≤}
use Rattle.rules.specs.Build.{build_of, output_weight}
use Rattle.rules.specs.Combined.{combined_literals, combined_weights}
use Rattle.rules.specs.Start.{start_refusal}
use Rattle.rules.specs.Enforce.{enforce_ub}
use Rattle.guarantee.specs.Meaning.Truth.{Assign, holds}
use Rattle.guarantee.specs.Promise.{sum_of, Admits}
use Rattle.guarantee.specs.Standing.{stands, weight_of}
use Rattle.guarantee.specs.Calls.{Memory, started, set_call, encode_call, lend_anew, Run, none_yet, next_set, next_encode, next_lend, clauses_in}
use Rattle.guarantee.proofs.Demand3Words.{demand3_words, demand3_exactly, demand3_one}
use Rattle.guarantee.proofs.Admitted.{answer_promise}

-- lent words, with 9s in them
abbrev store : ℕ → List ℕ
store records = replicate (8 * records) 9

abbrev signed : ℕ → List ℤ
signed words = replicate words (pos 9)

abbrev work : List ℕ
work = replicate 16384 9

-- P3: literals 1, 2, 3 with weights 1, 2, 3, first fresh 4, range 2 to 4
abbrev xs : List ℤ
xs = pos 1 ∷ pos 2 ∷ pos 3 ∷ []

abbrev ws : List ℕ
ws = 1 ∷ 2 ∷ 3 ∷ []

-- P3: divisor 1 set, range 2 to 4
abbrev p3 : Memory
p3 = encode_call (set_call (started xs ws 4 (store 14) (signed 34)) 1) work 2 4

-- each input weighs its weight, 3 by two buckets
p3_weights : map (weight_of (build_of p3.state p3.store)) xs ≡ ws
unfolding started set_call encode_call stands build_of output_weight
p3_weights = refl

-- P4: the answer for u = 2, -10 and 4, admits exactly the sums up to 2
p4_two : (α : Assign) → Admits xs (clauses_in p3) (negsuc 9 ∷ pos 4 ∷ []) α ↔ (sum_of xs ws 1 (holds α) ≤ 2)
unfolding started set_call encode_call enforce_ub start_refusal combined_literals combined_weights
p4_two α =
    demand3_exactly xs ws 4 (store 14) (signed 34) refl p3 (next_encode work 2 4 (next_set 1 none_yet)) (signed 2) 2 (negsuc 9) (pos 4 ∷ []) refl refl p3 none_yet refl α

-- and the one for u = 6 is empty, since all together weigh 6
p4_six : sum_of xs ws 1 (λ x. true) ≤ 6
unfolding started set_call encode_call enforce_ub start_refusal combined_literals combined_weights
p4_six = answer_promise xs ws 4 (store 14) (signed 34) refl p3 (next_encode work 2 4 (next_set 1 none_yet)) (signed 2) 6 refl

-- P6: weights 9, 15 at divisor 8, output 2 encoded; the used words are lent again in longer slices and refined to 1
abbrev ys : List ℤ
ys = pos 1 ∷ pos 2 ∷ []

abbrev vs : List ℕ
vs = 9 ∷ 15 ∷ []

abbrev p6 : Memory
p6 = encode_call (set_call (started ys vs 3 (store 10) (signed 20)) 8) work 1 2

abbrev p6_refined : Memory
p6_refined = encode_call (set_call (lend_anew p6 (store 30) (signed 100)) 1) work 0 1

-- the earlier answer for u = 1, -4, after refinement to 1, admits exactly the sums up to 15
p6_earlier : (α : Assign) → Admits ys (clauses_in p6_refined) (negsuc 3 ∷ []) α ↔ (sum_of ys vs 1 (holds α) ≤ 15)
unfolding started set_call encode_call lend_anew enforce_ub start_refusal combined_literals combined_weights
p6_earlier α =
    demand3_words ys vs 3 (store 10) (signed 20) refl p6 (next_encode work 1 2 (next_set 8 none_yet)) (lit≤ tt) (signed 20) 1 (negsuc 3) [] refl refl
    p6_refined (next_encode work 0 1 (next_set 1 (next_lend (store 30) (signed 100) none_yet))) α

-- Ask 13: weights 8, 16, 24 and 3 built at 8, range 2 to 3, then set to 4, which 3 does not reach
abbrev zs : List ℤ
zs = pos 1 ∷ pos 2 ∷ pos 3 ∷ pos 4 ∷ []

abbrev us : List ℕ
us = 8 ∷ 16 ∷ 24 ∷ 3 ∷ []

abbrev coarse : Memory
coarse = set_call (encode_call (set_call (started zs us 5 (store 40) (signed 100)) 8) work 2 3) 4

coarse_run : Run (started zs us 5 (store 40) (signed 100)) coarse
coarse_run = next_set 4 (next_encode work 2 3 (next_set 8 none_yet))

abbrev refined : Memory
refined = encode_call (set_call coarse 1) work 0 1

-- u = 5 is asked as 2, answered -12 and 5, and admits exactly the loads whose sum at 4 is at most 5
finer_five : (α : Assign) → Admits zs (clauses_in coarse) (negsuc 11 ∷ pos 5 ∷ []) α ↔ (sum_of zs us 4 (holds α) ≤ 5)
unfolding started set_call encode_call enforce_ub start_refusal combined_literals combined_weights
finer_five α = (answer_promise zs us 5 (store 40) (signed 100) refl coarse coarse_run (signed 20) 5 refl coarse none_yet).unrefined refl α

-- after refinement to 1 that same answer admits exactly the sums up to 23, which is 8 (2 + 1) - 1
finer_refined : (α : Assign) → Admits zs (clauses_in refined) (negsuc 11 ∷ pos 5 ∷ []) α ↔ (sum_of zs us 1 (holds α) ≤ 23)
unfolding started set_call encode_call enforce_ub start_refusal combined_literals combined_weights
finer_refined α =
    ((answer_promise zs us 5 (store 40) (signed 100) refl coarse coarse_run (signed 20) 5 refl refined (next_encode work 0 1 (next_set 1 none_yet))).two_inputs (lit≤ tt)).admits α

-- u = 12 is empty: all together, divided by 4, come to 12
finer_twelve : sum_of zs us 4 (λ x. true) ≤ 12
unfolding started set_call encode_call enforce_ub start_refusal combined_literals combined_weights
finer_twelve = answer_promise zs us 5 (store 40) (signed 100) refl coarse coarse_run (signed 20) 12 refl

-- Ask 4: lines 1:1, 1:1 and 2:2 at divisor 2 are inputs of 2 and 2; the answer for u = 0, -3, admits neither, though each line of literal 1 is
-- 0 when it is divided by itself
abbrev lines : List ℤ
lines = pos 1 ∷ pos 1 ∷ pos 2 ∷ []

abbrev line_weights : List ℕ
line_weights = 1 ∷ 1 ∷ 2 ∷ []

abbrev twice : Memory
twice = encode_call (set_call (started lines line_weights 3 (store 10) (signed 20)) 2) work 0 1

twice_none : (α : Assign) → Admits ys (clauses_in twice) (negsuc 2 ∷ []) α ↔ (sum_of ys (2 ∷ 2 ∷ []) 2 (holds α) ≤ 0)
unfolding started set_call encode_call enforce_ub start_refusal combined_literals combined_weights
twice_none α =
    demand3_exactly lines line_weights 3 (store 10) (signed 20) refl twice (next_encode work 0 1 (next_set 2 none_yet)) (signed 20) 0 (negsuc 2) [] refl refl
    twice none_yet refl α

-- Ask 2: one input of weight 5 at divisor 4; the answer for u = 0 is its negation and admits, also once the divisor is 1, the load without it alone
abbrev five : Memory
five = set_call (started (pos 7 ∷ []) (5 ∷ []) 8 (store 2) []) 4

heavy_none : (α : Assign) → Admits (pos 7 ∷ []) (clauses_in (set_call five 1)) (negsuc 6 ∷ []) α ↔ (sum_of (pos 7 ∷ []) (5 ∷ []) 4 (holds α) ≤ 0)
unfolding started set_call enforce_ub start_refusal combined_literals combined_weights
heavy_none α =
    demand3_one (pos 7 ∷ []) (5 ∷ []) 8 (store 2) [] refl five (next_set 4 none_yet) refl (signed 1) 0 (negsuc 6) [] refl (set_call five 1) (next_set 1 none_yet) α

-- and the one for u = 1 is empty, since 5/4 is 1
heavy_empty : sum_of (pos 7 ∷ []) (5 ∷ []) 4 (λ x. true) ≤ 1
unfolding started set_call enforce_ub start_refusal combined_literals combined_weights
heavy_empty = answer_promise (pos 7 ∷ []) (5 ∷ []) 8 (store 2) [] refl five (next_set 4 none_yet) (signed 1) 1 refl
