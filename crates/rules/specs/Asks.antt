-- Cases of document 02's asks, computed over the public calls: what each changed, and what it left.
use Rattle.std.specs.Prelude.{◌≡◌, refl, List, [], ◌∷◌, ◌++◌, map, ℕ, ◌*◌, replicate, ℤ, pos, Ok, Err}
use Rattle.rules.specs.declared.Refusal.TheVariants.{WeightUnlawful}
use Rattle.rules.specs.Refusals.{answer_number, answer_value}
use Rattle.rules.specs.Combined.{combined_literals, combined_weights}
use Rattle.rules.specs.Start.{checked, list_of}
use Rattle.rules.specs.Precision.{next_precision}
use Rattle.rules.specs.Blackboard.{Lent, starting, started, set_to, encoding, encoded, enforced, weight_and_maximum, neg}

-- Ask 4: the list that lines are combined to
listed : List ℤ → List ℕ → List ℤ × List ℕ
unfolding combined_literals combined_weights
listed lits weights = (combined_literals lits, combined_weights lits weights)

-- first places kept in order, weights added
twice : listed (pos 1 ∷ pos 2 ∷ pos 1 ∷ []) (1 ∷ 2 ∷ 2 ∷ []) ≡ (pos 1 ∷ pos 2 ∷ [], 3 ∷ 2 ∷ [])
unfolding listed
twice = refl

-- x and its negation stay two
negated : listed (pos 1 ∷ neg 1 ∷ pos 1 ∷ []) (1 ∷ 2 ∷ 4 ∷ []) ≡ (pos 1 ∷ neg 1 ∷ [], 5 ∷ 2 ∷ [])
unfolding listed neg
negated = refl

-- what the check hands back: the combined list, and none where a weight is refused
handed_back : checked (neg 3 ∷ pos 2 ∷ neg 3 ∷ []) (1 ∷ 2 ∷ 2 ∷ []) ≡ Ok (list_of (neg 3 ∷ pos 2 ∷ []) (3 ∷ 2 ∷ []))
unfolding checked neg
handed_back = refl

handed_nothing : checked (pos 3 ∷ pos 3 ∷ []) (1048575 ∷ 1 ∷ []) ≡ Err WeightUnlawful
unfolding checked
handed_nothing = refl

-- a start's refusal, in a store of some records
refusal_in : ℕ → List ℤ → List ℕ → ℕ → ℕ
unfolding starting answer_number
refusal_in records lits weights first = answer_number (starting lits weights first (8 * records) 0).answer.answer

-- 256 lines of one literal need two records, 257 are refused by 1; one record too few is refused by 7
lines_as_sent : map (λ n. refusal_in 2 (replicate n (pos 1)) (replicate n 1) 2) (256 ∷ 257 ∷ []) ≡ 0 ∷ 1 ∷ []
unfolding refusal_in
lines_as_sent = refl

combined_room : map (λ n. refusal_in n (pos 1 ∷ pos 2 ∷ pos 1 ∷ []) (1 ∷ 2 ∷ 2 ∷ []) 3) (4 ∷ 3 ∷ []) ≡ 0 ∷ 7 ∷ []
unfolding refusal_in
combined_room = refl

-- a combined weight of 1,048,575 and one above it; a line of weight 0 beside a good one; no sum is wrapped; 2 before 4, 4 before 5
combined_refusals :
    refusal_in 2 (pos 1 ∷ pos 1 ∷ []) (1048574 ∷ 1 ∷ []) 2 ∷
    refusal_in 2 (pos 1 ∷ pos 1 ∷ []) (1048575 ∷ 1 ∷ []) 2 ∷
    refusal_in 2 (pos 1 ∷ pos 1 ∷ []) (0 ∷ 1 ∷ []) 2 ∷
    refusal_in 2 (pos 1 ∷ pos 1 ∷ []) (9223372036854775808 ∷ 9223372036854775808 ∷ []) 2 ∷
    refusal_in 2 (pos 0 ∷ pos 1 ∷ pos 1 ∷ []) (1 ∷ 1048575 ∷ 1 ∷ []) 2 ∷
    refusal_in 2 (pos 1 ∷ pos 1 ∷ []) (1048575 ∷ 1 ∷ []) 1 ∷
    refusal_in 2 (pos 1 ∷ pos 1 ∷ []) (1 ∷ 1 ∷ []) 1 ∷ [] ≡
    0 ∷ 4 ∷ 4 ∷ 4 ∷ 2 ∷ 4 ∷ 5 ∷ []
unfolding refusal_in
combined_refusals = refl

-- a start from lines is the start from their combined list, every word
start_combined : starting (pos 1 ∷ pos 2 ∷ pos 1 ∷ []) (1 ∷ 2 ∷ 2 ∷ []) 3 40 2 ≡ starting (pos 1 ∷ pos 2 ∷ []) (3 ∷ 2 ∷ []) 3 40 2
unfolding starting
start_combined = refl

-- weights are divided when they are combined: 1 and 1 of one literal, 2 of another, at divisor 2, are two of 1 each
divided_combined : enforced (encoded (set_to (started (pos 1 ∷ pos 1 ∷ pos 2 ∷ []) (1 ∷ 1 ∷ 2 ∷ []) 3 80 20) 2) 0 1) 0 ≡ (0, neg 3 ∷ [])
unfolding enforced encoded set_to started neg
divided_combined = refl

-- Ask 2: one input of weight 5 and literal 7 at a divisor
one_at : ℕ → ℕ → ℕ × List ℤ
unfolding enforced set_to started
one_at divisor u = enforced (set_to (started (pos 7 ∷ []) (5 ∷ []) 8 16 0) divisor) u

-- divisor 8: u = 1 and 0 are empty; divisor 4: u = 0 is the negation and u = 1 empty; divisor 1 as it was; two lines of one literal are one input
heavy : map (one_at 8) (1 ∷ 0 ∷ []) ++ (map (one_at 4) (0 ∷ 1 ∷ []) ++ map (one_at 1) (4 ∷ 5 ∷ [])) ≡
    (0, []) ∷ (0, []) ∷ (0, neg 7 ∷ []) ∷ (0, []) ∷ (0, neg 7 ∷ []) ∷ (0, []) ∷ []
unfolding one_at neg
heavy = refl

heavy_lines : map (enforced (set_to (started (pos 7 ∷ pos 7 ∷ []) (3 ∷ 2 ∷ []) 8 16 0) 4)) (0 ∷ 1 ∷ []) ≡ (0, neg 7 ∷ []) ∷ (0, []) ∷ []
unfolding enforced set_to started neg
heavy_lines = refl

-- Ask 7: the divisor that a start leaves, and what next_precision answers then
first_divisor : List ℤ → List ℕ → ℕ × ℕ
unfolding started next_precision answer_value
first_divisor lits weights =
    let a : Lent = started lits weights 9 160 0 in
    (a.state.set, answer_value 0 (next_precision a.state a.store a.clauses))

-- the top power of the largest weight, which is combined; 1 when there are no inputs
first_divisors :
    first_divisor (pos 1 ∷ pos 2 ∷ pos 3 ∷ []) (1 ∷ 2 ∷ 3 ∷ []) ∷
    first_divisor (pos 1 ∷ pos 2 ∷ []) (8 ∷ 15 ∷ []) ∷
    first_divisor (pos 1 ∷ pos 1 ∷ []) (3 ∷ 3 ∷ []) ∷
    first_divisor (pos 1 ∷ []) (1048575 ∷ []) ∷
    first_divisor (pos 1 ∷ []) (1 ∷ []) ∷
    first_divisor [] [] ∷ [] ≡
    (2, 2) ∷ (8, 8) ∷ (4, 4) ∷ (524288, 524288) ∷ (1, 1) ∷ (1, 1) ∷ []
unfolding first_divisor
first_divisors = refl

-- a first build at that divisor has one bucket and no tare: W is 1; it is never refused by 10, which comes once a divisor above was set
coarse_first : weight_and_maximum (encoded (started (pos 1 ∷ pos 2 ∷ []) (9 ∷ 15 ∷ []) 3 160 20) 0 1) ≡ (1, 2)
unfolding weight_and_maximum encoded started
coarse_first = refl

ten_after_a_set : map (λ (a : Lent). answer_number (encoding a 0 1).answer.answer)
    (started (pos 1 ∷ pos 2 ∷ []) (3 ∷ 3 ∷ []) 3 160 20 ∷ set_to (started (pos 1 ∷ pos 2 ∷ []) (3 ∷ 3 ∷ []) 3 160 20) 4 ∷ []) ≡ 0 ∷ 10 ∷ []
unfolding encoding started set_to answer_number
ten_after_a_set = refl
