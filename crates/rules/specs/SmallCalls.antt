-- Small calls beside document 01's own cases: refusals in their order, and what each lent word holds afterwards, computed over the public calls.
use Rattle.std.specs.Prelude.{◌≡◌, refl, List, [], ◌∷◌, ◌++◌, map, ℕ, ◌*◌, get_or, take, drop, replicate, ℤ, pos}
use Rattle.rules.specs.Lists.{rising}
use Rattle.rules.specs.Refusals.{answer_number}
use Rattle.rules.specs.Encode.{EncodeEnd, encode_ub_change}
use Rattle.rules.specs.Enforce.{EnforceEnd, enforce_ub}
use Rattle.rules.specs.Blackboard.{Lent, starting, started, begun, setting, set_to, encoding, enforced, neg, p3_start, p3_build, p3_short, p9_build}

-- P3 with 33 words: all words past the old marks are 0, the others as they were, and the state came back
p3_unchanged : p3_short.store ≡ (p3_start 33).store
unfolding p3_short p3_start
p3_unchanged = refl

p3_zeroed : p3_short.clauses ≡ replicate 33 (pos 0)
unfolding p3_short
p3_zeroed = refl

p3_state : p3_short.answer.state ≡ (p3_start 33).state
unfolding p3_short p3_start
p3_state = refl

-- P9 again: what was set, finer ones and 0 are accepted
p9_more : map (λ d. answer_number (setting p9_build d).answer) (4 ∷ 2 ∷ 0 ∷ []) ≡ 0 ∷ 0 ∷ 0 ∷ []
unfolding p9_build setting answer_number
p9_more = refl

-- the refusal, and what is set afterwards
p9_set : ℕ → ℕ × ℕ
unfolding p9_build setting answer_number
p9_set d = (answer_number (setting p9_build d).answer, (setting p9_build d).state.set)

-- both 8 and 9 hold of 12, and 8 comes first; a refusal keeps what was set; 0 is taken as 1
p9_order : map p9_set (12 ∷ 8 ∷ 2 ∷ 0 ∷ []) ≡
    (8, 4) ∷ (9, 4) ∷ (0, 2) ∷ (0, 1) ∷ []
unfolding p9_set
p9_order = refl

-- 256 inputs with a record too few
start_short : answer_number (starting (map pos (rising 256 1)) (replicate 256 1) 300 (8 * 511) 0).answer.answer ≡ 7
unfolding starting rising answer_number
start_short = refl

-- start's refusals in their order: several hold in most rows
start_refusal_of : List ℤ → List ℕ → ℕ → ℕ → ℕ
unfolding starting answer_number
start_refusal_of lits weights first records = answer_number (starting lits weights first (8 * records) 0).answer.answer

start_refusals :
    start_refusal_of (pos 0 ∷ []) (0 ∷ 0 ∷ []) 0 0 ∷
    start_refusal_of (pos 0 ∷ pos 0 ∷ []) (0 ∷ 0 ∷ []) 0 0 ∷
    start_refusal_of (neg 1000000001 ∷ []) (0 ∷ []) 0 0 ∷
    start_refusal_of (pos 1 ∷ pos 1 ∷ []) (0 ∷ 0 ∷ []) 0 0 ∷
    start_refusal_of (pos 1 ∷ neg 1 ∷ []) (0 ∷ 1 ∷ []) 0 0 ∷
    start_refusal_of (pos 1 ∷ neg 1 ∷ []) (1 ∷ 1048576 ∷ []) 0 0 ∷
    start_refusal_of (pos 1 ∷ neg 7 ∷ []) (1 ∷ 1048575 ∷ []) 0 0 ∷
    start_refusal_of (pos 1 ∷ neg 7 ∷ []) (1 ∷ 1 ∷ []) 7 0 ∷
    start_refusal_of (pos 1 ∷ neg 7 ∷ []) (1 ∷ 1 ∷ []) 1000000001 0 ∷
    start_refusal_of (pos 1 ∷ neg 7 ∷ []) (1 ∷ 1 ∷ []) 8 3 ∷
    start_refusal_of (pos 1 ∷ neg 7 ∷ []) (1 ∷ 1 ∷ []) 8 4 ∷
    start_refusal_of [] [] 1 0 ∷ [] ≡
    1 ∷ 2 ∷ 2 ∷ 4 ∷ 4 ∷ 4 ∷ 5 ∷ 5 ∷ 5 ∷ 7 ∷ 0 ∷ 0 ∷ []
unfolding start_refusal_of neg
start_refusals = refl

-- the all-zero state of a refused start: 12 before all else
zero_refused : answer_number (setting (started [] [] 0 0 0) 3).answer ≡ 12
unfolding answer_number setting started
zero_refused = refl

-- encode's refusals in their order, weights 3, 3 at 8 with store, clause and work words: 12; 6; accepted, as the range is empty; 10.
-- At divisor 1, where the build needs 10 records and 23 words: 7 for records, 7 for words, accepted
encode_refusal_of : ℕ → ℕ → ℕ → ℕ → ℕ → ℕ
unfolding set_to started encode_ub_change answer_number
encode_refusal_of divisor store clauses work end =
    let a : Lent = set_to (started (pos 1 ∷ pos 2 ∷ []) (3 ∷ 3 ∷ []) 3 400 100) divisor in
    answer_number (encode_ub_change a.state (take store a.store) (take clauses a.clauses) (replicate work 0) 0 end).answer.answer

encode_refusals :
    encode_refusal_of 8 31 100 16383 1 ∷
    encode_refusal_of 8 32 100 16383 1 ∷
    encode_refusal_of 8 32 100 16384 0 ∷
    encode_refusal_of 8 32 100 16384 1 ∷
    encode_refusal_of 1 79 23 16384 1 ∷
    encode_refusal_of 1 80 22 16384 1 ∷
    encode_refusal_of 1 80 23 16384 1 ∷ [] ≡
    12 ∷ 6 ∷ 0 ∷ 10 ∷ 7 ∷ 7 ∷ 0 ∷ []
unfolding encode_refusal_of
encode_refusals = refl

-- fresh numbers end at 1,000,000,000: one output can be numbered, two cannot
last_number : map (λ end. answer_number (encoding (begun (pos 1 ∷ pos 2 ∷ []) (1 ∷ 1 ∷ []) 1000000000 400 100) 0 end).answer.answer)
    (1 ∷ 2 ∷ []) ≡ 0 ∷ 7 ∷ []
unfolding encoding begun answer_number
last_number = refl

-- enforce's scratch: the answer is its front part, the rest untouched; too short, it is refused with 7 and untouched
enforce_scratch : ℕ → EnforceEnd
unfolding p3_build enforce_ub
enforce_scratch n = enforce_ub p3_build.state p3_build.store p3_build.clauses (replicate n (pos 9)) 2

scratch_enough : enforce_scratch 3 ≡ record { answer = neg 10 ∷ pos 4 ∷ []; scratch = neg 10 ∷ pos 4 ∷ pos 9 ∷ []; refusal = 0 }
unfolding enforce_scratch neg
scratch_enough = refl

scratch_short : enforce_scratch 1 ≡ record { answer = []; scratch = pos 9 ∷ []; refusal = 7 }
unfolding enforce_scratch
scratch_short = refl

-- no inputs and one input
few : map (enforced (begun [] [] 1 0 0)) (0 ∷ []) ++ map (enforced (begun (neg 4 ∷ []) (5 ∷ []) 5 16 0)) (5 ∷ 4 ∷ []) ≡
    (0, []) ∷ (0, []) ∷ (0, pos 4 ∷ []) ∷ []
unfolding enforced begun neg
few = refl

-- the words past the marks, where the caller left 9s: 15 records and some clause words are lent to P3
dirty : ℕ → Lent
unfolding p3_start
dirty words = record {
  state = (p3_start 34).state;
  store = take 48 (p3_start 34).store ++ replicate 72 9;
  clauses = replicate words (pos 9);
}

-- the store past n words, the clause buffer past m, and the ends of the work slice
past : ℕ → ℕ → EncodeEnd → List ℕ × List ℤ × List ℕ
past n m e = (drop n e.store, drop m e.clauses, get_or e.work 0 1 ∷ get_or e.work 16383 1 ∷ [])

-- refused with 7: zero past the old marks
past_refused : past 48 0 (encoding (dirty 33) 2 4) ≡ (replicate 72 0, replicate 33 (pos 0), 0 ∷ 0 ∷ [])
unfolding past encoding dirty
past_refused = refl

-- built: zero past the new marks
past_built : past 112 34 (encoding (dirty 36) 2 4) ≡ (replicate 8 0, replicate 2 (pos 0), 0 ∷ 0 ∷ [])
unfolding past encoding dirty
past_built = refl

-- nothing to do: nothing is written
past_idle : past 48 0 (encoding (dirty 36) 4 4) ≡ (replicate 72 9, replicate 36 (pos 9), 9 ∷ 9 ∷ [])
unfolding past encoding dirty
past_idle = refl

-- an accepted start zeroes both buffers, then writes its records
start_zeroes_store : drop 48 (p3_start 34).store ≡ replicate 64 0
unfolding p3_start
start_zeroes_store = refl

start_zeroes_clauses : (p3_start 34).clauses ≡ replicate 34 (pos 0)
unfolding p3_start
start_zeroes_clauses = refl
