-- "Sums on the blackboard": P1 to P9 as a single table, computed over the public calls.
use Rattle.std.specs.Prelude.{◌≡◌, refl, Bool, true, false, not, ◌||◌, List, [], ◌∷◌, ◌++◌, map, ℕ, zero, suc, ◌*◌, ◌-◌, ◌^◌, eqb, take, replicate, ℤ, pos, negsuc, neg_ℤ}
use Rattle.rules.specs.declared.State.{State}
use Rattle.rules.specs.declared.Set.{Set}
use Rattle.rules.specs.Lists.{any, keep, rising}
use Rattle.rules.specs.Refusals.{answer_number, answer_value}
use Rattle.rules.specs.Digits.{digits}
use Rattle.rules.specs.Records.{literal_word, leaf, join, dummy, Node, nodes}
use Rattle.rules.specs.Build.{clause_words, held, build_of, output_weight, root_node}
use Rattle.rules.specs.Start.{StartEnd, start}
use Rattle.rules.specs.Precision.{set_precision, with_set}
use Rattle.rules.specs.Encode.{EncodeEnd, encode_ub_change}
use Rattle.rules.specs.Enforce.{EnforceEnd, enforce_ub}
use Rattle.rules.specs.Coarse.{coarse_ub}

-- what a caller holds between calls
pub record Lent : Type 0 where
  pub state : State
  pub store : List ℕ
  pub clauses : List ℤ

-- the calls over it; the memory that start is lent holds 9s, n words of store and m of clause buffer
unfoldable pub starting : List ℤ → List ℕ → ℕ → ℕ → ℕ → StartEnd
unfolding start
starting lits weights first n m = start lits weights first (replicate n 9) (replicate m (pos 9))

unfoldable pub started : List ℤ → List ℕ → ℕ → ℕ → ℕ → Lent
unfolding starting
started lits weights first n m =
    let e : StartEnd = starting lits weights first n m in
    record { state = e.answer.state; store = e.store; clauses = e.clauses }

unfoldable pub setting : Lent → ℕ → Set
unfolding set_precision
setting a divisor = set_precision a.state a.store a.clauses divisor

unfoldable pub set_to : Lent → ℕ → Lent
unfolding setting
set_to a divisor = record { state = (setting a divisor).state; store = a.store; clauses = a.clauses }

-- an accepted start, then divisor 1: the state that a set leaves (that it is accepted: `start_then_set` in `preserve`)
unfoldable pub begun : List ℤ → List ℕ → ℕ → ℕ → ℕ → Lent
unfolding started with_set
begun lits weights first n m =
    let a : Lent = started lits weights first n m in
    record { state = with_set a.state 1; store = a.store; clauses = a.clauses }

unfoldable pub encoding : Lent → ℕ → ℕ → EncodeEnd
unfolding encode_ub_change
encoding a lo end = encode_ub_change a.state a.store a.clauses (replicate 16384 9) lo end

unfoldable pub encoded : Lent → ℕ → ℕ → Lent
unfolding encoding
encoded a lo end =
    let e : EncodeEnd = encoding a lo end in
    record { state = e.answer.state; store = e.store; clauses = e.clauses }

-- enforce's refusal and answer, in a scratch of 20
unfoldable pub enforced : Lent → ℕ → ℕ × List ℤ
unfolding enforce_ub
enforced a u =
    let e : EnforceEnd = enforce_ub a.state a.store a.clauses (replicate 20 (pos 9)) u in
    (e.refusal, e.answer)

unfoldable pub coarsened : Lent → ℕ → ℕ
unfolding coarse_ub answer_value
coarsened a u = answer_value 0 (coarse_ub a.state a.store a.clauses u)

-- the used clause words
unfoldable pub used : Lent → List ℤ
used a = take a.state.words a.clauses

-- records, clauses, clause words, variables
unfoldable pub counts : Lent → List ℕ
counts a = a.state.records ∷ a.state.clauses ∷ a.state.words ∷ a.state.variables ∷ []

unfoldable pub tares : Lent → List ℕ
tares a = take a.state.tares_used a.state.tares

-- W and the root's maximum
unfoldable pub weight_and_maximum : Lent → ℕ × ℕ
unfolding build_of output_weight root_node
weight_and_maximum a = (output_weight (build_of a.state a.store), (root_node (build_of a.state a.store)).maximum)

-- -n
unfoldable pub neg : ℕ → ℤ
neg n = negsuc (n - 1)

-- P2: weights 4, 4 have two tares, W = 4; P2 to P5 are cases at divisor 1, so each sets it (Ask 7)
pub p2_build : Lent
unfolding begun encoded
p2_build = encoded (begun (pos 1 ∷ pos 2 ∷ []) (4 ∷ 4 ∷ []) 3 400 100) 0 1

-- P3: the store has room for 14 records
unfoldable pub p3_start : ℕ → Lent
unfolding begun
p3_start words = begun (pos 1 ∷ pos 2 ∷ pos 3 ∷ []) (1 ∷ 2 ∷ 3 ∷ []) 4 112 words

unfoldable pub p3_build : Lent
unfolding p3_start encoded
p3_build = encoded (p3_start 34) 2 4

-- 33 clause words are lent
unfoldable pub p3_short : EncodeEnd
unfolding encoding p3_start
p3_short = encoding (p3_start 33) 2 4

-- P5
pub p5_build : Lent
unfolding begun encoded
p5_build = encoded (begun (pos 1 ∷ pos 2 ∷ []) (4 ∷ 12 ∷ []) 3 400 100) 0 1

-- the literals of the leaves
leaf_literals : List Node → List ℤ
leaf_literals [] = []
leaf_literals (n ∷ ns) = elim n.kind [ leaf x ↦ x ∷ leaf_literals ns | join half l r ↦ leaf_literals ns | dummy ↦ leaf_literals ns ]

pub leaves : Lent → List ℤ
unfolding leaf_literals nodes held
leaves a = leaf_literals (nodes (held a.state a.store))

-- P6: weights 9, 15 at divisor 8, output 2 encoded; then refined to 1
pub p6_build : Lent
unfolding started set_to encoded
p6_build = encoded (set_to (started (pos 1 ∷ pos 2 ∷ []) (9 ∷ 15 ∷ []) 3 400 100) 8) 1 2

unfoldable pub p6_refined : Lent
unfolding p6_build set_to encoded
p6_refined = encoded (set_to p6_build 1) 0 1

-- the clauses of a list of words
clauses_in : List ℤ → List ℤ → List (List ℤ)
clauses_in c [] = []
clauses_in c (pos zero ∷ ws) = c ∷ clauses_in [] ws
clauses_in c (pos (suc n) ∷ ws) = clauses_in (c ++ (pos (suc n) ∷ [])) ws
clauses_in c (negsuc n ∷ ws) = clauses_in (c ++ (negsuc n ∷ [])) ws

-- what is left of the clauses where x is true
where_true : ℤ → List (List ℤ) → List (List ℤ)
unfolding keep any literal_word
where_true x cs =
    map (keep (λ y. not (eqb (literal_word y) (literal_word (neg_ℤ x)))))
    (keep (λ c. not (any (λ y. eqb (literal_word y) (literal_word x)) c)) cs)

-- some assignment satisfies the clauses: of the first clause's first literal, one of the two values will do
satisfiable : ℕ → List (List ℤ) → Bool
unfolding where_true
satisfiable zero cs = false
satisfiable (suc f) [] = true
satisfiable (suc f) ([] ∷ cs) = false
satisfiable (suc f) ((x ∷ c) ∷ cs) =
    satisfiable f (where_true x ((x ∷ c) ∷ cs)) || satisfiable f (where_true (neg_ℤ x) ((x ∷ c) ∷ cs))

-- the clauses with an answer admit a load, given by its literals
pub admits : Lent → List ℤ → List ℤ → Bool
unfolding satisfiable used clauses_in
admits a answer load = satisfiable 100 (map (λ (x : ℤ). x ∷ []) (load ++ answer) ++ clauses_in [] (used a))

-- P8: weights at divisor 8
pub p8_refusal : List ℕ → ℕ
unfolding answer_number encoding set_to started
p8_refusal weights = answer_number (encoding (set_to (started (pos 1 ∷ pos 2 ∷ []) weights 3 400 100) 8) 0 1).answer.answer

-- P9: built at 4
unfoldable pub p9_build : Lent
unfolding started set_to encoded
p9_build = encoded (set_to (started (pos 1 ∷ pos 2 ∷ []) (5 ∷ 6 ∷ []) 3 400 100) 4) 0 1

pub p9_refusal : ℕ → ℕ
unfolding answer_number setting p9_build
p9_refusal divisor = answer_number (setting p9_build divisor).answer

-- n inputs of weight 1, with room
pub many_refusal : ℕ → ℕ
unfolding starting rising answer_number
many_refusal n = answer_number (starting (map pos (rising n 1)) (replicate n 1) 300 (16 * n) 0).answer.answer

-- the table: a row a case, what the definitions give and what document 01 says
pub record Table : Type 0 where
  -- `digits` 0, 1, 8
  pub p1 : map digits (0 ∷ 1 ∷ 8 ∷ []) ≡ 1 ∷ 1 ∷ 4 ∷ []
  -- W = 4: coarse 2, 4, 6, 7 and the largest 64-bit number
  pub p2 : map (coarsened p2_build) (2 ∷ 4 ∷ 6 ∷ 7 ∷ (2 ^ 64 - 1) ∷ []) ≡ 2 ∷ 3 ∷ 3 ∷ 7 ∷ (2 ^ 64 - 1) ∷ []
  pub p3_tares : tares p3_build ≡ 4 ∷ []
  -- clauses, whole and in order
  pub p3_clauses : p3_build.clauses ≡ clause_words (
      (neg 2 ∷ pos 5 ∷ []) ∷
      (neg 3 ∷ pos 5 ∷ []) ∷
      (neg 1 ∷ neg 3 ∷ pos 6 ∷ []) ∷
      (neg 3 ∷ pos 7 ∷ []) ∷
      (neg 1 ∷ pos 7 ∷ []) ∷
      (neg 6 ∷ pos 8 ∷ []) ∷
      (neg 4 ∷ neg 7 ∷ pos 8 ∷ []) ∷
      (neg 3 ∷ neg 2 ∷ pos 9 ∷ []) ∷
      (neg 5 ∷ neg 8 ∷ pos 10 ∷ []) ∷
      (neg 9 ∷ pos 10 ∷ []) ∷ [])
  -- 14 records, ten clauses, 34 words, 7 variables
  pub p3_counts : counts p3_build ≡ 14 ∷ 10 ∷ 34 ∷ 7 ∷ []
  -- 33 words
  pub p3_refused : answer_number p3_short.answer.answer ≡ 7
  -- u = 3, 2, 4, 6, each its refusal and its answer
  pub p4 : map (enforced p3_build) (3 ∷ 2 ∷ 4 ∷ 6 ∷ []) ≡ (0, neg 10 ∷ []) ∷ (0, neg 10 ∷ pos 4 ∷ []) ∷ (11, []) ∷ (0, []) ∷ []
  pub p5_tares : tares p5_build ≡ 3 ∷ 4 ∷ 5 ∷ []
  pub p5_weight : weight_and_maximum p5_build ≡ (8, 2)
  -- u = 7 needs no tare, u = 6 names `tares[0]`
  pub p5_answers : map (enforced p5_build) (7 ∷ 6 ∷ []) ≡ (0, neg 9 ∷ []) ∷ (0, neg 9 ∷ pos 3 ∷ []) ∷ []
  -- which is not in the tree
  pub p5_leaves : leaves p5_build ≡ pos 1 ∷ pos 2 ∷ pos 5 ∷ []
  pub p6_weight : weight_and_maximum p6_build ≡ (1, 2)
  pub p6_answer : enforced p6_build 1 ≡ (0, neg 4 ∷ [])
  -- after refinement to 1 it admits sums 0, 9, 15, and not 24
  pub p6_admits : map (admits p6_refined (neg 4 ∷ [])) ((neg 1 ∷ neg 2 ∷ []) ∷ (pos 1 ∷ neg 2 ∷ []) ∷ (neg 1 ∷ pos 2 ∷ []) ∷ (pos 1 ∷ pos 2 ∷ []) ∷ []) ≡
      true ∷ true ∷ true ∷ false ∷ []
  pub p7 : enforced p6_build 2 ≡ (0, [])
  -- weights 3, 3, and a maximum weight of 8
  pub p8 : map p8_refusal ((3 ∷ 3 ∷ []) ∷ (3 ∷ 8 ∷ []) ∷ []) ≡ 10 ∷ 0 ∷ []
  -- divisor 3, and 8
  pub p9 : map p9_refusal (3 ∷ 8 ∷ []) ≡ 8 ∷ 9 ∷ []
  -- 256 and 257 inputs
  pub many : map many_refusal (256 ∷ 257 ∷ []) ≡ 0 ∷ 1 ∷ []

-- P1 to P9: every row holds
pub blackboard : Table
unfolding digits p2_build coarsened p3_build p3_short tares counts neg clause_words answer_number enforced p5_build weight_and_maximum leaves p6_build p6_refined admits p8_refusal p9_refusal many_refusal
blackboard = record {
  p1 = refl;
  p2 = refl;
  p3_tares = refl;
  p3_clauses = refl;
  p3_counts = refl;
  p3_refused = refl;
  p4 = refl;
  p5_tares = refl;
  p5_weight = refl;
  p5_answers = refl;
  p5_leaves = refl;
  p6_weight = refl;
  p6_answer = refl;
  p6_admits = refl;
  p7 = refl;
  p8 = refl;
  p9 = refl;
  many = refl;
}
