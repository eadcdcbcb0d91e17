-- A state or store that is broken in one single clause of "Well formed", for each clause; 12 refuses it.
use Rattle.std.specs.Prelude.{◌≡◌, refl, Bool, true, false, cond, List, [], ◌∷◌, map, ℕ, zero, suc, ◌*◌, ◌^◌, get_or, set, replicate, pos}
use Rattle.rules.specs.declared.State.{State}
use Rattle.rules.specs.Lists.{rising}
use Rattle.rules.specs.Refusals.{answer_number}
use Rattle.rules.specs.Records.{Record, node, image_of, leaf_node, dummy_node}
use Rattle.rules.specs.Totalizer.{joining, add}
use Rattle.rules.specs.Build.{Build, records, state_of}
use Rattle.rules.specs.WellFormed.{well_formed_clauses}
use Rattle.rules.specs.Precision.{set_precision}
use Rattle.rules.specs.Blackboard.{Lent, started, begun, set_to, encoded, p3_build}

-- places of the clauses that fail
places_from : ℕ → List Bool → List ℕ
places_from n [] = []
places_from n (b ∷ bs) = cond b (places_from (suc n) bs) (n ∷ places_from (suc n) bs)

failing : Lent → List ℕ
unfolding places_from well_formed_clauses
failing a = places_from 0 (well_formed_clauses a.state a.store a.clauses)

refusal : Lent → ℕ
unfolding set_precision answer_number
refusal a = answer_number (set_precision a.state a.store a.clauses 1).answer

-- the numbers of a state: inputs, sum, set, built, records, words, clauses, variables, fresh, tares used, buckets used
numbers : State → List ℕ
numbers s =
    s.inputs ∷ s.sum ∷ s.set ∷ s.built ∷ s.records ∷ s.words ∷ s.clauses ∷ s.variables ∷ s.fresh ∷ s.tares_used ∷
    s.buckets_used ∷ []

state_from : List ℕ → List ℕ → List ℕ → State
state_from ns tares buckets = record {
  inputs = get_or ns 0 0;
  sum = get_or ns 1 0;
  set = get_or ns 2 0;
  built = get_or ns 3 0;
  records = get_or ns 4 0;
  words = get_or ns 5 0;
  clauses = get_or ns 6 0;
  variables = get_or ns 7 0;
  fresh = get_or ns 8 0;
  tares = tares;
  tares_used = get_or ns 9 0;
  buckets = buckets;
  buckets_used = get_or ns 10 0;
}

-- one number of the state, one slot of an array, one record changed
number : ℕ → ℕ → Lent → Lent
unfolding numbers state_from
number k n a = record {
  state = state_from (set (numbers a.state) k n) a.state.tares a.state.buckets;
  store = a.store;
  clauses = a.clauses;
}

tare : ℕ → ℕ → Lent → Lent
unfolding numbers state_from
tare k n a = record {
  state = state_from (numbers a.state) (set a.state.tares k n) a.state.buckets;
  store = a.store;
  clauses = a.clauses;
}

bucket : ℕ → ℕ → Lent → Lent
unfolding numbers state_from
bucket k n a = record {
  state = state_from (numbers a.state) a.state.tares (set a.state.buckets k n);
  store = a.store;
  clauses = a.clauses;
}

write : ℕ → List ℕ → List ℕ → List ℕ
write k [] store = store
write k (w ∷ ws) store = write (suc k) ws (set store k w)

words : ℕ → List ℕ → Lent → Lent
unfolding write
words place ws a = record { state = a.state; store = write (8 * place) ws a.store; clauses = a.clauses }

-- unbuilt: inputs 1 and 2 wait with weights 3 and 2, at places 2 and 3
new : Lent
unfolding begun
new = begun (pos 1 ∷ pos 2 ∷ []) (3 ∷ 2 ∷ []) 10 400 100

-- built at 8, weights 9 and 15: leaves 0 and 1, their merge 2, dummy 3, bucket 4, outputs (2, 2) and (4, 2) numbered 3 and 4 at 5 and 6,
-- leaf 1 waits with 7 at 7, leaf 0 with 1 at 8
waits : Lent
unfolding started set_to encoded
waits = encoded (set_to (started (pos 1 ∷ pos 2 ∷ []) (9 ∷ 15 ∷ []) 3 400 100) 8) 1 2

-- built at 8 over given records: inputs are the first n, the bucket joins `left` and a dummy, entries wait with weight 1
over : ℕ → List Record → ℕ → List ℕ → Lent
unfolding add dummy_node joining state_of image_of records
over n rs left waiting =
    let (rs₁, d) = add rs dummy_node in
    let (rs₂, b) = add rs₁ (joining rs₁ true left d) in
    let c : Build = record {
      inputs = n;
      sum = 0;
      first = 300;
      set = 8;
      built = 8;
      tares = [];
      buckets = b ∷ [];
      queue = map (λ e. record { node = e; weight = 1 }) waiting;
      arena = record { records = rs₂; fresh = 301; clauses = [] };
      clauses_before = 0;
      words_before = 0;
    } in
    record { state = state_of c; store = image_of (records c); clauses = [] }

leaves : ℕ → List Record
unfolding leaf_node rising
leaves n = map (λ v. node (leaf_node (pos v))) (rising n 1)

-- two leaves, and k joins that double the maximum: the last has 2^k
doubled : ℕ → List Record
unfolding leaves add joining
doubled zero = leaves 2
doubled (suc k) = (add (doubled k) (joining (doubled k) false (suc k) (suc k))).0

-- the four that are altered below are well formed
sound : map failing (new ∷ waits ∷ p3_build ∷ over 2 (doubled 8) 9 (9 ∷ []) ∷ []) ≡ [] ∷ [] ∷ [] ∷ [] ∷ []
unfolding failing new waits p3_build over doubled
sound = refl

-- clause by clause, in the order of `well_formed_clauses`
broken : List Lent
unfolding number tare bucket words new waits p3_build over doubled leaves
broken =
    number 5 101 waits ∷
    tare 5 7 waits ∷
    bucket 5 7 waits ∷
    number 6 8 waits ∷
    number 7 5 waits ∷
    number 8 1000000002 waits ∷
    words 5 (4 ∷ 2 ∷ 2 ∷ 6 ∷ 0 ∷ 0 ∷ 1 ∷ []) waits ∷
    number 0 4 p3_build ∷
    words 5 (5 ∷ 0 ∷ 1 ∷ 0 ∷ []) (words 6 (4 ∷ 4 ∷ 2 ∷ 6 ∷ []) (words 8 (4 ∷ 2 ∷ 2 ∷ 8 ∷ []) waits)) ∷
    words 5 (4 ∷ 2 ∷ 2 ∷ 8 ∷ []) (words 6 (4 ∷ 4 ∷ 2 ∷ 6 ∷ []) waits) ∷
    words 1 (1 ∷ 0 ∷ []) waits ∷
    words 5 (2 ∷ 0 ∷ 6 ∷ 0 ∷ 1 ∷ 1 ∷ []) waits ∷
    words 2 (2 ∷ 1 ∷ 0 ∷ 0 ∷ 2 ∷ 2 ∷ []) waits ∷
    words 2 (2 ∷ 1 ∷ 0 ∷ 0 ∷ 3 ∷ []) waits ∷
    words 5 (4 ∷ 0 ∷ 1 ∷ []) waits ∷
    words 5 (4 ∷ 4 ∷ 2 ∷ []) waits ∷
    words 5 (4 ∷ 2 ∷ 0 ∷ []) waits ∷
    tare 0 5 p3_build ∷
    words 5 (4 ∷ 2 ∷ 2 ∷ 4 ∷ []) waits ∷
    words 6 (4 ∷ 4 ∷ 2 ∷ 10 ∷ []) waits ∷
    number 2 3 waits ∷
    number 0 1 waits ∷
    number 3 9 waits ∷
    number 2 16 waits ∷
    number 3 (2 ^ 20) waits ∷
    number 10 0 (bucket 0 0 waits) ∷
    number 9 0 (tare 0 0 p3_build) ∷
    number 4 7 waits ∷
    over 2 (doubled 9) 10 (0 ∷ []) ∷
    words 7 (5 ∷ 1 ∷ 8 ∷ []) waits ∷
    over 2 (doubled 10) 0 (0 ∷ []) ∷
    words 5 (2 ∷ 0 ∷ 4 ∷ 0 ∷ 3 ∷ 3 ∷ []) waits ∷
    words 7 (5 ∷ 4 ∷ []) waits ∷
    over 257 (leaves 257) 0 (0 ∷ []) ∷
    over 2 (leaves 2) 0 (replicate 257 2) ∷
    over 2 (doubled 9) 0 (10 ∷ []) ∷
    words 7 (5 ∷ 1 ∷ 0 ∷ []) waits ∷ []

broken_once : map failing broken ≡ map (λ n. n ∷ []) (rising 37 0)
unfolding failing broken rising
broken_once = refl

broken_refused : map refusal broken ≡ replicate 37 12
unfolding refusal broken
broken_refused = refl

-- what unbuilt means, at places 21 to 24
broken_new : List Lent
unfolding number tare bucket words new
broken_new =
    number 9 1 (tare 0 5 new) ∷
    number 10 1 (bucket 0 5 new) ∷
    words 3 (5 ∷ 0 ∷ []) new ∷
    number 1 6 new ∷ []

broken_new_once : map failing broken_new ≡ map (λ n. n ∷ []) (rising 4 21)
unfolding failing broken_new rising
broken_new_once = refl

broken_new_refused : map refusal broken_new ≡ replicate 4 12
unfolding refusal broken_new
broken_new_refused = refl
