-- Start: what it refuses, the build it makes, and what each lent word holds afterwards.
use Rattle.std.specs.Prelude.{Bool, ℕ, zero, suc, ◌*◌, ◌^◌, max, ltb, length, replicate, ℤ, pos, Result, Ok, Err}
use mathlib.Core.List.{List, [], ◌∷◌, map, zip_with}
use Rattle.rules.specs.declared.State.{State}
use Rattle.rules.specs.declared.Started.{Started}
use Rattle.rules.specs.declared.Combined.{Combined}
use Rattle.rules.specs.declared.Refusal.{Refusal}
use Rattle.rules.specs.Lists.{total, rising, padded}
use Rattle.rules.specs.Numbers.{most_inputs, most_tares, most_buckets, capacity}
use Rattle.rules.specs.Digits.{top_bit}
use Rattle.rules.specs.Combined.{combined_literals, combined_weights}
use Rattle.rules.specs.Refusals.{refusal_of, first_true, lists_differ, literal_unlawful, weight_unlawful, fresh_unlawful, answer_of}
use Rattle.rules.specs.Records.{node, image_of, leaf_node, literal_word}
use Rattle.rules.specs.Build.{Build, records, state_of}

-- the check of a list: 1, 2, 4, each over whole lists; Ask 4: refusal 3 is no longer given
unfoldable pub list_refusal : List ℤ → List ℕ → ℕ
unfolding first_true lists_differ literal_unlawful weight_unlawful
list_refusal lits weights = first_true ((1, lists_differ lits weights) ∷ (2, literal_unlawful lits) ∷ (4, weight_unlawful lits weights) ∷ [])

-- a list in arrays of 256, zeros behind it
unfoldable pub list_of : List ℤ → List ℕ → Combined
unfolding padded literal_word
list_of lits weights = record {
  literals = padded 0 most_inputs (map literal_word lits);
  weights = padded 0 most_inputs weights;
  used = length lits;
}

-- the check of a list hands back the combined list, and none where it is refused
unfoldable pub checked_end : ℕ → List ℤ → List ℕ → Result Combined Refusal
unfolding list_of refusal_of
checked_end zero lits weights = Ok (list_of lits weights)
checked_end (suc n) lits weights = Err (refusal_of (suc n))

unfoldable pub checked : List ℤ → List ℕ → Result Combined Refusal
unfolding list_refusal checked_end combined_literals combined_weights
checked lits weights = checked_end (list_refusal lits weights) (combined_literals lits) (combined_weights lits weights)

-- 7: start, if capacity is below twice the input count; Ask 4: combined inputs are counted
unfoldable pub start_no_room : List ℤ → List ℕ → Bool
unfolding capacity combined_literals
start_no_room lits store = ltb (capacity store) (2 * length (combined_literals lits))

-- start: 1, 2, 4, 5, 7, each over whole lists
unfoldable pub start_refusal : List ℤ → List ℕ → ℕ → List ℕ → ℕ
unfolding first_true lists_differ literal_unlawful weight_unlawful fresh_unlawful start_no_room
start_refusal lits weights first store = first_true (
    (1, lists_differ lits weights) ∷
    (2, literal_unlawful lits) ∷
    (4, weight_unlawful lits weights) ∷
    (5, fresh_unlawful lits first) ∷
    (7, start_no_room lits store) ∷ [])

-- the largest weight, 0 where there is none
unfoldable pub heaviest : List ℕ → ℕ
heaviest [] = 0
heaviest (w ∷ ws) = max w (heaviest ws)

-- Ask 7: a new build starts at the top power of its largest weight, and 1 when there are no inputs
unfoldable pub starting_divisor : List ℕ → ℕ
unfolding top_bit heaviest
starting_divisor weights = 2 ^ top_bit (heaviest weights)

-- a new build: a leaf for each literal, each waiting with its weight
unfoldable pub new_build : List ℤ → List ℕ → ℕ → Build
unfolding total starting_divisor leaf_node rising zip_with
new_build lits weights first = record {
  inputs = length lits;
  sum = total weights;
  first = first;
  set = starting_divisor weights;
  built = 0;
  tares = [];
  buckets = [];
  queue = zip_with (λ n w. record { node = n; weight = w }) (rising (length weights) 0) weights;
  arena = record { records = map (λ x. node (leaf_node x)) lits; fresh = first; clauses = [] };
  clauses_before = 0;
  words_before = 0;
}

-- the all-zero state, which 12 refuses
unfoldable pub zero_state : State
zero_state = record {
  inputs = 0;
  sum = 0;
  set = 0;
  built = 0;
  records = 0;
  words = 0;
  clauses = 0;
  variables = 0;
  fresh = 0;
  tares = replicate most_tares 0;
  tares_used = 0;
  buckets = replicate most_buckets 0;
  buckets_used = 0;
}

-- what start answers, and what the store and the clause buffer hold afterwards
pub record StartEnd : Type 0 where
  pub answer : Started
  pub store : List ℕ
  pub clauses : List ℤ

-- an accepted start zeroes both buffers, then writes its records; a refusal returns the all-zero state and writes nothing
unfoldable pub start_end : ℕ → Build → List ℕ → List ℤ → StartEnd
unfolding answer_of state_of zero_state image_of records padded
start_end zero b store clauses = record {
  answer = record { answer = answer_of 0; state = state_of b };
  store = padded 0 (length store) (image_of (records b));
  clauses = padded (pos 0) (length clauses) [];
}
start_end (suc n) b store clauses = record {
  answer = record { answer = answer_of (suc n); state = zero_state };
  store = store;
  clauses = clauses;
}

-- start, from the combined list
unfoldable pub start : List ℤ → List ℕ → ℕ → List ℕ → List ℤ → StartEnd
unfolding start_refusal new_build combined_literals combined_weights start_end
start lits weights first store clauses =
    start_end (start_refusal lits weights first store) (new_build (combined_literals lits) (combined_weights lits weights) first) store clauses
