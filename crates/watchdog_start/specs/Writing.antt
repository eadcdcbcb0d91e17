-- The records that start writes, and its states, for the promises of its private parts.
use Rattle.std.specs.Prelude.{◌≡◌, true, ℕ, ◌≤◌, ℤ, length, replicate, take}
use mathlib.Core.List.{List, ◌++◌, map, zip_with}
use Rattle.rules.specs.declared.State.{State}
use Rattle.rules.specs.declared.Combined.{Combined}
use Rattle.rules.specs.Lists.{all, rising, padded}
use Rattle.rules.specs.Numbers.{lawful_weight}
use Rattle.rules.specs.Records.{Record, node, waiting, leaf_node, image_of}
use Rattle.rules.specs.Build.{Build, records, state_of}
use Rattle.rules.specs.Totalizer.{Arena}
use Rattle.records.specs.declared.Marks.{Marks}
use Rattle.records.specs.Carries.{with_records}

-- more records at the end
unfoldable pub with_more : List Record → Arena → Arena
unfolding with_records
with_more rs t = with_records t (t.records ++ rs)

-- a leaf for each literal
unfoldable pub leaf_records : List ℤ → List Record
unfolding leaf_node
leaf_records lits = map (λ x. node (leaf_node x)) lits

-- each leaf waiting with its weight
unfoldable pub wait_records : List ℕ → List Record
unfolding rising zip_with
wait_records weights = map waiting (zip_with (λ n w. record { node = n; weight = w }) (rising (length weights) 0) weights)

-- the leaves, and then what waits
unfoldable pub with_inputs : List ℤ → List ℕ → Arena → Arena
with_inputs lits weights t = with_more (wait_records weights) (with_more (leaf_records lits) t)

-- nothing is used
unfoldable pub blank_marks : ℕ → Marks
blank_marks first = record { records = 0; words = 0; fresh = first; clauses = 0 }

-- a state with no tare and no bucket
unfoldable pub state_with : (inputs sum set records first : ℕ) → State
state_with inputs sum set records first = record {
  inputs = inputs;
  sum = sum;
  set = set;
  built = 0;
  records = records;
  words = 0;
  clauses = 0;
  variables = 0;
  fresh = first;
  tares = replicate 19 0;
  tares_used = 0;
  buckets = replicate 20 0;
  buckets_used = 0;
}

-- a new build's state, and a store of s words that holds its records, zeros behind them
pub record Begun (b : Build) (s : List ℕ) (state : State) (store : List ℕ) : Type 0 where
  pub state_is : state ≡ state_of b
  pub store_is : store ≡ padded 0 (length s) (image_of (records b))

-- a list that can be begun: its used slots lie in its arrays and hold lawful weights
pub record Inputs (list : Combined) : Type 0 where
  pub few : list.used ≤ 256
  pub in_literals : list.used ≤ length list.literals
  pub in_weights : list.used ≤ length list.weights
  pub weights_lawful : all lawful_weight (take list.used list.weights) ≡ true
