-- The clauses of well formed in the groups in which they are tested.
use Rattle.std.specs.Prelude.{◌≡◌, Bool, true, cond, ◌&&◌, List, [], ◌∷◌, ℕ, eqb, leb, ltb}
use Rattle.rules.specs.declared.State.{State}
use Rattle.rules.specs.Lists.{all, rising}
use Rattle.rules.specs.Numbers.{most_weight}
use Rattle.rules.specs.Records.{Record, node_at}
use Rattle.rules.specs.WellFormed.{tares_within, buckets_within, clauses_within, variables_below, fresh_within, inputs_first, waiting_last, outputs_rise, leaves_lawful, links_nodes, heights_right, maxima_right, outputs_no_leaf, outputs_distinct, values_within, variable_of, numbers_distinct, numbers_above, numbers_below, set_lawful, two_inputs, built_power, built_coarser, built_times_weight, some_bucket, few_buckets, buckets_linked, left_maxima_within, waiting_below_built, unbuilt_clauses, maxima_within, links_spare_buckets, entries_spare_buckets, inputs_within, waiting_within, waiting_maxima_within, waiting_lawful}
use Rattle.check_records.specs.declared.Limits.{Limits}

-- every clause holds
unfoldable pub hold : List Bool → Bool
unfolding all
hold cs = all (λ c. c) cs

-- the clauses of the state alone
unfoldable pub state_right_clauses : State → List Bool
unfolding tares_within buckets_within clauses_within variables_below fresh_within set_lawful inputs_within
state_right_clauses s =
    (tares_within s && buckets_within s) ∷ clauses_within s ∷ variables_below s ∷ fresh_within s ∷ set_lawful s ∷ inputs_within s ∷ []

unfoldable pub state_right : State → Bool
unfolding hold state_right_clauses
state_right s = hold (state_right_clauses s)

-- those of the records in their places, of outputs and of numbers
unfoldable pub numbered_clauses : State → List Record → List Bool
unfolding waiting_last outputs_rise leaves_lawful links_nodes heights_right maxima_right outputs_no_leaf outputs_distinct values_within numbers_distinct numbers_above numbers_below maxima_within links_spare_buckets entries_spare_buckets waiting_lawful waiting_below_built
numbered_clauses s rs =
    waiting_last rs ∷
    outputs_rise rs ∷
    leaves_lawful rs ∷
    links_nodes rs ∷
    heights_right rs ∷
    maxima_right rs ∷
    outputs_no_leaf rs ∷
    outputs_distinct rs ∷
    values_within rs ∷
    numbers_distinct s rs ∷
    numbers_above s rs ∷
    numbers_below s rs ∷
    maxima_within rs ∷
    links_spare_buckets s rs ∷
    entries_spare_buckets s rs ∷
    waiting_lawful rs ∷
    cond (eqb s.built 0) true (waiting_below_built s rs) ∷ []

unfoldable pub numbered : State → List Record → Bool
unfolding hold numbered_clauses
numbered s rs = hold (numbered_clauses s rs)

-- those of the waiting entries together
unfoldable pub waiting_few_clauses : List Record → List Bool
unfolding waiting_within waiting_maxima_within
waiting_few_clauses rs =
    waiting_within rs ∷ waiting_maxima_within rs ∷ []

unfoldable pub waiting_few : List Record → Bool
unfolding hold waiting_few_clauses
waiting_few rs = hold (waiting_few_clauses rs)

-- those of a built state alone
unfoldable pub built_numbers_clauses : State → List Bool
unfolding two_inputs built_power built_coarser built_times_weight some_bucket few_buckets
built_numbers_clauses s =
    two_inputs s ∷ built_power s ∷ built_coarser s ∷ built_times_weight s ∷ some_bucket s ∷ few_buckets s ∷ []

unfoldable pub built_numbers : State → Bool
unfolding hold built_numbers_clauses
built_numbers s = hold (built_numbers_clauses s)

-- and with its buckets
unfoldable pub built_right_clauses : State → List Record → List Bool
unfolding built_numbers buckets_linked left_maxima_within
built_right_clauses s rs =
    built_numbers s ∷ buckets_linked s rs ∷ left_maxima_within s rs ∷ []

unfoldable pub built_right : State → List Record → Bool
unfolding hold built_right_clauses
built_right s rs = hold (built_right_clauses s rs)

-- those of an unbuilt state
unfoldable pub unbuilt_right : State → List Record → Bool
unfolding hold unbuilt_clauses
unbuilt_right s rs = hold (unbuilt_clauses s rs)

-- those of the records
unfoldable pub records_hold_clauses : State → List Record → List Bool
unfolding inputs_first numbered waiting_few unbuilt_right built_right
records_hold_clauses s rs =
    inputs_first s rs ∷ numbered s rs ∷ waiting_few rs ∷ cond (eqb s.built 0) (unbuilt_right s rs) (built_right s rs) ∷ []

unfoldable pub records_hold : State → List Record → Bool
unfolding hold records_hold_clauses
records_hold s rs = hold (records_hold_clauses s rs)

-- what numbers and weights are compared with, for a state and its records
pub record Limited (s : State) (rs : List Record) (lim : Limits) : Type 0 where
  pub low_is : (n : ℕ) → leb lim.low n ≡ all (λ (i : ℕ). ltb (variable_of (node_at rs i).kind) n) (rising s.inputs 0)
  pub fresh_is : lim.fresh ≡ s.fresh
  pub top_is : (w : ℕ) → leb w most_weight ≡ true → ltb w lim.top ≡ cond (eqb s.built 0) true (ltb w s.built)
