-- Why accepted_encode asks that the next fresh number be above every input variable: an altered state that is well formed although it
-- is not, since no number was taken yet; the encode is accepted and takes the number of an input.
use Rattle.std.specs.Prelude.{◌≡◌, refl, true, false, [], ◌∷◌, replicate, pos}
use Rattle.rules.specs.declared.State.{State}
use Rattle.rules.specs.WellFormed.{well_formed}
use Rattle.rules.specs.Start.{StartEnd, start}
use Rattle.rules.specs.Encode.{EncodeEnd, encode_refusal, encode_ub_change}
use Rattle.preserve.specs.Encodes.{fresh_ahead}

-- inputs 5 and 6 of weight 1, first fresh number 7
pub begun : StartEnd
unfolding start
begun = start (pos 5 ∷ pos 6 ∷ []) (1 ∷ 1 ∷ []) 7 (replicate 64 0) (replicate 20 (pos 0))

-- with the next fresh number set to 5
pub altered : State
unfolding begun
altered = record {
  inputs = begun.answer.state.inputs;
  sum = begun.answer.state.sum;
  set = begun.answer.state.set;
  built = begun.answer.state.built;
  records = begun.answer.state.records;
  words = begun.answer.state.words;
  clauses = begun.answer.state.clauses;
  variables = begun.answer.state.variables;
  fresh = 5;
  tares = begun.answer.state.tares;
  tares_used = begun.answer.state.tares_used;
  buckets = begun.answer.state.buckets;
  buckets_used = begun.answer.state.buckets_used;
}

pub left : EncodeEnd
unfolding encode_ub_change begun altered
left = encode_ub_change altered begun.store begun.clauses (replicate 16384 0) 0 1

-- it is well formed, but its next fresh number is not above every input variable
pub altered_well_formed : (well_formed altered begun.store begun.clauses ≡ true) × (fresh_ahead altered begun.store ≡ false)
unfolding well_formed fresh_ahead begun altered
altered_well_formed = (refl, refl)

-- the encode is accepted, and what it leaves is not well formed
pub altered_not_kept : (encode_refusal altered begun.store begun.clauses (replicate 16384 0) 0 1 ≡ 0) ×
    (well_formed left.answer.state left.store left.clauses ≡ false)
unfolding well_formed encode_refusal begun altered left
altered_not_kept = (refl, refl)
