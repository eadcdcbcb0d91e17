-- An answer with its state, everything past the state's marks 0, and the state that holds what was reached.
use Rattle.std.specs.Prelude.{List, ℕ, ◌+◌, ◌*◌, ◌-◌, length, take, replicate, ℤ, pos, Result, ⊤}
use Rattle.rules.specs.declared.State.{State}
use Rattle.rules.specs.declared.Refusal.{Refusal}
use Rattle.rules.specs.declared.Encoded.{Encoded}
use Rattle.rules.specs.Lists.{padded}
use Rattle.rules.specs.Encode.{EncodeEnd}
use Rattle.build_begin.specs.declared.Structure.{Structure}

-- the totals beside an answer are those of its state
unfoldable pub totalled : Result ⊤ Refusal → State → Encoded
totalled a s = record { answer = a; clauses = s.clauses; variables = s.variables; state = s }

unfoldable pub settled : Result ⊤ Refusal → State → List ℕ → List ℤ → List ℕ → EncodeEnd
unfolding totalled padded
settled a s store clauses work = record {
  answer = totalled a s;
  store = padded 0 (length store) (take (8 * s.records) store);
  clauses = padded (pos 0) (length clauses) (take s.words clauses);
  work = replicate (length work) 0;
}

unfoldable pub state_after : State → ℕ → Structure → State
state_after s built z = record {
  inputs = s.inputs;
  sum = s.sum;
  set = s.set;
  built = built;
  records = z.marks.records;
  words = z.marks.words;
  clauses = z.marks.clauses;
  variables = s.variables + (z.marks.fresh - s.fresh);
  fresh = z.marks.fresh;
  tares = z.tares;
  tares_used = z.tares_used;
  buckets = z.buckets;
  buckets_used = z.buckets_used;
}
