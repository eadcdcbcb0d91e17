-- Calls on lent slices, as the rules say them: what a caller holds, what any run of calls leads to, and the clauses that stand in the buffer.
use Rattle.std.specs.Prelude.{List, [], ◌∷◌, ◌++◌, ℕ, zero, suc, ◌*◌, take, ℤ, pos, negsuc}
use Rattle.rules.specs.declared.State.{State}
use Rattle.rules.specs.Numbers.{record_words}
use Rattle.rules.specs.Start.{StartEnd, start}
use Rattle.rules.specs.Precision.{set_precision}
use Rattle.rules.specs.Encode.{EncodeEnd, encode_ub_change}

-- what a caller holds between calls
pub record Memory : Type 0 where
  pub state : State
  pub store : List ℕ
  pub clauses : List ℤ

-- what start leaves
unfoldable pub started : List ℤ → List ℕ → ℕ → List ℕ → List ℤ → Memory
unfolding start
started xs ws first store clauses =
    let e : StartEnd = start xs ws first store clauses in
    record { state = e.answer.state; store = e.store; clauses = e.clauses }

-- what a set leaves, accepted or refused
unfoldable pub set_call : Memory → ℕ → Memory
unfolding set_precision
set_call m d = record { state = (set_precision m.state m.store m.clauses d).state; store = m.store; clauses = m.clauses }

-- what an encode leaves, accepted or refused
unfoldable pub encode_call : Memory → List ℕ → ℕ → ℕ → Memory
unfolding encode_ub_change
encode_call m work lo end =
    let e : EncodeEnd = encode_ub_change m.state m.store m.clauses work lo end in
    record { state = e.answer.state; store = e.store; clauses = e.clauses }

-- the used words lent again before other words
unfoldable pub lend_anew : Memory → List ℕ → List ℤ → Memory
lend_anew m words signed = record {
  state = m.state;
  store = take (record_words * m.state.records) m.store ++ words;
  clauses = take m.state.words m.clauses ++ signed;
}

-- what calls lead to from m: sets and encodes, accepted or refused, the used words moved to other slices between them
pub data Run (m : Memory) : Memory → Type 0 where
  none_yet : Run m m
  next_set : {n : Memory} (d : ℕ) → Run m n → Run m (set_call n d)
  next_encode : {n : Memory} (work : List ℕ) (lo end : ℕ) → Run m n → Run m (encode_call n work lo end)
  next_lend : {n : Memory} (words : List ℕ) (signed : List ℤ) → Run m n → Run m (lend_anew n words signed)

-- the clauses of a list of words: each ends with 0
unfoldable pub clauses_from : List ℤ → List ℤ → List (List ℤ)
clauses_from c [] = []
clauses_from c (pos zero ∷ ws) = c ∷ clauses_from [] ws
clauses_from c (pos (suc n) ∷ ws) = clauses_from (c ++ (pos (suc n) ∷ [])) ws
clauses_from c (negsuc n ∷ ws) = clauses_from (c ++ (negsuc n ∷ [])) ws

-- the clauses in the buffer, up to the mark
unfoldable pub clauses_in : Memory → List (List ℤ)
unfolding clauses_from
clauses_in m = clauses_from [] (take m.state.words m.clauses)
