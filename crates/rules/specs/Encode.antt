-- Encode: the state it reaches, what it refuses, and what each lent word holds afterwards.
use Rattle.std.specs.Prelude.{Bool, true, false, not, ◌&&◌, ◌||◌, List, [], ◌∷◌, ◌++◌, ℕ, zero, suc, ◌*◌, ◌-◌, ◌/◌, min, leb, ltb, eqb, length, take, replicate, ℤ, pos}
use Rattle.rules.specs.declared.State.{State}
use Rattle.rules.specs.declared.Encoded.{Encoded}
use Rattle.rules.specs.Lists.{in_turn, rising, padded}
use Rattle.rules.specs.Numbers.{most_variable, work_words, record_words, capacity}
use Rattle.rules.specs.Refusals.{first_true, answer_of}
use Rattle.rules.specs.Records.{image_of}
use Rattle.rules.specs.Totalizer.{define_output}
use Rattle.rules.specs.Build.{Build, with_arena, records, clause_words, clause_mark, state_of, build_of, unbuilt, output_weight, root, root_node, largest}
use Rattle.rules.specs.Buckets.{build_structure}
use Rattle.rules.specs.Refinement.{due, merge_structures}
use Rattle.rules.specs.WellFormed.{not_well_formed}

-- the first build where there is none, refinement where it is due
unfoldable pub prepared : Build → Build
unfolding unbuilt build_structure due merge_structures
prepared b =
    elim (unbuilt b) [
      | true ↦ build_structure b
      | false ↦ elim (due b) [ true ↦ merge_structures b | false ↦ b ]
    ]

-- root outputs lo/W + 1 to (end-1)/W + 1, those above the maximum skipped
unfoldable pub root_values : Build → ℕ → ℕ → List ℕ
unfolding rising output_weight root_node
root_values b lo end =
    let w : ℕ = output_weight b in
    rising (min (suc ((end - 1) / w)) (root_node b).maximum - lo / w) (suc (lo / w))

-- encode defines them
unfoldable pub encode_outputs : Build → ℕ → ℕ → Build
unfolding with_arena in_turn define_output root root_values
encode_outputs b lo end = with_arena b (in_turn (λ s v. define_output s (root b) v) b.arena (root_values b lo end))

-- empty range or under two inputs is accepted with nothing done
unfoldable pub nothing_asked : Build → ℕ → ℕ → Bool
nothing_asked b lo end = leb end lo || ltb b.inputs 2

-- the build that encode reaches, with room unlimited
unfoldable pub encode : Build → ℕ → ℕ → Build
unfolding nothing_asked prepared encode_outputs
encode b lo end =
    elim (nothing_asked b lo end) [
      | true ↦ b
      | false ↦ encode_outputs (prepared b) lo end
    ]

-- nothing was built, refined or defined
unfoldable pub nothing_done : Build → Build → Bool
nothing_done b c = eqb b.built c.built && eqb b.arena.fresh c.arena.fresh

-- 6: work slice shorter than 16,384
unfoldable pub work_short : List ℕ → Bool
work_short work = ltb (length work) work_words

-- 10: first build with the divisor above every weight
unfoldable pub divisor_above : Build → Bool
unfolding unbuilt largest
divisor_above b = unbuilt b && ltb (largest b.queue) b.set

-- 7: encode, if the state it would reach needs more records, more clause words, or a variable above 1,000,000,000
unfoldable pub no_room : Build → List ℕ → List ℤ → Bool
unfolding capacity records clause_mark
no_room c store clauses =
    ltb (capacity store) (length (records c)) || ltb (length clauses) (clause_mark c) || ltb (suc most_variable) c.arena.fresh

-- encode: 12 first; 6; empty range or under two inputs is accepted; 10; 7
unfoldable pub encode_refusal : State → List ℕ → List ℤ → List ℕ → ℕ → ℕ → ℕ
unfolding first_true not_well_formed work_short build_of nothing_asked divisor_above no_room encode
encode_refusal s store clauses work lo end =
    let b : Build = build_of s store in
    first_true (
    (12, not_well_formed s store clauses) ∷
    (6, work_short work) ∷
    (10, not (nothing_asked b lo end) && divisor_above b) ∷
    (7, no_room (encode b lo end) store clauses) ∷ [])

-- what encode answers, and what the store, the clause buffer and the work slice hold afterwards
pub record EncodeEnd : Type 0 where
  pub answer : Encoded
  pub store : List ℕ
  pub clauses : List ℤ
  pub work : List ℕ

-- the totals beside an answer are those of its state
unfoldable pub encoded : ℕ → State → Encoded
unfolding answer_of
encoded n s = record { answer = answer_of n; clauses = s.clauses; variables = s.variables; state = s }

-- nothing is written
unfoldable pub untouched : ℕ → State → List ℕ → List ℤ → List ℕ → EncodeEnd
unfolding encoded
untouched n s store clauses work = record { answer = encoded n s; store = store; clauses = clauses; work = work }

-- 7 leaves used words unchanged and zeroes the work slice and all words of store and clause buffer past the old marks
unfoldable pub no_room_end : State → List ℕ → List ℤ → List ℕ → EncodeEnd
unfolding encoded padded
no_room_end s store clauses work = record {
  answer = encoded 7 s;
  store = padded 0 (length store) (take (record_words * s.records) store);
  clauses = padded (pos 0) (length clauses) (take s.words clauses);
  work = replicate (length work) 0;
}

-- an encode that builds, refines or defines zeroes the work slice and all past the new marks
unfoldable pub encoded_end : State → Build → List ℕ → List ℤ → List ℕ → EncodeEnd
unfolding encoded padded state_of image_of records clause_words
encoded_end s c store clauses work = record {
  answer = encoded 0 (state_of c);
  store = padded 0 (length store) (image_of (records c));
  clauses = padded (pos 0) (length clauses) (take s.words clauses ++ clause_words c.arena.clauses);
  work = replicate (length work) 0;
}

-- what each refusal, and an encode with nothing to do, leaves
unfoldable pub encode_end : ℕ → State → Build → Build → List ℕ → List ℤ → List ℕ → EncodeEnd
unfolding untouched no_room_end encoded_end nothing_done
encode_end zero s b c store clauses work =
    elim (nothing_done b c) [ true ↦ untouched 0 s store clauses work | false ↦ encoded_end s c store clauses work ]
encode_end (suc n) s b c store clauses work =
    elim (eqb (suc n) 7) [ true ↦ no_room_end s store clauses work | false ↦ untouched (suc n) s store clauses work ]

-- encode_ub_change
unfoldable pub encode_ub_change : State → List ℕ → List ℤ → List ℕ → ℕ → ℕ → EncodeEnd
unfolding encode_refusal encode_end build_of encode
encode_ub_change s store clauses work lo end =
    let b : Build = build_of s store in
    encode_end (encode_refusal s store clauses work lo end) s b (encode b lo end) store clauses work
