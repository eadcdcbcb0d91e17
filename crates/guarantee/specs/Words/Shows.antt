-- Memory that shows a build: the state, the records and the clauses stand in its words.
use Rattle.std.specs.Prelude.{◌≡◌, refl, not, List, [], ◌∷◌, ◌++◌, ℕ, ◌+◌, ◌*◌, ◌-◌, length, take, ℤ, pos}
use Rattle.std.proofs.Common.{sym, ap₂, ◌∙◌, append_assoc, append-nil, arith, length-append, take_at}
use Rattle.std.proofs.Math.Path.{ap}
use Rattle.rules.specs.declared.State.{State}
use Rattle.rules.specs.Lists.{padded}
use Rattle.rules.specs.Numbers.{record_words}
use Rattle.rules.specs.Records.{waits, image_of}
use Rattle.rules.specs.Build.{Build, restructured, with_arena, records, clause_words, clause_total, clause_mark, variable_total, state_of, build_of}
use Rattle.rules.specs.Encode.{encode}
use Rattle.laws.specs.Records.Words.{image_length, settled, read, read_back}
use Rattle.laws.specs.Encode.Appends.{after, earlier, encode_after, recounted, encode_recounted}
use Rattle.laws.specs.Lists.Facts.{facts_all}
use Rattle.laws.specs.WellFormed.Plain.{Formed}
use Rattle.guarantee.specs.Calls.{Memory}

-- m holds the build b, which lists all its clauses
pub record Shows (m : Memory) (b : Build) : Type 0 where
  pub state_is : m.state ≡ state_of b
  pub no_clauses : b.clauses_before ≡ 0
  pub no_words : b.words_before ≡ 0
  pub rest : List ℕ
  pub store_is : m.store ≡ image_of (records b) ++ rest
  pub signed_rest : List ℤ
  pub clauses_is : m.clauses ≡ clause_words b.arena.clauses ++ signed_rest

-- the build without its clauses
unfoldable pub bare : Build → Build
unfolding with_arena
bare b = with_arena b (record { records = b.arena.records; fresh = b.arena.fresh; clauses = [] })

pub bare_earlier : (b : Build) → earlier b.arena.clauses (bare b) ≡ b
unfolding bare earlier after with_arena restructured
bare_earlier b = ap (λ (cs : List (List ℤ)). with_arena b (record { records = b.arena.records; fresh = b.arena.fresh; clauses = cs })) (append-nil b.arena.clauses)

-- what is read from the words is the build with its clauses counted
pub shows_read : (m : Memory) (b : Build) → Shows m b → Formed b → build_of m.state m.store ≡ recounted (clause_total b) (clause_mark b) (bare b)
unfolding settled read bare recounted with_arena restructured
shows_read m b s f =
    ap₂ (λ (st : State) (ws : List ℕ). build_of st ws) s.state_is s.store_is ∙
    read_back b s.rest (facts_all (λ r. not (waits r)) (λ r h. h) b.arena.records f.none_waits) f.first_high

pub words_append : (cs ds : List (List ℤ)) → clause_words (cs ++ ds) ≡ clause_words cs ++ clause_words ds
unfolding clause_words
words_append [] ds = refl
words_append (c ∷ cs) ds = ap (λ (xs : List ℤ). c ++ (pos 0 ∷ xs)) (words_append cs ds) ∙ sym (append_assoc c (pos 0 ∷ clause_words cs) (clause_words ds))

-- a build with its earlier clauses counted, or listed, is held alike
pub recounted_state : (b e : Build) → b.clauses_before ≡ 0 → b.words_before ≡ 0 → e.clauses_before ≡ 0 → e.words_before ≡ 0 →
    state_of (recounted (clause_total b) (clause_mark b) e) ≡ state_of (earlier b.arena.clauses e)
unfolding state_of recounted earlier after with_arena restructured records clause_total clause_mark variable_total
recounted_state b e c₀ w₀ c₁ w₁ =
    let cs : List (List ℤ) = b.arena.clauses in
    let ds : List (List ℤ) = e.arena.clauses in
    let words : b.words_before + length (clause_words cs) + length (clause_words ds) ≡ e.words_before + length (clause_words (cs ++ ds)) =
    omega (arith, w₀, w₁, ap length (words_append cs ds), length-append (clause_words cs) (clause_words ds)) in
    let count : b.clauses_before + length cs + length ds ≡ e.clauses_before + length (cs ++ ds) = omega (arith, c₀, c₁, length-append cs ds) in
    ap₂ (λ (w c : ℕ). record {
      inputs = e.inputs;
      sum = e.sum;
      set = e.set;
      built = e.built;
      records = length (records e);
      words = w;
      clauses = c;
      variables = e.arena.fresh - e.first;
      fresh = e.arena.fresh;
      tares = padded 0 19 e.tares;
      tares_used = length e.tares;
      buckets = padded 0 20 e.buckets;
      buckets_used = length e.buckets;
    }) words count

-- encode keeps the counts that it was given
pub counts_kept : (b : Build) (lo end : ℕ) → b.clauses_before ≡ 0 → b.words_before ≡ 0 → ((encode b lo end).clauses_before ≡ 0) × ((encode b lo end).words_before ≡ 0)
unfolding recounted
counts_kept b lo end c₀ w₀ =
    let same : recounted 0 0 b ≡ b = ap₂ (λ (n m : ℕ). recounted n m b) (sym c₀) (sym w₀) in
    let e : encode b lo end ≡ recounted 0 0 (encode b lo end) = ap (λ (x : Build). encode x lo end) (sym same) ∙ encode_recounted 0 0 b lo end in
    (ap (λ (x : Build). x.clauses_before) e, ap (λ (x : Build). x.words_before) e)

-- what encode makes of the build that was read, and of the one that lists its clauses
module _ (b : Build) (lo end : ℕ) where
  unfoldable pub fresh_part : Build
  fresh_part = encode (bare b) lo end

  pub encode_listed : encode b lo end ≡ earlier b.arena.clauses fresh_part
  unfolding fresh_part
  encode_listed = ap (λ (x : Build). encode x lo end) (sym (bare_earlier b)) ∙ encode_after b.arena.clauses (bare b) lo end

  pub encode_counted : encode (recounted (clause_total b) (clause_mark b) (bare b)) lo end ≡ recounted (clause_total b) (clause_mark b) fresh_part
  unfolding fresh_part
  encode_counted = encode_recounted (clause_total b) (clause_mark b) (bare b) lo end

pub front_words : (m : Memory) (b : Build) → Shows m b → take (record_words * m.state.records) m.store ≡ image_of (records b)
unfolding state_of
front_words m b s =
    ap₂ (λ (st : State) (ws : List ℕ). take (8 * st.records) ws) s.state_is s.store_is ∙ take_at (image_of (records b)) s.rest (8 * length (records b)) (image_length (records b))

pub front_clauses : (m : Memory) (b : Build) → Shows m b → take m.state.words m.clauses ≡ clause_words b.arena.clauses
unfolding state_of clause_mark
front_clauses m b s =
    let whole : length (clause_words b.arena.clauses) ≡ b.words_before + length (clause_words b.arena.clauses) = omega (arith, s.no_words) in
    ap₂ (λ (st : State) (ws : List ℤ). take st.words ws) s.state_is s.clauses_is ∙ take_at (clause_words b.arena.clauses) s.signed_rest _ whole

-- the used words, with anything after them
pub kept_shows : (m n : Memory) (b : Build) → Shows m b → n.state ≡ m.state → (words : List ℕ) → n.store ≡ take (record_words * m.state.records) m.store ++ words →
    (signed : List ℤ) → n.clauses ≡ take m.state.words m.clauses ++ signed → Shows n b
kept_shows m n b s e words ew signed es = record {
  state_is = e ∙ s.state_is;
  no_clauses = s.no_clauses;
  no_words = s.no_words;
  rest = words;
  store_is = ew ∙ ap (λ (xs : List ℕ). xs ++ words) (front_words m b s);
  signed_rest = signed;
  clauses_is = es ∙ ap (λ (xs : List ℤ). xs ++ signed) (front_clauses m b s);
}
