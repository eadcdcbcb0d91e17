-- Well formed as the test of document 01 and as plain facts, each giving the other; the state of a build that was read.
use Rattle.std.specs.Prelude.{◌≡◌, refl, true, List, ℕ, zero, suc, ◌+◌, ◌*◌, ◌-◌, ◌/◌, ◌≤◌, ◌<◌, min, leb, length, take, replicate, ℤ}
use Rattle.std.proofs.Common.{sym, ◌∙◌, ap, ap₂, subst, arith, leb-true, le-leb}
use Rattle.rules.specs.declared.State.{State}
use Rattle.rules.specs.Lists.{all, padded}
use Rattle.rules.specs.Numbers.{capacity}
use Rattle.rules.specs.Records.{Record, records_of, image_of}
use Rattle.rules.specs.Build.{Build, records, clause_total, clause_mark, clause_words, variable_total, state_of, tares_of, buckets_of, held, build_over, build_of}
use Rattle.rules.specs.WellFormed.{marks_within, clauses_over, well_formed_clauses, well_formed}
use Rattle.laws.specs.Records.Words.{both, image_length, records_of_image}
use Rattle.laws.specs.Lists.Facts.{and_true}
use Rattle.laws.specs.WellFormed.Plain.{Formed, Laid, WellFormed}
use Rattle.laws.specs.WellFormed.ToPlain.{laid_of, formed_of, padded_length, slots_count}
use Rattle.laws.specs.WellFormed.ToClauses.{clauses_of}

-- as many records are read as are asked for
pub records_length : (ws : List ℕ) (n : ℕ) → length (records_of ws n) ≡ n
unfolding records_of
records_length ws zero = refl
records_length ws (suc n) = ap suc (records_length _ n)

-- a state by what reading and writing change
pub stated : State → ℕ → ℕ → ℕ → ℕ → List ℕ → ℕ → List ℕ → ℕ → State
stated s records words clauses variables tares used_tares buckets buckets-used = record {
  inputs = s.inputs;
  sum = s.sum;
  set = s.set;
  built = s.built;
  records = records;
  words = words;
  clauses = clauses;
  variables = variables;
  fresh = s.fresh;
  tares = tares;
  tares_used = used_tares;
  buckets = buckets;
  buckets_used = buckets-used;
}

-- the build that was read gives back its state
pub state_back : (s : State) (rs : List Record) → Laid s rs → length rs ≡ s.records → state_of (build_over s rs) ≡ s
unfolding state_of build_over clause_mark clause_total clause_words variable_total tares_of buckets_of stated
state_back s rs l count =
    let few : s.variables < s.fresh = l.variables_few in
    let tares : length (take s.tares_used s.tares) ≡ s.tares_used =
    slots_count 19 s.tares_used s.tares l.tares_few l.tares_laid in
    let buckets : length (take s.buckets_used s.buckets) ≡ s.buckets_used =
    slots_count 20 s.buckets_used s.buckets l.buckets_few l.buckets_laid in
    ap (λ (k : ℕ). stated s k (s.words + 0) (s.clauses + 0) (s.fresh - (s.fresh - s.variables)) (padded 0 19 (tares_of s))
    (length (tares_of s)) (padded 0 20 (buckets_of s)) (length (buckets_of s))) (ap length (sym l.waiting_last) ∙ count) ∙
    (ap₂ (λ (k m : ℕ). stated s s.records k m (s.fresh - (s.fresh - s.variables)) (padded 0 19 (tares_of s)) (length (tares_of s))
    (padded 0 20 (buckets_of s)) (length (buckets_of s))) {x = s.words + 0} {y = s.words} {u = s.clauses + 0} {v = s.clauses}
    (omega arith) (omega arith) ∙
    (ap₂ (λ (k : ℕ) (t : List ℕ). stated s s.records s.words s.clauses k t (length (tares_of s)) (padded 0 20 (buckets_of s))
    (length (buckets_of s))) {x = s.fresh - (s.fresh - s.variables)} {y = s.variables} (omega arith) l.tares_laid ∙
    (ap₂ (λ (k : ℕ) (t : List ℕ). stated s s.records s.words s.clauses s.variables s.tares k t (length (buckets_of s))) tares
    l.buckets_laid ∙
    ap (λ (k : ℕ). stated s s.records s.words s.clauses s.variables s.tares s.tares_used s.buckets k) buckets)))

-- the test gives the facts
pub well_formed_facts : (s : State) (store : List ℕ) (clauses : List ℤ) → well_formed s store clauses ≡ true → WellFormed s store clauses
unfolding well_formed well_formed_clauses all marks_within build_of
well_formed_facts s store clauses e =
    let (marks, rest) = both (marks_within s store clauses) (all (λ c. c) (clauses_over s (held s store))) e in
    let (records, words) = both (leb s.records (capacity store)) (leb s.words (length clauses)) marks in
    record {
      records_within = leb-true _ _ records;
      words_within = leb-true _ _ words;
      laid = laid_of s (held s store) rest;
      formed = formed_of s (held s store) rest;
    }

-- and the facts the test
pub facts_well_formed : (s : State) (store : List ℕ) (clauses : List ℤ) → WellFormed s store clauses → well_formed s store clauses ≡ true
unfolding well_formed well_formed_clauses all marks_within build_of held
facts_well_formed s store clauses w =
    and_true (and_true (le-leb _ _ w.records_within) (le-leb _ _ w.words_within))
    (subst (λ (t : State). all (λ c. c) (clauses_over t (held s store)) ≡ true)
    (state_back s (held s store) w.laid (records_length store s.records))
    (subst (λ (rs : List Record). all (λ c. c) (clauses_over (state_of (build_of s store)) rs) ≡ true) (sym w.laid.waiting_last)
    (clauses_of (build_of s store) w.formed)))

-- a build that was written with room enough is well formed as state and store
pub written : (b : Build) (store : List ℕ) (clauses : List ℤ) → Formed b → length (records b) ≤ capacity store →
    clause_mark b ≤ length clauses →
    well_formed (state_of b) (padded 0 (length store) (image_of (records b))) clauses ≡ true
unfolding well_formed well_formed_clauses all marks_within held state_of capacity padded
written b store clauses f room words =
    let rs : List Record = records b in
    let image : length (image_of rs) ≡ 8 * length rs = image_length rs in
    let whole : length (padded 0 (length store) (image_of rs)) ≡ length (image_of rs) + (length store - length (image_of rs)) =
    padded_length 0 (length store) (image_of rs) in
    let fits : length rs ≤ min (length store / 8) 4294967296 = room in
    and_true (and_true (le-leb (length rs) (min (length (padded 0 (length store) (image_of rs)) / 8) 4294967296) (omega arith)) (le-leb _ _ words))
    (ap (λ (t : List Record). all (λ c. c) (clauses_over (state_of b) t))
    (records_of_image rs (replicate (length store - length (image_of rs)) 0)) ∙ clauses_of b f)
