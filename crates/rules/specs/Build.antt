-- A build, and the state and store that hold it.
use Rattle.std.specs.Prelude.{Bool, true, false, not, List, [], ◌∷◌, ◌++◌, map, ℕ, ◌+◌, ◌-◌, ◌^◌, max, eqb, length, get_or, take, ℤ, pos}
use Rattle.rules.specs.declared.State.{State}
use Rattle.rules.specs.Lists.{keep, padded}
use Rattle.rules.specs.Numbers.{most_tares, most_buckets}
use Rattle.rules.specs.Records.{Node, Entry, Record, waiting, waits, entries, records_of, node_at}
use Rattle.rules.specs.Totalizer.{Arena}

-- A build. `first` is its first fresh number; `built` is 0 until the first build; `tares` stand lowest power first, `buckets` root first.
-- `arena` has the nodes and outputs, the next fresh number and the clauses that were written since the build was read;
-- `clauses_before` and `words_before` count the earlier ones.
pub record Build : Type 0 where
  pub inputs : ℕ
  pub sum : ℕ
  pub first : ℕ
  pub set : ℕ
  pub built : ℕ
  pub tares : List ℕ
  pub buckets : List ℕ
  pub queue : List Entry
  pub arena : Arena
  pub clauses_before : ℕ
  pub words_before : ℕ

-- all records: nodes and outputs as they were made, then the waiting entries
unfoldable pub records : Build → List Record
records b = b.arena.records ++ map waiting b.queue

-- the words of clauses: each clause, then 0
unfoldable pub clause_words : List (List ℤ) → List ℤ
clause_words [] = []
clause_words (c ∷ cs) = c ++ (pos 0 ∷ clause_words cs)

-- clauses in all
unfoldable pub clause_total : Build → ℕ
clause_total b = b.clauses_before + length b.arena.clauses

-- the clause mark: the words that the clauses take
unfoldable pub clause_mark : Build → ℕ
unfolding clause_words
clause_mark b = b.words_before + length (clause_words b.arena.clauses)

-- fresh variables in all: the numbers taken
unfoldable pub variable_total : Build → ℕ
variable_total b = b.arena.fresh - b.first

-- the state that holds a build
unfoldable pub state_of : Build → State
unfolding records clause_total clause_mark variable_total padded
state_of b = record {
  inputs = b.inputs;
  sum = b.sum;
  set = b.set;
  built = b.built;
  records = length (records b);
  words = clause_mark b;
  clauses = clause_total b;
  variables = variable_total b;
  fresh = b.arena.fresh;
  tares = padded 0 most_tares b.tares;
  tares_used = length b.tares;
  buckets = padded 0 most_buckets b.buckets;
  buckets_used = length b.buckets;
}

-- the used tares
unfoldable pub tares_of : State → List ℕ
tares_of s = take s.tares_used s.tares

-- the used buckets
unfoldable pub buckets_of : State → List ℕ
buckets_of s = take s.buckets_used s.buckets

-- the records that a state and a store hold
unfoldable pub held : State → List ℕ → List Record
unfolding records_of
held s store = records_of store s.records

-- the build of a state and its records
unfoldable pub build_over : State → List Record → Build
unfolding keep waits entries tares_of buckets_of
build_over s rs = record {
  inputs = s.inputs;
  sum = s.sum;
  first = s.fresh - s.variables;
  set = s.set;
  built = s.built;
  tares = tares_of s;
  buckets = buckets_of s;
  queue = entries rs;
  arena = record { records = keep (λ r. not (waits r)) rs; fresh = s.fresh; clauses = [] };
  clauses_before = s.clauses;
  words_before = s.words;
}

-- the build that a state and a store hold
unfoldable pub build_of : State → List ℕ → Build
unfolding build_over held
build_of s store = build_over s (held s store)

-- the build with another structure: built divisor, tares, buckets, what waits, arena
unfoldable pub restructured : Build → ℕ → List ℕ → List ℕ → List Entry → Arena → Build
restructured b built tares buckets queue arena = record {
  inputs = b.inputs;
  sum = b.sum;
  first = b.first;
  set = b.set;
  built = built;
  tares = tares;
  buckets = buckets;
  queue = queue;
  arena = arena;
  clauses_before = b.clauses_before;
  words_before = b.words_before;
}

-- the build with another arena
unfoldable pub with_arena : Build → Arena → Build
unfolding restructured
with_arena b arena = restructured b b.built b.tares b.buckets b.queue arena

-- not built: the built divisor is 0
unfoldable pub unbuilt : Build → Bool
unbuilt b = eqb b.built 0

-- output weight W is 2 to the number of tares
unfoldable pub output_weight : Build → ℕ
output_weight b = 2 ^ length b.tares

-- the root is the first bucket
unfoldable pub root : Build → ℕ
root b = get_or b.buckets 0 0

-- the root as a node
unfoldable pub root_node : Build → Node
unfolding root node_at
root_node b = node_at b.arena.records (root b)

-- the largest waiting weight, 0 where nothing waits
unfoldable pub largest : List Entry → ℕ
largest [] = 0
largest (e ∷ es) = max e.weight (largest es)

-- something waits
unfoldable pub some_wait : List Entry → Bool
some_wait [] = false
some_wait (e ∷ es) = true
