-- What well formed says, as plain facts: the clauses of its paragraph as fields, over nodes by place.
use Rattle.std.specs.Prelude.{◌≡◌, ◌≢◌, ◌⊎◌, Bool, true, false, not, List, [], ◌∷◌, ◌++◌, map, ℕ, suc, ◌+◌, ◌*◌, ◌^◌, ◌≤◌, ◌<◌, max, length, ℤ}
use Rattle.rules.specs.declared.State.{State}
use Rattle.rules.specs.Lists.{total, rising, padded}
use Rattle.rules.specs.Numbers.{lawful, capacity}
use Rattle.rules.specs.Digits.{top_bit}
use Rattle.rules.specs.Records.{leaf, join, dummy, Node, Output, Entry, Record, waits, node_at, left_link, outputs}
use Rattle.rules.specs.Totalizer.{counts}
use Rattle.rules.specs.Build.{Build, records, clause_total, clause_mark, some_wait, tares_of, buckets_of, held, build_over, build_of}
use Rattle.rules.specs.WellFormed.{known, variable_of, above}
use Rattle.laws.specs.Lists.Facts.{All, occurs}
use Rattle.laws.specs.Records.Places.{place}

-- a node by the totalizer rule among the nodes `at`, its links nodes, its literal lawful, its maximum at most 513
pub record Ruled (at : ℕ → Node) (place : ℕ → Bool) (nd : Node) : Type 0 where
  pub links_are : (half : Bool) (l r : ℕ) → nd.kind ≡ join half l r → (place l ≡ true) × (place r ≡ true)
  pub height_is : (half : Bool) (l r : ℕ) → nd.kind ≡ join half l r → nd.height ≡ suc (max (at l).height (at r).height)
  pub maximum_is : (half : Bool) (l r : ℕ) → nd.kind ≡ join half l r → nd.maximum ≡ (at l).maximum + counts half (at r).maximum
  pub leaf_is : (x : ℤ) → nd.kind ≡ leaf x → (lawful x ≡ true) × (nd.maximum ≡ 1) × (nd.height ≡ 0)
  pub dummy_is : nd.kind ≡ dummy → (nd.maximum ≡ 0) × (nd.height ≡ 0)
  pub within : nd.maximum ≤ 513

-- every node is
abbrev pub Sound : (ℕ → Node) → (ℕ → Bool) → Type 0
Sound at place = (n : ℕ) → Ruled at place (at n)

-- an output of a node that is no leaf, its value 1 to the maximum
pub record Valued (at : ℕ → Node) (place : ℕ → Bool) (o : Output) : Type 0 where
  pub named : place o.node ≡ true
  pub no_leaf : (x : ℤ) → (at o.node).kind ≢ leaf x
  pub low : 1 ≤ o.value
  pub high : o.value ≤ (at o.node).maximum

-- numbers rise, the first at least `low`
abbrev pub Rise : ℕ → List Output → Type 0
Rise low [] = Unit {0}
Rise low (o ∷ os) = (low ≤ o.number) × Rise (suc o.number) os

-- no node and value twice
abbrev pub Differ : List Output → Type 0
Differ [] = Unit {0}
Differ (o ∷ os) = All (λ p. o.node ≡ p.node → o.value ≡ p.value → ⊥) os × Differ os

-- the defined outputs
pub record Defined (at : ℕ → Node) (place : ℕ → Bool) (os : List Output) : Type 0 where
  pub valued : All (Valued at place) os
  pub rise : Rise 0 os
  pub differ : Differ os

-- the input variables
abbrev pub variables_of : (ℕ → Node) → ℕ → List ℕ
variables_of at inputs = map (λ (i : ℕ). variable_of (at i).kind) (rising inputs 0)

-- output and tare numbers: distinct, above every input variable, below the next fresh one
pub record Taken (variables : List ℕ) (fresh : ℕ) (numbers : List ℕ) : Type 0 where
  pub once : (n : ℕ) → occurs n numbers ≤ 1
  pub above_inputs : All (λ n. All (λ v. v < n) variables) numbers
  pub below_fresh : All (λ n. n < fresh) numbers

-- the waiting entries: at most 256, their maxima adding to at most 256, weights 1 to 1,048,575
pub record Waits (at : ℕ → Node) (place : ℕ → Bool) (q : List Entry) : Type 0 where
  pub nodes_wait : All (λ e. place e.node ≡ true) q
  pub few : length q ≤ 256
  pub maxima_few : total (map (λ (e : Entry). (at e.node).maximum) q) ≤ 256
  pub weights : All (λ e. (1 ≤ e.weight) × (e.weight ≤ 1048575)) q

-- no link but that of the bucket above names a bucket
abbrev pub Spares : (ℕ → Node) → List ℕ → Type 0
Spares at buckets =
    (i : ℕ) (half : Bool) (l r : ℕ) → (at i).kind ≡ join half l r →
    (occurs l buckets ≡ 0) × ((occurs r buckets ≡ 0) ⊎ (above buckets i r ≡ true))

-- the last bucket is linked, halved, to a dummy exactly if something waits
abbrev pub Ends : (ℕ → Node) → Bool → ℕ → Type 0
Ends at true b = (l : ℕ) × (r : ℕ) × ((at b).kind ≡ join true l r) × ((at r).kind ≡ dummy)
Ends at false b = (half : Bool) × (l : ℕ) × (r : ℕ) × ((at b).kind ≡ join half l r) × ((at r).kind ≢ dummy)

-- each bucket but the last is linked, halved, to the next
abbrev pub Linked : (ℕ → Node) → Bool → List ℕ → Type 0
Linked at wait [] = Unit {0}
Linked at wait (b ∷ []) = Ends at wait b
Linked at wait (b ∷ c ∷ bs) = ((l : ℕ) × ((at b).kind ≡ join true l c)) × Linked at wait (c ∷ bs)

-- what built means
pub record Built (b : Build) : Type 0 where
  pub two : 2 ≤ b.inputs
  pub power : b.built ≡ 2 ^ top_bit b.built
  pub coarser : b.set ≤ b.built
  pub times_weight : b.built * 2 ^ length b.tares ≤ 524288
  pub some : 1 ≤ length b.buckets
  pub few : length b.buckets ≤ suc (length b.tares)
  pub linked : Linked (node_at b.arena.records) (some_wait b.queue) b.buckets
  pub lefts : All (λ n. (node_at b.arena.records (left_link (node_at b.arena.records n).kind)).maximum ≤ 257) b.buckets
  pub below_built : All (λ e. e.weight < b.built) b.queue

-- what unbuilt means
pub record Unbuilt (b : Build) : Type 0 where
  pub no_tare : b.tares ≡ []
  pub no_bucket : b.buckets ≡ []
  pub count : length b.queue ≡ b.inputs
  pub each_waits : (i : ℕ) → i < b.inputs → 1 ≤ occurs i (map (λ (e : Entry). e.node) b.queue)
  pub sum_is : total (map (λ (e : Entry). e.weight) b.queue) ≡ b.sum

-- a build that is well formed
pub record Formed (b : Build) : Type 0 where
  pub all_known : All (λ r. known r ≡ true) b.arena.records
  pub none_waits : All (λ r. not (waits r) ≡ true) b.arena.records
  pub first_low : 1 ≤ b.first
  pub first_high : b.first ≤ b.arena.fresh
  pub fresh_few : b.arena.fresh ≤ 1000000001
  pub clauses_few : clause_total b ≤ clause_mark b
  pub inputs_few : b.inputs ≤ 256
  pub inputs_first : (i : ℕ) → i < b.inputs → (x : ℤ) × ((node_at b.arena.records i).kind ≡ leaf x)
  pub sound : Sound (node_at b.arena.records) (place b.arena.records)
  pub defined : Defined (node_at b.arena.records) (place b.arena.records) (outputs b.arena.records)
  pub taken : Taken (variables_of (node_at b.arena.records) b.inputs) b.arena.fresh
      (map (λ (o : Output). o.number) (outputs b.arena.records) ++ b.tares)
  pub waiting_are : Waits (node_at b.arena.records) (place b.arena.records) b.queue
  pub spares : Spares (node_at b.arena.records) b.buckets
  pub entries_spare : All (λ e. occurs e.node b.buckets ≡ 0) b.queue
  pub set_power : b.set ≡ 2 ^ top_bit b.set
  pub if_unbuilt : b.built ≡ 0 → Unbuilt b
  pub if_built : b.built ≢ 0 → Built b

-- a state and its records are those of a build: unused slots are 0, the waiting entries stand last
pub record Laid (s : State) (rs : List Record) : Type 0 where
  pub tares_few : s.tares_used ≤ 19
  pub tares_laid : padded 0 19 (tares_of s) ≡ s.tares
  pub buckets_few : s.buckets_used ≤ 20
  pub buckets_laid : padded 0 20 (buckets_of s) ≡ s.buckets
  pub variables_few : s.variables < s.fresh
  pub waiting_last : rs ≡ records (build_over s rs)

-- a state and store that are well formed
pub record WellFormed (s : State) (store : List ℕ) (clauses : List ℤ) : Type 0 where
  pub records_within : s.records ≤ capacity store
  pub words_within : s.words ≤ length clauses
  pub laid : Laid s (held s store)
  pub formed : Formed (build_of s store)
