-- "Buckets and tares": the first build.
use Rattle.std.specs.Prelude.{Bool, true, false, List, [], ◌∷◌, ◌++◌, ℕ, ◌+◌, ◌-◌, ltb, length, drop, pos}
use Rattle.rules.specs.Lists.{sort, rising}
use Rattle.rules.specs.Digits.{digits, top_bit}
use Rattle.rules.specs.Records.{Record, node_at, leaf_node, dummy_node}
use Rattle.rules.specs.Totalizer.{joining, add, merge}
use Rattle.rules.specs.Build.{Build, restructured, largest, some_wait}
use Rattle.rules.specs.Queue.{Sorting, gathered}

-- the tare, a leaf made for it, joins its bucket last; a bucket may have none
unfoldable pub with_tare : List Record → List ℕ → List ℕ → List Record × List ℕ
unfolding add leaf_node
with_tare rs [] members = (rs, members)
with_tare rs (tare ∷ tares) members =
    let (rs₁, t) = add rs (leaf_node (pos tare)) in
    (rs₁, members ++ (t ∷ []))

-- members are sorted by maximum
unfoldable pub lower : List Record → ℕ → ℕ → Bool
unfolding node_at
lower rs m x = ltb (node_at rs m).maximum (node_at rs x).maximum

-- each next bucket is joined with the one below, halved; if entries still wait, the lowest with a dummy of maximum 0
unfoldable pub with_below : Bool → List ℕ → List Record × ℕ → List Record × ℕ
unfolding add joining dummy_node
with_below wait (below ∷ lowest) (rs, m) = add rs (joining rs true m below)
with_below true [] (rs, m) =
    let (rs₁, d) = add rs dummy_node in
    add rs₁ (joining rs₁ true m d)
with_below false [] (rs, m) = (rs, m)

-- a bucket: its members with its tare, sorted and merged, over the buckets below it
unfoldable pub bucket : Bool → List Record → List ℕ → List ℕ → List ℕ → List Record × ℕ
unfolding with_tare sort lower merge with_below
bucket wait rs below tares members =
    let (rs₁, ms) = with_tare rs tares members in
    with_below wait below (merge rs₁ (sort (lower rs₁) ms))

-- lowest buckets with only a tare are left out
unfoldable pub left_out : List ℕ → List ℕ → Bool
left_out [] [] = true
left_out [] (m ∷ members) = false
left_out (b ∷ below) members = false

-- the buckets of a list of members, rising from the lowest power, one tare each as far as they go; the highest stands first
unfoldable pub buckets_over : Bool → List Record → List ℕ → List ℕ → List (List ℕ) → List Record × List ℕ
unfolding left_out bucket
buckets_over wait rs below tares [] = (rs, below)
buckets_over wait rs below tares (ms ∷ mss) =
    elim (left_out below ms) [
      | true ↦ buckets_over wait rs below (drop 1 tares) mss
      | false ↦
          let (rs₁, b) = bucket wait rs below tares ms in
          buckets_over wait rs₁ (b ∷ below) (drop 1 tares) mss
    ]

-- first build: buckets of powers p to L - 1, each but the top one with a tare, numbers taken in rising power
unfoldable pub build_structure : Build → Build
unfolding digits top_bit largest gathered rising buckets_over some_wait restructured
build_structure b =
    let p : ℕ = top_bit b.set in
    let l : ℕ = digits (largest b.queue) in
    let q : Sorting = gathered b l in
    let tares : List ℕ = rising (l - 1 - p) b.arena.fresh in
    let (rs, buckets) = buckets_over (some_wait q.queue) q.records [] tares (drop p q.members) in
    restructured b b.set tares buckets q.queue (record {
      records = rs;
      fresh = b.arena.fresh + length tares;
      clauses = b.arena.clauses;
    })
