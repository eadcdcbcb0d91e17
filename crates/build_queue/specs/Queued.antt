-- The queue of a build in the work words: what its steps need, what they keep, and the rules that they carry out.
use Rattle.std.specs.Prelude.{◌≡◌, List, ℕ, ◌+◌, ◌*◌, ◌^◌, ◌≤◌, ◌<◌, length, get_or, set}
use Rattle.rules.specs.Records.{Entry}
use Rattle.rules.specs.Totalizer.{Arena}
use Rattle.rules.specs.Build.{largest}
use Rattle.rules.specs.Queue.{heavier, Sorting}
use Rattle.laws.specs.Lists.Sorts.{Ordered}
use Rattle.laws.specs.Queue.Loads.{load}
use Rattle.records.specs.Carries.{with_records}
use Rattle.build_line.specs.Work.{line, count_at, members_from}

-- a member put behind those of power k
unfoldable pub put_member : List ℕ → ℕ → ℕ → List ℕ
unfolding count_at
put_member ws k n = set (set ws (3072 + 512 * k + count_at ws k) n) (2048 + k) (count_at ws k + 1)

-- a rule over records, members and queue, over an arena
unfoldable pub sorting : (Sorting → Sorting) → List (List ℕ) × List Entry → Arena → Arena × (List (List ℕ) × List Entry)
unfolding with_records
sorting f x t =
    let q : Sorting = f (record { records = t.records; members = x.0; queue = x.1 }) in
    (with_records t q.records, (q.members, q.queue))

-- the line at h is a queue: the heaviest first, every weight below 2 ^ 20; for each power its members and the entries that reach it
-- are at most 256
pub record Queued (ws : List ℕ) (h : ℕ) : Type 0 where
  pub long : 13312 ≤ length ws
  pub head : h ≤ 512
  pub sorted : Ordered heavier (line ws h)
  pub low : largest (line ws h) < 1048576
  pub few : (k : ℕ) → load (λ m. 1) k (members_from ws 0 20) (line ws h) ≤ 256

-- what a queue whose weights are at most b keeps: the words from 1024 to 3071, but for the counts of the powers below n where b is below 2 ^ n
pub record Kept (b : ℕ) (vs ws : List ℕ) : Type 0 where
  pub long : length ws ≡ length vs
  pub words : (n i : ℕ) → b < 2 ^ n → 1024 ≤ i → i < 3072 → (2048 ≤ i → 2048 + n ≤ i) → get_or ws i 0 ≡ get_or vs i 0
