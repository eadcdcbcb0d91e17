-- What a first build and a refinement have in common: the queue run, and buckets over what it gathers.
use Rattle.std.specs.Prelude.{List, [], ℕ, ◌+◌, drop}
use Rattle.rules.specs.Records.{Entry}
use Rattle.rules.specs.Totalizer.{Arena}
use Rattle.rules.specs.Build.{largest, some_wait}
use Rattle.rules.specs.Queue.{Sorting, queue_run}
use Rattle.rules.specs.Buckets.{buckets_over}

-- so many numbers taken for new tares, the queue es run while it reaches d, the buckets of powers from p on with these tares; and the
-- buckets, and what still waits
unfoldable pub tower : ℕ → ℕ → ℕ → List ℕ → List (List ℕ) → List Entry → Arena → Arena × (List ℕ × List Entry)
unfolding largest queue_run some_wait buckets_over
tower taken d p tares mss es t =
    let q : Sorting = queue_run (largest es) d (record { records = t.records; members = mss; queue = es }) in
    let (rs, buckets) = buckets_over (some_wait q.queue) q.records [] tares (drop p q.members) in
    (record { records = rs; fresh = t.fresh + taken; clauses = t.clauses }, (buckets, q.queue))
