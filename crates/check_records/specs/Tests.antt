-- The tests of one record and of its place, which together decide most clauses of well formed.
use Rattle.std.specs.Prelude.{Bool, true, not, cond, ◌&&◌, List, ℕ, ◌+◌, max, eqb, leb, ltb, length, get_or}
use Rattle.rules.specs.Lists.{all, among, rising}
use Rattle.rules.specs.Numbers.{lawful, most_weight}
use Rattle.rules.specs.Records.{Kind, leaf, join, dummy, Record, node, output, waiting, unknown, waits, node_at}
use Rattle.rules.specs.Totalizer.{counts}
use Rattle.rules.specs.WellFormed.{is_leaf, spares_buckets}
use Rattle.laws.specs.Records.Places.{place}
use Rattle.check_records.specs.declared.Limits.{Limits}

-- a node by the totalizer rule, its links nodes, its literal lawful, its maximum at most 513
unfoldable pub kind_right : List Record → Kind → ℕ → ℕ → Bool
unfolding lawful place node_at counts
kind_right rs (leaf x) m h = eqb m 1 && (eqb h 0 && lawful x)
kind_right rs (join half l r) m h =
    place rs l && (place rs r && (leb m 513 && (eqb m ((node_at rs l).maximum + counts half (node_at rs r).maximum) &&
    eqb h (max (node_at rs l).height (node_at rs r).height + 1))))
kind_right rs dummy m h = eqb m 0 && eqb h 0

-- output v of node n, by its number x
unfoldable pub output_right : List Record → List ℕ → Limits → ℕ → ℕ → ℕ → Bool
unfolding place node_at is_leaf among
output_right rs tares lim n v x =
    place rs n && (not (is_leaf (node_at rs n).kind) && (leb 1 v && (leb v (node_at rs n).maximum && (leb lim.low x && (
    ltb x lim.fresh && not (among tares x))))))

-- node n, waiting with weight w
unfoldable pub entry_right : List Record → List ℕ → Limits → ℕ → ℕ → Bool
unfolding place among
entry_right rs buckets lim n w =
    place rs n && (leb 1 w && (leb w most_weight && (ltb w lim.top && not (among buckets n))))

-- a record by itself
unfoldable pub record_right : List Record → List ℕ → List ℕ → Limits → Record → Bool
unfolding kind_right output_right entry_right
record_right rs tares buckets lim (node n) = kind_right rs n.kind n.maximum n.height
record_right rs tares buckets lim (output o) = output_right rs tares lim o.node o.value o.number
record_right rs tares buckets lim (waiting e) = entry_right rs buckets lim e.node e.weight
record_right rs tares buckets lim unknown = true

-- just after a waiting entry stands a waiting entry or nothing
unfoldable pub order_at : List Record → ℕ → Bool
unfolding waits
order_at rs i = cond (waits (get_or rs i unknown)) (cond (ltb (i + 1) (length rs)) (waits (get_or rs (i + 1) unknown)) true) true

-- a record, where it stands
unfoldable pub place_right : List Record → List ℕ → List ℕ → Limits → ℕ → Bool
unfolding record_right order_at spares_buckets node_at
place_right rs tares buckets lim i =
    record_right rs tares buckets lim (get_or rs i unknown) && (order_at rs i && spares_buckets buckets i (node_at rs i).kind)

-- every record, where it stands
unfoldable pub records_right : List Record → List ℕ → List ℕ → Limits → Bool
unfolding place_right all rising
records_right rs tares buckets lim = all (place_right rs tares buckets lim) (rising (length rs) 0)
