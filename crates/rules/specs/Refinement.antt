-- "Refinement".
use Rattle.std.specs.Prelude.{Bool, true, not, ◌&&◌, List, [], ◌∷◌, ◌++◌, reverse, ℕ, suc, ◌+◌, ◌-◌, ◌/◌, leb, ltb, eqb, length, get_or, set, take, drop, replicate}
use Rattle.rules.specs.Lists.{keep, in_turn, rising}
use Rattle.rules.specs.Digits.{top_bit}
use Rattle.rules.specs.Records.{Kind, Output, Record, node, node_at, left_link, right_link, outputs}
use Rattle.rules.specs.Totalizer.{Arena, counts, joining, pairs, ask_pair, write, define}
use Rattle.rules.specs.Build.{Build, restructured, with_arena, unbuilt, largest, some_wait}
use Rattle.rules.specs.Queue.{Sorting, gathered}
use Rattle.rules.specs.Buckets.{buckets_over}

-- due when a waiting weight is at least the set divisor
unfoldable pub due : Build → Bool
unfolding unbuilt largest
due b = not (unbuilt b) && leb b.set (largest b.queue)

-- from the lowest old bucket to the root: linked, halved, to the one below, maximum and height brought up to date
unfoldable pub relink : List Record → ℕ → List ℕ → List Record
unfolding joining node_at left_link
relink rs below [] = rs
relink rs below (b ∷ above) = relink (set rs b (node (joining rs true (left_link (node_at rs b).kind) below))) b above

-- half the former right maximum of a bucket, rounded down
unfoldable pub former_half : List Record → ℕ → ℕ
unfolding node_at right_link
former_half old b = (node_at old (right_link (node_at old b).kind)).maximum / 2

-- the pairs of output v of bucket n whose b exceeds `most`
unfoldable pub further_pairs : List Record → ℕ → ℕ → ℕ → List (ℕ × ℕ)
unfolding keep pairs counts node_at left_link right_link
further_pairs rs n most v =
    let k : Kind = (node_at rs n).kind in
    keep (λ p. ltb most p.1) (pairs (node_at rs (left_link k)).maximum (counts true (node_at rs (right_link k)).maximum) v)

-- an output of bucket n gets, a rising, the clauses of its pairs whose b exceeds `most`, after defining what they use
unfoldable pub extend : ℕ → ℕ → Arena → Output → Arena
unfolding node_at left_link right_link further_pairs write in_turn ask_pair define
extend n most s o =
    let k : Kind = (node_at s.records n).kind in
    let ps : List (ℕ × ℕ) = further_pairs s.records n most o.value in
    let t : Arena = in_turn (ask_pair (define (node_at s.records n).height) true (left_link k) (right_link k)) s ps in
    write true (left_link k) (right_link k) o.number ps t

-- each output of bucket n that was defined earlier, when the records were `old`, in number order
unfoldable pub extend_bucket : List Record → Arena → ℕ → Arena
unfolding in_turn extend former_half keep outputs
extend_bucket old s n = in_turn (extend n (former_half old n)) s (keep (λ o. eqb o.node n) (outputs old))

-- tares once left out: the lowest ones, those that have no bucket
unfoldable pub tares_left_out : Build → List ℕ
tares_left_out b = take (suc (length b.tares) - length b.buckets) b.tares

-- powers p up to that of the old built divisor are the new segment and those between: all get fresh tares, rising; the tares once
-- left out come above them. The lowest old bucket is linked to the highest of these
unfoldable pub patched : Build → Build
unfolding top_bit gathered rising tares_left_out buckets_over some_wait relink restructured
patched b =
    let p : ℕ = top_bit b.set in
    let end : ℕ = top_bit b.built in
    let q : Sorting = gathered b end in
    let fresh : List ℕ = rising (end - p) b.arena.fresh in
    let own : List ℕ = tares_left_out b in
    let members : List (List ℕ) = drop p q.members ++ replicate (length own) [] in
    let (rs, lower) = buckets_over (some_wait q.queue) q.records [] (fresh ++ own) members in
    restructured b b.set (fresh ++ b.tares) (b.buckets ++ lower) q.queue (record {
      records = relink rs (get_or lower 0 0) (reverse b.buckets);
      fresh = b.arena.fresh + length fresh;
      clauses = b.arena.clauses;
    })

-- last, from the lowest old bucket to the root, each output defined earlier is extended
unfoldable pub merge_structures : Build → Build
unfolding patched with_arena in_turn extend_bucket
merge_structures b =
    let c : Build = patched b in
    with_arena c (in_turn (extend_bucket b.arena.records) c.arena (reverse b.buckets))
