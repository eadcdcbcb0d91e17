-- "Well formed", one definition a clause, in the paragraph's order; refusal 12 is given where one fails. Clause words are not read.
use Rattle.std.specs.Prelude.{Bool, true, false, not, cond, ◌&&◌, ◌||◌, List, [], ◌∷◌, ◌++◌, map, ℕ, suc, ◌*◌, ◌^◌, leb, ltb, eqb, length, get_or, ℤ, nat_abs}
use Rattle.rules.specs.declared.State.{State}
use Rattle.rules.specs.Lists.{all, any, among, distinct, same, total, rising, padded}
use Rattle.rules.specs.Numbers.{most_inputs, most_variable, most_tares, most_buckets, lawful, lawful_weight, capacity}
use Rattle.rules.specs.Digits.{power_of_two}
use Rattle.rules.specs.Records.{Kind, leaf, join, dummy, Node, Output, Entry, Record, node, output, waiting, unknown, waits, node_at, left_link, nodes, outputs, entries, leaf_node, dummy_node}
use Rattle.rules.specs.Totalizer.{joining}
use Rattle.rules.specs.Build.{tares_of, buckets_of, held, some_wait}

-- marks lie within the slices
unfoldable pub marks_within : State → List ℕ → List ℤ → Bool
unfolding capacity
marks_within s store clauses = leb s.records (capacity store) && leb s.words (length clauses)

-- the used slots of an array of n lie within it and the others are 0
unfoldable pub slots_within : ℕ → ℕ → List ℕ → List ℕ → Bool
unfolding same padded
slots_within n used slots front = leb used n && same (padded 0 n front) slots

-- the used tares lie within their array, the others are 0
unfoldable pub tares_within : State → Bool
unfolding slots_within tares_of
tares_within s = slots_within most_tares s.tares_used s.tares (tares_of s)

-- the used buckets lie within their array, the others are 0
unfoldable pub buckets_within : State → Bool
unfolding slots_within buckets_of
buckets_within s = slots_within most_buckets s.buckets_used s.buckets (buckets_of s)

-- the clause total is at most its mark
unfoldable pub clauses_within : State → Bool
clauses_within s = leb s.clauses s.words

-- the variable total is below the next fresh number
unfoldable pub variables_below : State → Bool
variables_below s = ltb s.variables s.fresh

-- that is at most 1,000,000,001
unfoldable pub fresh_within : State → Bool
fresh_within s = leb s.fresh (suc most_variable)

-- words that are no record's image are unknown
unfoldable pub known : Record → Bool
known (node n) = true
known (output o) = true
known (waiting e) = true
known unknown = false

-- kinds are known
unfoldable pub kinds_known : List Record → Bool
unfolding all known
kinds_known rs = all known rs

-- the node is a leaf
unfoldable pub is_leaf : Kind → Bool
is_leaf (leaf x) = true
is_leaf (join half l r) = false
is_leaf dummy = false

-- the order of records: the inputs' leaves come first
unfoldable pub inputs_first : State → List Record → Bool
unfolding all is_leaf node_at rising
inputs_first s rs = all (λ i. is_leaf (node_at rs i).kind) (rising s.inputs 0)

-- the order of records: after a waiting entry come only waiting entries
unfoldable pub waiting_last : List Record → Bool
unfolding all waits
waiting_last [] = true
waiting_last (r ∷ rs) = cond (waits r) (all waits rs) (waiting_last rs)

-- output numbers rise, the first at least `low`
unfoldable pub rise_from : ℕ → List Output → Bool
rise_from low [] = true
rise_from low (o ∷ os) = leb low o.number && rise_from (suc o.number) os

-- the order of records: outputs stand in rising number
unfoldable pub outputs_rise : List Record → Bool
unfolding rise_from outputs
outputs_rise rs = rise_from 0 (outputs rs)

-- a leaf's literal is lawful
unfoldable pub leaf_lawful : Kind → Bool
unfolding lawful
leaf_lawful (leaf x) = lawful x
leaf_lawful (join half l r) = true
leaf_lawful dummy = true

-- leaf literals are lawful
unfoldable pub leaves_lawful : List Record → Bool
unfolding all leaf_lawful nodes
leaves_lawful rs = all (λ n. leaf_lawful n.kind) (nodes rs)

-- the record is a node
unfoldable pub is_node : Record → Bool
is_node (node n) = true
is_node (output o) = false
is_node (waiting e) = false
is_node unknown = false

-- the two links of a join
unfoldable pub node_links : Kind → List ℕ
node_links (join half l r) = l ∷ r ∷ []
node_links (leaf x) = []
node_links dummy = []

-- what a record links: the nodes of a join, of an output, of a waiting entry
unfoldable pub links : Record → List ℕ
unfolding node_links
links (node n) = node_links n.kind
links (output o) = o.node ∷ []
links (waiting e) = e.node ∷ []
links unknown = []

-- links are nodes
unfoldable pub links_nodes : List Record → Bool
unfolding all is_node links
links_nodes rs = all (λ r. all (λ n. is_node (get_or rs n unknown)) (links r)) rs

-- the node that the totalizer rule makes of a kind
unfoldable pub by_rule : List Record → Kind → Node
unfolding leaf_node dummy_node joining
by_rule rs (leaf x) = leaf_node x
by_rule rs (join half l r) = joining rs half l r
by_rule rs dummy = dummy_node

-- a node's height is one above its higher link (leaf, dummy: 0)
unfoldable pub heights_right : List Record → Bool
unfolding all by_rule nodes
heights_right rs = all (λ n. eqb n.height (by_rule rs n.kind).height) (nodes rs)

-- its maximum is by the totalizer rule
unfoldable pub maxima_right : List Record → Bool
unfolding all by_rule nodes
maxima_right rs = all (λ n. eqb n.maximum (by_rule rs n.kind).maximum) (nodes rs)

-- output records name no leaf
unfoldable pub outputs_no_leaf : List Record → Bool
unfolding all is_leaf node_at outputs
outputs_no_leaf rs = all (λ o. not (is_leaf (node_at rs o.node).kind)) (outputs rs)

-- the two outputs are of one node and value
unfoldable pub same_output : Output → Output → Bool
same_output o p = eqb o.node p.node && eqb o.value p.value

-- none of these outputs is of the same node and value as another
unfoldable pub all_differ : List Output → Bool
unfolding any same_output
all_differ [] = true
all_differ (o ∷ os) = not (any (same_output o) os) && all_differ os

-- no node and value twice
unfoldable pub outputs_distinct : List Record → Bool
unfolding all_differ outputs
outputs_distinct rs = all_differ (outputs rs)

-- value 1 to the maximum
unfoldable pub values_within : List Record → Bool
unfolding all node_at outputs
values_within rs = all (λ o. leb 1 o.value && leb o.value (node_at rs o.node).maximum) (outputs rs)

-- output and tare numbers
unfoldable pub numbers_of : State → List Record → List ℕ
unfolding outputs tares_of
numbers_of s rs = map (λ (o : Output). o.number) (outputs rs) ++ tares_of s

-- a leaf's variable
unfoldable pub variable_of : Kind → ℕ
variable_of (leaf x) = nat_abs x
variable_of (join half l r) = 0
variable_of dummy = 0

-- the input variables: those of the first leaves
unfoldable pub input_variables : State → List Record → List ℕ
unfolding variable_of node_at rising
input_variables s rs = map (λ (i : ℕ). variable_of (node_at rs i).kind) (rising s.inputs 0)

-- output and tare numbers are distinct
unfoldable pub numbers_distinct : State → List Record → Bool
unfolding distinct numbers_of
numbers_distinct s rs = distinct (numbers_of s rs)

-- above every input variable
unfoldable pub numbers_above : State → List Record → Bool
unfolding all numbers_of input_variables
numbers_above s rs = all (λ n. all (λ v. ltb v n) (input_variables s rs)) (numbers_of s rs)

-- and below the next fresh one
unfoldable pub numbers_below : State → List Record → Bool
unfolding all numbers_of
numbers_below s rs = all (λ n. ltb n s.fresh) (numbers_of s rs)

-- the set divisor is a power of two
unfoldable pub set_lawful : State → Bool
unfolding power_of_two
set_lawful s = power_of_two s.set

-- built means two inputs or more
unfoldable pub two_inputs : State → Bool
two_inputs s = leb 2 s.inputs

-- a built divisor that is a power of two
unfoldable pub built_power : State → Bool
unfolding power_of_two
built_power s = power_of_two s.built

-- at least the set one
unfoldable pub built_coarser : State → Bool
built_coarser s = leb s.set s.built

-- times W at most 2^19
unfoldable pub built_times_weight : State → Bool
built_times_weight s = leb (s.built * 2 ^ s.tares_used) (2 ^ 19)

-- and 1
unfoldable pub some_bucket : State → Bool
some_bucket s = leb 1 s.buckets_used

-- to tares + 1 buckets
unfoldable pub few_buckets : State → Bool
few_buckets s = leb s.buckets_used (suc s.tares_used)

-- the node is linked, halved, to n
unfoldable pub halved_to : ℕ → Kind → Bool
halved_to n (join true l r) = eqb r n
halved_to n (join false l r) = false
halved_to n (leaf x) = false
halved_to n dummy = false

-- the node is a dummy
unfoldable pub is_dummy : Kind → Bool
is_dummy dummy = true
is_dummy (leaf x) = false
is_dummy (join half l r) = false

-- the last bucket is linked, halved, to a dummy exactly if something waits
unfoldable pub ends_in : List Record → Bool → Kind → Bool
unfolding is_dummy node_at
ends_in rs true (join half l r) = half && is_dummy (node_at rs r).kind
ends_in rs false (join half l r) = not (is_dummy (node_at rs r).kind)
ends_in rs wait (leaf x) = false
ends_in rs wait dummy = false

-- each bucket but the last is linked, halved, to the next
unfoldable pub linked : List Record → Bool → List ℕ → Bool
unfolding halved_to ends_in node_at
linked rs wait [] = true
linked rs wait (b ∷ []) = ends_in rs wait (node_at rs b).kind
linked rs wait (b ∷ c ∷ bs) = halved_to c (node_at rs b).kind && linked rs wait (c ∷ bs)

-- each linked, halved, to the next, the last to a dummy exactly if something waits
unfoldable pub buckets_linked : State → List Record → Bool
unfolding linked some_wait entries buckets_of
buckets_linked s rs = linked rs (some_wait (entries rs)) (buckets_of s)

-- such a bucket's left maximum is at most 257
unfoldable pub left_maxima_within : State → List Record → Bool
unfolding all node_at left_link buckets_of
left_maxima_within s rs = all (λ n. leb (node_at rs (left_link (node_at rs n).kind)).maximum 257) (buckets_of s)

-- waiting weights are, once built, below the built divisor
unfoldable pub waiting_below_built : State → List Record → Bool
unfolding all entries
waiting_below_built s rs = all (λ e. ltb e.weight s.built) (entries rs)

-- unbuilt means no tare
unfoldable pub no_tare : State → Bool
no_tare s = eqb s.tares_used 0

-- no bucket
unfoldable pub no_bucket : State → Bool
no_bucket s = eqb s.buckets_used 0

-- each input waiting once: as many entries as inputs, and each input among them
unfoldable pub inputs_wait : State → List Record → Bool
unfolding all among rising entries
inputs_wait s rs =
    eqb (length (entries rs)) s.inputs && all (among (map (λ (e : Entry). e.node) (entries rs))) (rising s.inputs 0)

-- the weights adding to the sum
unfoldable pub weights_add : State → List Record → Bool
unfolding total entries
weights_add s rs = eqb (total (map (λ (e : Entry). e.weight) (entries rs))) s.sum

-- no maximum above 513
unfoldable pub maxima_within : List Record → Bool
unfolding all nodes
maxima_within rs = all (λ n. leb n.maximum 513) (nodes rs)

-- bucket i stands just above bucket n
unfoldable pub above : List ℕ → ℕ → ℕ → Bool
above [] i n = false
above (b ∷ []) i n = false
above (b ∷ c ∷ bs) i n = (eqb b i && eqb c n) || above (c ∷ bs) i n

-- node i names no bucket, but its right link may name the one below i's own
unfoldable pub spares_buckets : List ℕ → ℕ → Kind → Bool
unfolding among above
spares_buckets buckets i (join half l r) = not (among buckets l) && (not (among buckets r) || above buckets i r)
spares_buckets buckets i (leaf x) = true
spares_buckets buckets i dummy = true

-- no link but that of the bucket above names a bucket
unfoldable pub links_spare_buckets : State → List Record → Bool
unfolding all spares_buckets node_at rising buckets_of
links_spare_buckets s rs = all (λ i. spares_buckets (buckets_of s) i (node_at rs i).kind) (rising (length rs) 0)

-- and no waiting entry names a bucket
unfoldable pub entries_spare_buckets : State → List Record → Bool
unfolding all among entries buckets_of
entries_spare_buckets s rs = all (λ e. not (among (buckets_of s) e.node)) (entries rs)

-- at most 256 inputs
unfoldable pub inputs_within : State → Bool
inputs_within s = leb s.inputs most_inputs

-- and 256 waiting entries
unfoldable pub waiting_within : List Record → Bool
unfolding entries
waiting_within rs = leb (length (entries rs)) most_inputs

-- whose maxima add to at most 256
unfoldable pub waiting_maxima_within : List Record → Bool
unfolding total node_at entries
waiting_maxima_within rs = leb (total (map (λ (e : Entry). (node_at rs e.node).maximum) (entries rs))) most_inputs

-- waiting weights are 1 to 1,048,575
unfoldable pub waiting_lawful : List Record → Bool
unfolding all lawful_weight entries
waiting_lawful rs = all (λ e. lawful_weight e.weight) (entries rs)

-- what built means
unfoldable pub built_clauses : State → List Record → List Bool
unfolding two_inputs built_power built_coarser built_times_weight some_bucket few_buckets buckets_linked left_maxima_within waiting_below_built
built_clauses s rs =
    two_inputs s ∷
    built_power s ∷
    built_coarser s ∷
    built_times_weight s ∷
    some_bucket s ∷
    few_buckets s ∷
    buckets_linked s rs ∷
    left_maxima_within s rs ∷
    waiting_below_built s rs ∷ []

-- what unbuilt means
unfoldable pub unbuilt_clauses : State → List Record → List Bool
unfolding no_tare no_bucket inputs_wait weights_add
unbuilt_clauses s rs = no_tare s ∷ no_bucket s ∷ inputs_wait s rs ∷ weights_add s rs ∷ []

-- every clause of the paragraph after the first, of a state and its records
unfoldable pub clauses_over : State → List Record → List Bool
unfolding tares_within buckets_within clauses_within variables_below fresh_within kinds_known inputs_first waiting_last outputs_rise leaves_lawful links_nodes heights_right maxima_right outputs_no_leaf outputs_distinct values_within numbers_distinct numbers_above numbers_below set_lawful unbuilt_clauses built_clauses maxima_within links_spare_buckets entries_spare_buckets inputs_within waiting_within waiting_maxima_within waiting_lawful
clauses_over s rs =
    tares_within s ∷
    buckets_within s ∷
    clauses_within s ∷
    variables_below s ∷
    fresh_within s ∷
    kinds_known rs ∷
    inputs_first s rs ∷
    waiting_last rs ∷
    outputs_rise rs ∷
    leaves_lawful rs ∷
    links_nodes rs ∷
    heights_right rs ∷
    maxima_right rs ∷
    outputs_no_leaf rs ∷
    outputs_distinct rs ∷
    values_within rs ∷
    numbers_distinct s rs ∷
    numbers_above s rs ∷
    numbers_below s rs ∷
    set_lawful s ∷
    (cond (eqb s.built 0) (unbuilt_clauses s rs) (built_clauses s rs) ++ (
    maxima_within rs ∷
    links_spare_buckets s rs ∷
    entries_spare_buckets s rs ∷
    inputs_within s ∷
    waiting_within rs ∷
    waiting_maxima_within rs ∷
    waiting_lawful rs ∷ []))

-- every clause of the paragraph
unfoldable pub well_formed_clauses : State → List ℕ → List ℤ → List Bool
unfolding marks_within clauses_over held
well_formed_clauses s store clauses = marks_within s store clauses ∷ clauses_over s (held s store)

-- state and store are well formed
unfoldable pub well_formed : State → List ℕ → List ℤ → Bool
unfolding well_formed_clauses all
well_formed s store clauses = all (λ clause. clause) (well_formed_clauses s store clauses)

-- 12: state and store are not well formed
unfoldable pub not_well_formed : State → List ℕ → List ℤ → Bool
unfolding well_formed
not_well_formed s store clauses = not (well_formed s store clauses)
