-- What start writes, record by record.
use mathlib.Core.Path.{◌≡◌, refl, sym, ap, ◌∙◌}
use mathlib.Core.Bool.{Bool, true}
use mathlib.Core.List.{List, [], ◌∷◌, ◌++◌, map, zip_with, append_assoc, append-nil}
use Prim.Native.Nat.{ℕ, zero, suc, ◌+◌, ◌*◌, ◌^◌, ◌%◌, ◌≤◌, ◌<◌}
use native.Mathlib.Nat.{mod-eq_of_lt}
use native.Mathlib.Omega.{arith}
use borrow.Author.Tests.{leb-true}
use lib.Dec.{leb}
use Rattle.std.specs.List.{sum}
use Rattle.std.proofs.lemmas.List.Recursion.{is_sum_by}
use lib.ListN.{length, get_or, take, drop, length-map, take-append-drop}
use lib.Seq.{take-suc, take_all}
use lib.IntN.{ℤ, pos}
use lib.Pow.{pow-lt}
use Rattle.rules.specs.Lists.{all, total, rising}
use Rattle.rules.specs.Numbers.{lawful_weight}
use Rattle.rules.specs.Digits.{top_bit}
use Rattle.rules.specs.Records.{Record, node_of, node, waiting, unknown, leaf_node, literal_word}
use Rattle.rules.specs.Totalizer.{Arena, add}
use Rattle.rules.specs.Start.{heaviest, starting_divisor}
use Rattle.laws.specs.Records.Words.{both}
use Rattle.records.specs.Carries.{St, marks_of, Steps, Makes, with_records, with_record, on_records, peak, size}
use Rattle.records.proofs.Step.{steps_none, steps_then, steps_same, ended_then, makes_steps}
use Rattle.records.proofs.Grow.{records_more}
use Rattle.watchdog_start.specs.Writing.{with_more, leaf_records, wait_records, with_inputs}

-- Records one by one ---------------------------------------------------------------------------------------------------

-- no record more
pub more_none : (σ : St) → Steps σ σ (with_more [])
unfolding with_more with_records
more_none σ = steps_same σ σ (λ t. t) (with_more []) (λ t. sym (ap (with_records t) (append-nil t.records))) (steps_none σ)

-- one more
pub more_next : (σ τ υ : St) (rs : List Record) (i : ℕ) (r : Record) → i < length rs → get_or rs i unknown ≡ r → Steps σ τ (with_more (take i rs)) →
    Steps τ υ (with_record r) → Steps σ υ (with_more (take (i + 1) rs))
unfolding with_more with_record with_records
more_next σ τ υ rs i r h e p q = steps_same σ υ (λ t. with_record r (with_more (take i rs) t)) (with_more (take (i + 1) rs)) (λ t. same t)
    (steps_then σ τ υ (with_more (take i rs)) (with_record r) p q)
  where
    same : (t : Arena) → with_record r (with_more (take i rs) t) ≡ with_more (take (i + 1) rs) t
    same t =
        let up : suc i ≡ i + 1 = omega arith in
        ap (with_records t)
        (append_assoc t.records (take i rs) (r ∷ []) ∙
        ap (λ l. t.records ++ l) (ap (λ (x : Record). take i rs ++ (x ∷ [])) (sym e) ∙
        (sym (take-suc rs i unknown h) ∙ ap (λ (k : ℕ). take k rs) up)))

-- all
pub more_all : (σ τ : St) (rs : List Record) (i : ℕ) → length rs ≤ i → Steps σ τ (with_more (take i rs)) → Steps σ τ (with_more rs)
more_all σ τ rs i h p = steps_same σ τ (with_more (take i rs)) (with_more rs) (λ t. ap (λ l. with_more l t) (take_all i rs h)) p

-- the room ended on the way
pub more_full : (σ τ : St) (rs : List Record) (i : ℕ) → (marks_of τ).full ≡ true → Steps σ τ (with_more (take i rs)) → Steps σ τ (with_more rs)
unfolding with_more with_records
more_full σ τ rs i k p = steps_same σ τ (λ t. with_more (drop i rs) (with_more (take i rs) t)) (with_more rs) (λ t. same t)
    (ended_then σ τ (with_more (take i rs)) (with_more (drop i rs)) p (λ t. records_more t (drop i rs)) k)
  where
    same : (t : Arena) → with_more (drop i rs) (with_more (take i rs) t) ≡ with_more rs t
    same t = ap (with_records t) (append_assoc t.records (take i rs) (drop i rs) ∙ ap (λ l. t.records ++ l) (take-append-drop i rs))

-- Leaves ---------------------------------------------------------------------------------------------------------------

pub leaves_length : (lits : List ℤ) → length (leaf_records lits) ≡ length lits
unfolding leaf_records
leaves_length [] = refl
leaves_length (x ∷ lits) = ap suc (leaves_length lits)

pub leaves_over : (literals : List ℕ) (lits : List ℤ) (i : ℕ) → literals ≡ map literal_word lits → length literals ≤ i → length (leaf_records lits) ≤ i
leaves_over literals lits i e h = omega (arith, leaves_length lits, ap length e, length-map lits literal_word)

leaf_there : (lits : List ℤ) (i : ℕ) → i < length lits → get_or (leaf_records lits) i unknown ≡ node (leaf_node (get_or lits i (pos 0)))
unfolding leaf_records
leaf_there [] i h = absurd (omega arith)
leaf_there (x ∷ lits) zero h = refl
leaf_there (x ∷ lits) (suc i) h = leaf_there lits i (omega arith)

-- the word of a literal at its place
pub word_there : (literals : List ℕ) (lits : List ℤ) (i : ℕ) → literals ≡ map literal_word lits → i < length literals → get_or literals i 0 ≡ literal_word (get_or lits i (pos 0))
word_there literals lits i e h = ap (λ (ws : List ℕ). get_or ws i 0) e ∙ go lits i (omega (arith, ap length e, length-map lits literal_word))
  where
    go : (xs : List ℤ) (j : ℕ) → j < length xs → get_or (map literal_word xs) j 0 ≡ literal_word (get_or xs j (pos 0))
    go [] j h = absurd (omega arith)
    go (x ∷ xs) zero h = refl
    go (x ∷ xs) (suc j) h = go xs j (omega arith)

-- every element passes where all do
all_there : {A : Type 0} (p : A → Bool) (d : A) (xs : List A) (i : ℕ) → all p xs ≡ true → i < length xs → p (get_or xs i d) ≡ true
unfolding all
all_there p d [] i h k = absurd (omega arith)
all_there p d (x ∷ xs) zero h k = (both (p x) (all p xs) h).0
all_there p d (x ∷ xs) (suc i) h k = all_there p d xs i (both (p x) (all p xs) h).1 (omega arith)

pub leaf_next : (σ τ υ : St) (literals : List ℕ) (lits : List ℤ) (i n : ℕ) → literals ≡ map literal_word lits → i < length literals → Steps σ τ (with_more (take i (leaf_records lits))) →
    Makes τ υ n (on_records (λ rs. add rs (leaf_node (get_or lits i (pos 0))))) → Steps σ υ (with_more (take (i + 1) (leaf_records lits)))
unfolding on_records add with_record
leaf_next σ τ υ literals lits i n e h p q =
    let there : i < length lits = omega (arith, ap length e, length-map lits literal_word) in
    more_next σ τ υ (leaf_records lits) i (node (leaf_node (get_or lits i (pos 0)))) (omega (arith, leaves_length lits)) (leaf_there lits i there) p
    (makes_steps τ υ n (on_records (λ rs. add rs (leaf_node (get_or lits i (pos 0))))) q)

-- Waiting entries ------------------------------------------------------------------------------------------------------

unfoldable waits_from : ℕ → List ℕ → List Record
waits_from k ws = map waiting (zip_with (λ n w. record { node = n; weight = w }) (rising (length ws) k) ws)

waits_many : (k : ℕ) (ws : List ℕ) → length (waits_from k ws) ≡ length ws
unfolding waits_from rising zip_with
waits_many k [] = refl
waits_many k (w ∷ ws) = ap suc (waits_many (suc k) ws)

wait_there : (k : ℕ) (ws : List ℕ) (i : ℕ) → i < length ws → get_or (waits_from k ws) i unknown ≡ waiting (record { node = i + k; weight = get_or ws i 0 })
unfolding waits_from rising zip_with
wait_there k [] i h = absurd (omega arith)
wait_there k (w ∷ ws) zero h =
    let e : k ≡ 0 + k = omega arith in
    ap (λ (n : ℕ). waiting (record { node = n; weight = w })) e
wait_there k (w ∷ ws) (suc i) h =
    let e : i + suc k ≡ suc i + k = omega arith in
    wait_there (suc k) ws i (omega arith) ∙ ap (λ (n : ℕ). waiting (record { node = n; weight = get_or ws i 0 })) e

pub waits_length : (ws : List ℕ) → length (wait_records ws) ≡ length ws
unfolding wait_records waits_from
waits_length ws = waits_many 0 ws

pub waits_over : (ws : List ℕ) (i : ℕ) → length ws ≤ i → length (wait_records ws) ≤ i
waits_over ws i h = omega (arith, waits_length ws)

pub wait_next : (σ τ υ : St) (ws : List ℕ) (i : ℕ) → i < length ws → Steps σ τ (with_more (take i (wait_records ws))) →
    Steps τ υ (with_record (waiting (record { node = i; weight = get_or ws i 0 }))) → Steps σ υ (with_more (take (i + 1) (wait_records ws)))
unfolding wait_records waits_from
wait_next σ τ υ ws i h p q =
    let e : i + 0 ≡ i = omega arith in
    more_next σ τ υ (wait_records ws) i (waiting (record { node = i; weight = get_or ws i 0 })) (omega (arith, waits_length ws))
    (wait_there 0 ws i h ∙ ap (λ (n : ℕ). waiting (record { node = n; weight = get_or ws i 0 })) e) p q

-- Both -----------------------------------------------------------------------------------------------------------------

pub inputs_full : (σ τ : St) (lits : List ℤ) (ws : List ℕ) → (marks_of τ).full ≡ true → Steps σ τ (with_more (leaf_records lits)) → Steps σ τ (with_inputs lits ws)
unfolding with_inputs with_more with_records
inputs_full σ τ lits ws k p = ended_then σ τ (with_more (leaf_records lits)) (with_more (wait_records ws)) p (λ t. records_more t (wait_records ws)) k

pub inputs_done : (σ τ υ : St) (lits : List ℤ) (ws : List ℕ) → Steps σ τ (with_more (leaf_records lits)) → Steps τ υ (with_more (wait_records ws)) → Steps σ υ (with_inputs lits ws)
unfolding with_inputs
inputs_done σ τ υ lits ws p q = steps_then σ τ υ (with_more (leaf_records lits)) (with_more (wait_records ws)) p q

-- Weights --------------------------------------------------------------------------------------------------------------

small : (w : ℕ) → lawful_weight w ≡ true → w ≤ 1048575
unfolding lawful_weight
small w h = leb-true w 1048575 (both (leb 1 w) (leb w 1048575) h).1

pub weight_small : (ws : List ℕ) (i : ℕ) → all lawful_weight ws ≡ true → i < length ws → get_or ws i 0 ≤ 1048575
weight_small ws i h k = small (get_or ws i 0) (all_there lawful_weight 0 ws i h k)

total_small : (ws : List ℕ) → all lawful_weight ws ≡ true → total ws ≤ length ws * 1048575
unfolding all total
total_small [] h = omega arith
total_small (w ∷ ws) h =
    let (a, b) = both (lawful_weight w) (all lawful_weight ws) h in
    omega (arith, small w a, total_small ws b)

pub total_few : (ws : List ℕ) → all lawful_weight ws ≡ true → length ws ≤ 256 → total ws ≤ 268435200
total_few ws h k = omega (arith, total_small ws h)

-- what the library's `sum` adds
pub total_sum : (ws : List ℕ) → sum ws ≡ total ws
unfolding total
total_sum ws = sym (is_sum_by total (λ x. x) refl (λ _ _. refl) ws)

pub sum_few : (ws : List ℕ) → all lawful_weight ws ≡ true → length ws ≤ 256 → sum ws < 2 ^ 64
sum_few ws h k = omega (arith, total_sum ws, total_few ws h k)

pub starting_at : (ws : List ℕ) (most bit power : ℕ) → most ≡ heaviest ws → bit ≡ top_bit most → bit < 64 → power ≡ 2 ^ bit % 2 ^ 64 → power ≡ starting_divisor ws
unfolding starting_divisor
starting_at ws most bit power e f low g = g ∙ (mod-eq_of_lt (pow-lt low) ∙ ap (λ (k : ℕ). 2 ^ k) (f ∙ ap top_bit e))

-- Sizes ----------------------------------------------------------------------------------------------------------------

pub leaves_peak : (lits : List ℤ) → peak (leaf_records lits) ≤ 1
unfolding leaf_records peak size node_of leaf_node
leaves_peak [] = omega arith
leaves_peak (x ∷ lits) = omega (arith, leaves_peak lits)

waits_peak_from : (k : ℕ) (ws : List ℕ) → peak (waits_from k ws) ≤ 1
unfolding waits_from rising zip_with peak size node_of
waits_peak_from k [] = omega arith
waits_peak_from k (w ∷ ws) = omega (arith, waits_peak_from (suc k) ws)

pub waits_peak : (ws : List ℕ) → peak (wait_records ws) ≤ 1
unfolding wait_records waits_from
waits_peak ws = waits_peak_from 0 ws
