-- The walks over inputs.
use mathlib.Core.Path.{◌≡◌, refl, sym, ap, ◌∙◌}
use mathlib.Core.Bool.{Bool, true, false, not, ◌&&◌, ◌||◌, false≢true}
use mathlib.Core.List.{List, [], ◌∷◌, ◌++◌, map}
use Prim.Native.Nat.{ℕ, ◌+◌, ◌-◌, ◌≤◌, ◌<◌, max}
use native.Mathlib.Omega.{arith}
use lib.Dec.{eqb, leb, ltb}
use lib.ListN.{length, length-append, length-map, drop}
use lib.Seq.{drop_at}
use lib.IntN.{nat_abs}
use borrow.Author.Tests.{eq-eqb, ne_eqb, eqb-true, eqb-false, lt-ltb, le-leb, leb-true, ltb-true}
use Rattle.std.specs.List.{fold, range_with_len}
use Rattle.rules.specs.Lists.{all, any, among, keep, rising}
use Rattle.rules.specs.Records.{Kind, leaf, join, dummy, Record, Entry, node, output, waiting, unknown, waits, word_literal, entries}
use Rattle.rules.specs.WellFormed.{variable_of, waiting_last}
use Rattle.laws.specs.Records.Words.{literal_word_literal, both}
use Rattle.laws.specs.Lists.Facts.{and_true}
use Rattle.laws.specs.WellFormed.Clauses.{last_of}
use Rattle.records.specs.Readers.{leaf_word, entry_node}
use Rattle.check_inputs.specs.Steps.{is_entry, waits_in}
use Rattle.check_arrays.proofs.Chains.{range_is}
use Rattle.check_arrays.proofs.Walk.{same_truth}

-- a leaf's variable by its literal's word, which is 0 of any other node
pub variable_word : (k : Kind) → nat_abs (word_literal (leaf_word k)) ≡ variable_of k
unfolding leaf_word variable_of word_literal
variable_word (leaf x) = ap nat_abs (literal_word_literal x)
variable_word (join half l r) = refl
variable_word dummy = refl

-- a waiting entry of node n, or any other record
pub entry_other : (n : ℕ) (r : Record) → waits r ≡ false → false ≡ is_entry n r
unfolding waits is_entry
entry_other n (node m) e = refl
entry_other n (output o) e = refl
entry_other n (waiting w) e = absurd (false≢true (sym e))
entry_other n unknown e = refl

pub entry_here : (n : ℕ) (r : Record) → waits r ≡ true → (x : ℕ) → x ≡ entry_node r → eqb x n ≡ is_entry n r
unfolding waits is_entry entry_node
entry_here n (node m) e x a = absurd (false≢true e)
entry_here n (output o) e x a = absurd (false≢true e)
entry_here n (waiting w) e x a = go (eqb x n) refl
  where
    go : (b : Bool) → eqb x n ≡ b → b ≡ eqb n w.node
    go true q = sym (eq-eqb n w.node (sym (eqb-true x n q) ∙ a))
    go false q = sym (ne_eqb n w.node (λ z. eqb-false x n q (a ∙ sym z)))
entry_here n unknown e x a = absurd (false≢true e)

-- the least number above the variables so far
max_above : (low v n : ℕ) → leb (max low (v + 1)) n ≡ (leb low n && ltb v n)
max_above low v n = same_truth (leb (max low (v + 1)) n) (leb low n && ltb v n)
    (λ e. let h : max low (v + 1) ≤ n = leb-true _ _ e in and_true (le-leb low n (omega arith)) (lt-ltb v n (omega arith)))
    (λ e. let (a, b) = both (leb low n) (ltb v n) e in
    let h : low ≤ n = leb-true low n a in
    let k : v < n = ltb-true v n b in
    le-leb (max low (v + 1)) n (omega arith))

fold_above : (p : ℕ → ℕ) (n low : ℕ) (xs : List ℕ) → leb (fold (λ a i. max a (p i + 1)) low xs) n ≡ (leb low n && all (λ i. ltb (p i) n) xs)
unfolding all
fold_above p n low [] = alone (leb low n)
  where
    alone : (a : Bool) → a ≡ (a && true)
    alone true = refl
    alone false = refl
fold_above p n low (x ∷ xs) =
    fold_above p n (max low (p x + 1)) xs ∙
    (ap (λ (b : Bool). b && all (λ i. ltb (p i) n) xs) (max_above low (p x) n) ∙ grouped (leb low n) (ltb (p x) n) (all (λ i. ltb (p i) n) xs))
  where
    grouped : (a b c : Bool) → ((a && b) && c) ≡ (a && (b && c))
    grouped true b c = refl
    grouped false b c = refl

pub low_is : (p : ℕ → ℕ) (inputs n : ℕ) → leb (fold (λ a i. max a (p i + 1)) 0 (range_with_len 0 inputs)) n ≡ all (λ i. ltb (p i) n) (rising inputs 0)
low_is p inputs n =
    fold_above p n 0 (range_with_len 0 inputs) ∙
    (ap (λ (b : Bool). b && all (λ i. ltb (p i) n) (range_with_len 0 inputs)) (le-leb 0 n (omega arith)) ∙ ap (all (λ i. ltb (p i) n)) (range_is inputs 0))

-- a node waits among waiting entries exactly if it is the node of one
waits_entries : (q : List Entry) (n : ℕ) → waits_in (map waiting q) n ≡ among (map (λ (e : Entry). e.node) q) n
unfolding among any waits_in is_entry
waits_entries [] n = refl
waits_entries (e ∷ q) n = ap (λ (b : Bool). eqb n e.node || b) (waits_entries q n)

-- where the waiting entries stand last, as many of the last records are all of them
pub waits_last : (rs : List Record) (k : ℕ) → waiting_last rs ≡ true → length (entries rs) ≡ k → (n : ℕ) →
    waits_in (drop (length rs - k) rs) n ≡ among (map (λ (e : Entry). e.node) (entries rs)) n
waits_last rs k last count n =
    let made : List Record = keep (λ r. not (waits r)) rs in
    let is : rs ≡ made ++ map waiting (entries rs) = last_of rs last in
    let whole : length rs ≡ length made + length (entries rs) =
    ap length is ∙ (length-append made (map waiting (entries rs)) ∙ ap (λ (j : ℕ). length made + j) (length-map (entries rs) waiting)) in
    let from : length made ≡ length rs - k = omega arith in
    ap (λ (t : List Record). waits_in (drop (length rs - k) t) n) is ∙
    (ap (λ (t : List Record). waits_in t n) (drop_at made (map waiting (entries rs)) (length rs - k) from) ∙ waits_entries (entries rs) n)
