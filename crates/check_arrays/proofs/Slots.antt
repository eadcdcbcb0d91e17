-- The tests of the used slots, as std's tests of a list.
use mathlib.Core.Path.{◌≡◌, refl, sym, subst, ap, ap₂, ◌∙◌}
use mathlib.Core.Bool.{Bool, true, false, not, ◌&&◌, ◌||◌}
use mathlib.Core.List.{List, [], ◌∷◌, ◌++◌}
use Prim.Native.Nat.{ℕ, zero, suc, ◌+◌, ◌-◌, ◌≤◌, ◌<◌}
use native.Mathlib.Omega.{arith}
use lib.Dec.{eqb, leb}
use lib.ListN.{length, length-drop, get_or, take, drop, replicate}
use lib.Seq.{take_all}
use borrow.Author.Tests.{eq-eqb, le-leb, lt-leb}
use Rattle.std.specs.declared.slice.Windows.{Windows}
use Rattle.std.specs.List.{list_all, list_any}
use Rattle.std.specs.Slice.Iter.{windows_rest, windows_size, windows_steps}
use Rattle.std.proofs.lemmas.Iterator.{YieldsList}
use Rattle.std.proofs.lemmas.Iterator.Splits.{YieldsList-from_shown_while}
use Rattle.rules.specs.Lists.{among, distinct, same, padded}
use Rattle.rules.specs.WellFormed.{slots_within, above}
use Rattle.check_arrays.proofs.Chains.{eqb_turned}
use Rattle.check_arrays.proofs.Walk.{along_on, along_stop, along_end}

-- a part from k on is what is left
part_is : (xs : List ℕ) (k : ℕ) → take (length xs - k) (drop k xs) ≡ drop k xs
part_is xs k = take_all (length xs - k) (drop k xs) (omega (arith, length-drop k xs))

part_among : (xs : List ℕ) (k x : ℕ) (b : Bool) {c : Bool} → b ≡ among (take (length xs - k) (drop k xs)) x → b ≡ c → among (drop k xs) x ≡ c
part_among xs k x b e f = ap (λ (t : List ℕ). among t x) (sym (part_is xs k)) ∙ (sym e ∙ f)

-- the rest is distinct
module _ (xs : List ℕ) (i : ℕ) (x : Bool) (e : distinct (drop i xs) ≡ x) where
  module _ (h : i < length xs) (b : Bool) (p : b ≡ among (take (length xs - (i + 1)) (drop (i + 1) xs)) (get_or xs i 0)) where
    pub distinct_on : b ≡ false → distinct (drop (i + 1) xs) ≡ x
    unfolding distinct
    distinct_on q = along_on distinct (λ y ys. not (among ys y)) (λ y ys. refl) refl 0 xs i x e h (ap not (part_among xs (i + 1) _ b p q))

    pub distinct_stop : b ≡ true → false ≡ x
    unfolding distinct
    distinct_stop q = along_stop distinct (λ y ys. not (among ys y)) (λ y ys. refl) refl 0 xs i x e h (ap not (part_among xs (i + 1) _ b p q))

  pub distinct_end : length xs ≤ i → true ≡ x
  unfolding distinct
  distinct_end h = along_end distinct (λ y ys. not (among ys y)) (λ y ys. refl) refl 0 xs i x e h

-- the windows of two
unfoldable pub pairs : List ℕ → List (List ℕ)
pairs [] = []
pairs (x ∷ []) = []
pairs (x ∷ y ∷ ys) = (x ∷ y ∷ []) ∷ pairs (y ∷ ys)

few_pairs : (xs : List ℕ) → length xs < 2 → length (pairs xs) ≡ 0
unfolding pairs
few_pairs [] h = refl
few_pairs (x ∷ []) h = refl
few_pairs (x ∷ y ∷ ys) h = absurd (omega arith)

next_pair : (xs w ys : List ℕ) → 2 ≤ length xs → w ≡ take 2 xs → ys ≡ drop 1 xs → pairs xs ≡ w ∷ pairs ys
unfolding pairs
next_pair [] w ys h e f = absurd (omega arith)
next_pair (x ∷ []) w ys h e f = absurd (omega arith)
next_pair (x ∷ y ∷ zs) w ys h e f = ap₂ (λ (a : List ℕ) (b : List ℕ). a ∷ pairs b) (sym e) (sym f)

pub YieldsList-from_pairs : (s : Windows ℕ) (xs : List ℕ) → windows_size s ≡ 2 → windows_rest s ≡ xs → YieldsList windows_steps (λ w. w.now) s (pairs xs)
YieldsList-from_pairs s xs e f =
    subst (λ (ys : List ℕ). YieldsList windows_steps (λ w. w.now) s (pairs ys)) f
    (YieldsList-from_shown_while windows_steps (λ w. w.now) (λ t. pairs (windows_rest t)) (λ t. windows_size t ≡ 2) (λ t u p h. few_pairs (windows_rest t) (omega (arith, p, h.1.0)))
    (λ t w u p h. (h.0 ∙ p, next_pair (windows_rest t) w.now (windows_rest u) (omega (arith, p, h.1.0)) (h.1.1 ∙ ap (λ (k : ℕ). take k (windows_rest t)) p) h.1.2)) s e)

-- n stands just after i
abbrev pub follows : ℕ → ℕ → List ℕ → Bool
follows i n w = eqb (get_or w 0 0) i && eqb (get_or w 1 0) n

pub above_is : (xs : List ℕ) (i n : ℕ) → list_any (follows i n) (pairs xs) ≡ above xs i n
unfolding pairs above
above_is [] i n = refl
above_is (x ∷ []) i n = refl
above_is (x ∷ y ∷ ys) i n = ap (λ (b : Bool). (eqb x i && eqb y n) || b) (above_is (y ∷ ys) i n)

-- unused slots are 0
abbrev pub empty : ℕ → Bool
empty x = eqb x 0

zeros : (xs : List ℕ) → same (replicate (length xs) 0) xs ≡ list_all empty xs
unfolding same
zeros [] = refl
zeros (x ∷ xs) = ap₂ (λ (a b : Bool). a && b) (eqb_turned 0 x) (zeros xs)

padded_zeros : (used : ℕ) (xs : List ℕ) → used ≤ length xs → same (padded 0 (length xs) (take used xs)) xs ≡ list_all empty (drop used xs)
unfolding padded same
padded_zeros zero xs h =
    let e : length xs - 0 ≡ length xs = omega arith in
    ap (λ (k : ℕ). same (replicate k 0) xs) e ∙ zeros xs
padded_zeros (suc u) [] h = absurd (omega arith)
padded_zeros (suc u) (x ∷ xs) h =
    let e : suc (length xs) - suc (length (take u xs)) ≡ length xs - length (take u xs) = omega arith in
    ap (λ (k : ℕ). eqb x x && same (take u xs ++ replicate k 0) xs) e ∙
    (ap (λ (b : Bool). b && same (padded 0 (length xs) (take u xs)) xs) (eq-eqb x x refl) ∙ padded_zeros u xs (omega arith))

pub slots_in : (used : ℕ) (xs : List ℕ) → used ≤ length xs → list_all empty (take (length xs - used) (drop used xs)) ≡ slots_within (length xs) used xs (take used xs)
unfolding slots_within
slots_in used xs h =
    ap (list_all empty) (part_is xs used) ∙
    (sym (padded_zeros used xs h) ∙ ap (λ (b : Bool). b && same (padded 0 (length xs) (take used xs)) xs) (sym (le-leb _ _ h)))

pub slots_over : (used : ℕ) (xs : List ℕ) → length xs < used → leb used (length xs) ≡ slots_within (length xs) used xs (take used xs)
unfolding slots_within
slots_over used xs h = lt-leb _ _ h ∙ ap (λ (b : Bool). b && same (padded 0 (length xs) (take used xs)) xs) (sym (lt-leb _ _ h))
