-- Combining lines over words is combining them over literals; the two slices grow at their end.
use mathlib.Core.Path.{◌≡◌, refl, sym, ap, ap₂, ◌∙◌}
use mathlib.Core.Bool.{Bool, true, false, not, cond, ◌&&◌}
use mathlib.Core.List.{List, [], ◌∷◌, ◌++◌, map, append_assoc}
use Prim.Native.Nat.{ℕ, zero, suc, ◌+◌, ◌*◌, ◌-◌, ◌≤◌, ◌<◌}
use native.Mathlib.Omega.{arith}
use lib.Dec.{eqb, leb}
use lib.ListN.{length, get_or, take, drop, set, replicate, length-append, length-map}
use lib.Seq.{take-suc, take_all, take_at, drop-cons, set-append_seam}
use lib.IntN.{ℤ}
use borrow.Author.Tests.{leb-true, eq-eqb, ne_eqb}
use Rattle.rules.specs.Lists.{all, in_turn, among, padded}
use Rattle.rules.specs.Numbers.{lawful, lawful_weight}
use Rattle.rules.specs.Records.{literal_word}
use Rattle.rules.specs.Combined.{joined, combined_literals, weight_named, combined_weights}
use Rattle.rules.specs.Start.{list_of}
use Rattle.laws.specs.Records.Words.{both}
use Rattle.laws.specs.Lists.Facts.{map_append}
use Rattle.numbers.specs.Signed.{signed_at, word_or_none}
use Rattle.start_lists.specs.Literals.{words}
use Rattle.start_lists.specs.Lines.{Lines, Listed, named_word, joined_word, combined_words}
use Rattle.start_lists.proofs.Walk.{word_there}
use Rattle.start_lists.proofs.Order.{lawful_words}

-- words against literals
joined_are : (xs : List ℤ) (x : ℤ) → joined_word (map literal_word xs) (literal_word x) ≡ map literal_word (joined xs x)
unfolding joined_word joined
joined_are xs x = go (among (map literal_word xs) (literal_word x))
  where
    go : (b : Bool) → cond b (map literal_word xs) (map literal_word xs ++ (literal_word x ∷ [])) ≡ map literal_word (cond b xs (xs ++ (x ∷ [])))
    go true = refl
    go false = sym (map_append literal_word xs (x ∷ []))

combined_from : (xs lits : List ℤ) → in_turn joined_word (map literal_word xs) (map literal_word lits) ≡ map literal_word (in_turn joined xs lits)
unfolding in_turn
combined_from xs [] = refl
combined_from xs (x ∷ lits) = ap (λ (ws : List ℕ). in_turn joined_word ws (map literal_word lits)) (joined_are xs x) ∙ combined_from (joined xs x) lits

named_are : (lits : List ℤ) (weights : List ℕ) (x : ℤ) → named_word (map literal_word lits) weights (literal_word x) ≡ weight_named lits weights x
unfolding named_word weight_named
named_are [] weights x = refl
named_are (y ∷ lits) [] x = refl
named_are (y ∷ lits) (w ∷ weights) x = ap (λ (n : ℕ). cond (eqb (literal_word x) (literal_word y)) w 0 + n) (named_are lits weights x)

map_named : (lits : List ℤ) (weights : List ℕ) (xs : List ℤ) → map (named_word (map literal_word lits) weights) (map literal_word xs) ≡ map (weight_named lits weights) xs
map_named lits weights [] = refl
map_named lits weights (x ∷ xs) = ap₂ (λ (n : ℕ) (ns : List ℕ). n ∷ ns) (named_are lits weights x) (map_named lits weights xs)

module _ (lits : List ℤ) (weights : List ℕ) (h : all lawful lits ≡ true) where
  words_combined : combined_words (words lits) ≡ map literal_word (combined_literals lits)
  unfolding combined_words combined_literals
  words_combined = ap combined_words (lawful_words lits h) ∙ combined_from [] lits

  weights_combined : map (named_word (words lits) weights) (combined_words (words lits)) ≡ combined_weights lits weights
  unfolding combined_weights
  weights_combined =
      ap₂ (λ (ws xs : List ℕ). map (named_word ws weights) xs) (lawful_words lits h) words_combined ∙ map_named lits weights (combined_literals lits)

  module _ (literals added : List ℕ) (used : ℕ) (l : Listed (combined_words (words lits)) (words lits) weights literals added used) where
    -- what the slices list is the combined list
    pub listed_list : record { literals = literals; weights = added; used = used } ≡ list_of (combined_literals lits) (combined_weights lits weights)
    unfolding list_of
    listed_list =
        let a : literals ≡ padded 0 256 (map literal_word (combined_literals lits)) = l.literals_are ∙ ap (padded 0 256) words_combined in
        let b : added ≡ padded 0 256 (combined_weights lits weights) = l.added_are ∙ ap (padded 0 256) weights_combined in
        let c : used ≡ length (combined_literals lits) = l.used_is ∙ (ap length words_combined ∙ length-map (combined_literals lits) literal_word) in
        ap₂ (λ (x y : List ℕ). record { literals = x; weights = y; used = used }) a b ∙
        ap (λ (n : ℕ). record { literals = padded 0 256 (map literal_word (combined_literals lits)); weights = padded 0 256 (combined_weights lits weights); used = n }) c

    -- and its weights are tested with the zeros behind them
    pub listed_heavy : (b : Bool) → b ≡ not (all (λ w. leb w 1048575) added) → not (all (λ w. leb w 1048575) (combined_weights lits weights)) ≡ b
    unfolding padded all
    listed_heavy b e =
        sym (e ∙ ap (λ (ws : List ℕ). not (all (λ w. leb w 1048575) ws)) (l.added_are ∙ ap (padded 0 256) weights_combined) ∙
        ap not (all_padded (256 - length (combined_weights lits weights)) (combined_weights lits weights)))
      where
        zeros : (n : ℕ) → all (λ w. leb w 1048575) (replicate n 0) ≡ true
        zeros zero = refl
        zeros (suc n) = zeros n

        all_padded : (n : ℕ) (ws : List ℕ) → all (λ w. leb w 1048575) (ws ++ replicate n 0) ≡ all (λ w. leb w 1048575) ws
        all_padded n [] = zeros n
        all_padded n (w ∷ ws) = ap (λ (t : Bool). leb w 1048575 && t) (all_padded n ws)

-- a list with zeros behind it grows at its end
grown : (xs : List ℕ) (x : ℕ) → length xs < 256 → set (padded 0 256 xs) (length xs) x ≡ padded 0 256 (xs ++ (x ∷ []))
unfolding padded
grown xs x h =
    let more : 256 - length xs ≡ suc (256 - length (xs ++ (x ∷ []))) = omega (arith, length-append xs (x ∷ [])) in
    ap (λ (n : ℕ). set (xs ++ replicate n 0) (length xs) x) more ∙
    (set-append_seam xs 0 (replicate (256 - length (xs ++ (x ∷ []))) 0) x ∙ sym (append_assoc xs (x ∷ []) (replicate (256 - length (xs ++ (x ∷ []))) 0)))

front : (xs literals : List ℕ) (used : ℕ) → literals ≡ padded 0 256 xs → used ≡ length xs → take used literals ≡ xs
unfolding padded
front xs literals used p q = ap (take used) p ∙ take_at xs (replicate (256 - length xs) 0) used (sym q)

module _ (xs ws weights literals added : List ℕ) (used v w : ℕ) (l : Listed xs ws weights literals added used) (is : w ≡ v) where
  -- the word stands in the list
  pub join_none : among (take used literals) w ≡ true → Listed (joined_word xs v) ws weights literals added used
  unfolding joined_word
  join_none e =
      let same : joined_word xs v ≡ xs = ap (λ (b : Bool). cond b xs (xs ++ (v ∷ []))) (ap₂ among (sym (front xs literals used l.literals_are l.used_is)) (sym is) ∙ e) in
      record {
        literals_are = l.literals_are ∙ ap (padded 0 256) (sym same);
        added_are = l.added_are ∙ ap (λ (ys : List ℕ). padded 0 256 (map (named_word ws weights) ys)) (sym same);
        used_is = l.used_is ∙ ap length (sym same);
      }

  -- it does not: it is put behind the others
  pub join_one : (n : ℕ) → among (take used literals) w ≡ false → used < 256 → n ≡ named_word ws weights w →
      Listed (joined_word xs v) ws weights (set literals used w) (set added used n) (used + 1)
  unfolding joined_word
  join_one n e h p =
      let same : joined_word xs v ≡ xs ++ (w ∷ []) =
      ap (λ (b : Bool). cond b xs (xs ++ (v ∷ []))) (ap₂ among (sym (front xs literals used l.literals_are l.used_is)) (sym is) ∙ e) ∙ ap (λ (k : ℕ). xs ++ (k ∷ [])) (sym is) in
      let few : length xs < 256 = omega (arith, l.used_is) in
      let f : ℕ → ℕ = named_word ws weights in
      let count : used ≡ length (map f xs) = l.used_is ∙ sym (length-map xs f) in
      record {
        literals_are = ap₂ (λ (ys : List ℕ) (k : ℕ). set ys k w) l.literals_are l.used_is ∙ (grown xs w few ∙ ap (padded 0 256) (sym same));
        added_are = ap₂ (λ (ys : List ℕ) (k : ℕ). set ys k n) l.added_are count ∙
            (ap (set (padded 0 256 (map f xs)) (length (map f xs))) p ∙
            (grown (map f xs) (f w) (omega (arith, length-map xs f)) ∙
            ap (padded 0 256) (sym (ap (map f) same ∙ map_append f xs (w ∷ [])))));
        used_is = omega (arith, l.used_is, ap length same, length-append xs (w ∷ []));
      }

-- line by line
in_turn_append : (s xs ys : List ℕ) → in_turn joined_word s (xs ++ ys) ≡ in_turn joined_word (in_turn joined_word s xs) ys
unfolding in_turn
in_turn_append s [] ys = refl
in_turn_append s (x ∷ xs) ys = in_turn_append (joined_word s x) xs ys

pub combined_next : (ws : List ℕ) (i : ℕ) → i < length ws → joined_word (combined_words (take i ws)) (get_or ws i 0) ≡ combined_words (take (i + 1) ws)
unfolding combined_words in_turn
combined_next ws i h =
    let up : suc i ≡ i + 1 = omega arith in
    sym (ap (λ (k : ℕ). combined_words (take k ws)) (sym up) ∙
    (ap combined_words (take-suc ws i 0 h) ∙ in_turn_append [] (take i ws) (get_or ws i 0 ∷ [])))

pub combined_all : (ws : List ℕ) (i : ℕ) → length ws ≤ i → combined_words (take i ws) ≡ combined_words ws
combined_all ws i h = ap combined_words (take_all i ws h)

pub listed_as : (xs ys ws weights literals added : List ℕ) (used : ℕ) → xs ≡ ys → Listed xs ws weights literals added used → Listed ys ws weights literals added used
listed_as xs ys ws weights literals added used e l = record {
  literals_are = l.literals_are ∙ ap (padded 0 256) e;
  added_are = l.added_are ∙ ap (λ (zs : List ℕ). padded 0 256 (map (named_word ws weights) zs)) e;
  used_is = l.used_is ∙ ap length e;
}

pub listed_none : (ws weights literals added : List ℕ) → literals ≡ replicate 256 0 → added ≡ replicate 256 0 → Listed (combined_words (take 0 ws)) ws weights literals added 0
unfolding combined_words in_turn padded
listed_none ws weights literals added p q = record { literals_are = p; added_are = q; used_is = refl }

-- the weight of line i where it names w
abbrev pub line_weight : List ℕ → List ℕ → ℕ → ℕ → ℕ
line_weight ws weights i w = cond (eqb w (get_or ws i 0)) (get_or weights i 0) 0

-- the weights of a literal's lines, line by line
pub named_here : (ws weights : List ℕ) (i w : ℕ) → i < length ws → i < length weights →
    named_word (drop i ws) (drop i weights) w ≡ line_weight ws weights i w + named_word (drop (i + 1) ws) (drop (i + 1) weights) w
unfolding named_word
named_here ws weights i w h k =
    let up : suc i ≡ i + 1 = omega arith in
    ap₂ (λ (xs ns : List ℕ). named_word xs ns w) (drop-cons ws i 0 h) (drop-cons weights i 0 k) ∙
    ap (λ (j : ℕ). line_weight ws weights i w + named_word (drop j ws) (drop j weights) w) up

pub named_end : (ws weights : List ℕ) (i w : ℕ) → length weights ≤ i → named_word (drop i ws) (drop i weights) w ≡ 0
unfolding named_word
named_end ws weights i w h = go (drop i ws) weights i h
  where
    go : (xs ns : List ℕ) (j : ℕ) → length ns ≤ j → named_word xs (drop j ns) w ≡ 0
    go [] ns j h = refl
    go (x ∷ xs) [] zero h = refl
    go (x ∷ xs) [] (suc j) h = refl
    go (x ∷ xs) (n ∷ ns) zero h = absurd (omega arith)
    go (x ∷ xs) (n ∷ ns) (suc j) h = go (x ∷ xs) ns j (omega arith)

named_small : (ws weights : List ℕ) (w : ℕ) → all lawful_weight weights ≡ true → named_word ws weights w ≤ length weights * 1048575
unfolding named_word all lawful_weight
named_small [] weights w h = omega arith
named_small (v ∷ ws) [] w h = omega arith
named_small (v ∷ ws) (k ∷ weights) w h =
    let (a, b) = both (lawful_weight k) (all lawful_weight weights) h in
    go (eqb w v) (leb-true k 1048575 (both (leb 1 k) (leb k 1048575) a).1) (named_small ws weights w b)
  where
    go : (t : Bool) → k ≤ 1048575 → named_word ws weights w ≤ length weights * 1048575 → cond t k 0 + named_word ws weights w ≤ suc (length weights) * 1048575
    go true p q = omega arith
    go false p q = omega arith

pub named_few : (lits : List ℤ) (weights : List ℕ) (w : ℕ) → Lines lits weights → named_word (words lits) weights w ≤ 268435200
named_few lits weights w l = omega (arith, named_small (words lits) weights w l.lawful, l.few, l.lengths)

-- the word of a line
pub line_there : (lits : List ℤ) (weights : List ℕ) (i w v : ℕ) → v ≡ word_or_none (signed_at lits i) → v ≡ w → get_or weights i 0 ≡ line_weight (words lits) weights i w
line_there lits weights i w v p q =
    sym (ap (λ (b : Bool). cond b (get_or weights i 0) 0) (eq-eqb w (get_or (words lits) i 0) (sym (word_there lits i ∙ (sym p ∙ q)))))

pub line_other : (lits : List ℤ) (weights : List ℕ) (i w v : ℕ) → v ≡ word_or_none (signed_at lits i) → (v ≡ w → ⊥) → 0 ≡ line_weight (words lits) weights i w
line_other lits weights i w v p q =
    sym (ap (λ (b : Bool). cond b (get_or weights i 0) 0) (ne_eqb w (get_or (words lits) i 0) (λ e. q (p ∙ (sym (word_there lits i) ∙ sym e)))))
