-- The combined list of Ask 4: no literal stands twice in it, it has the facts of its lines, and combined again it is itself.
use Rattle.std.specs.Prelude.{◌≡◌, refl, Bool, true, false, cond, List, [], ◌∷◌, ◌++◌, map, ℕ, suc, ◌+◌, ◌≤◌, eqb, length, ℤ}
use Rattle.std.proofs.Common.{sym, ap, ap₂, ◌∙◌, subst, append_assoc, append-nil, arith, length-append, eqb-true, eq-eqb, ne_eqb}
use Rattle.std.proofs.lemmas.List.{length-map}
use Rattle.std.proofs.lemmas.Bool.{eqb-false}
use Rattle.rules.specs.Lists.{in_turn, among}
use Rattle.rules.specs.Records.{literal_word}
use Rattle.rules.specs.Combined.{joined, combined_literals, weight_named, combined_weights}
use Rattle.laws.specs.Lists.Facts.{All, All_map, All_append, All_source, All_self, map_append, occurs, occurs_append, occurs_here, occurs_other, occurs_more}
use Rattle.laws.specs.Lists.Counts.{among_occurs, not_among_occurs, occurs_not_among}

-- the words of literals
abbrev words : List ℤ → List ℕ
words xs = map literal_word xs

-- a fact of either outcome of a literal's joining
joins : (P : List ℤ → Type 0) (xs : List ℤ) (x : ℤ) → (among (words xs) (literal_word x) ≡ true → P xs) → (among (words xs) (literal_word x) ≡ false → P (xs ++ (x ∷ []))) → P (joined xs x)
unfolding joined
joins P xs x f g = go (among (words xs) (literal_word x)) refl
  where
    go : (b : Bool) → among (words xs) (literal_word x) ≡ b → P (cond b xs (xs ++ (x ∷ [])))
    go true e = f e
    go false e = g e

-- no literal stands twice
joined_once : (xs : List ℤ) (x : ℤ) → ((n : ℕ) → occurs n (words xs) ≤ 1) → (n : ℕ) → occurs n (words (joined xs x)) ≤ 1
unfolding occurs
joined_once xs x h n = joins (λ ys. occurs n (words ys) ≤ 1) xs x (λ e. h n) (λ e. go (eqb n (literal_word x)) refl (not_among_occurs (words xs) (literal_word x) e))
  where
    apart : occurs n (words (xs ++ (x ∷ []))) ≡ occurs n (words xs) + occurs n (literal_word x ∷ [])
    apart = ap (occurs n) (map_append literal_word xs (x ∷ [])) ∙ occurs_append n (words xs) (literal_word x ∷ [])

    go : (b : Bool) → eqb n (literal_word x) ≡ b → occurs (literal_word x) (words xs) ≡ 0 → occurs n (words (xs ++ (x ∷ []))) ≤ 1
    go true q none =
        let is : n ≡ literal_word x = eqb-true n (literal_word x) q in
        let gone : occurs n (words xs) ≡ 0 = ap (λ (k : ℕ). occurs k (words xs)) is ∙ none in
        omega (arith, apart, occurs_here n (literal_word x) [] is)
    go false q none = omega (arith, apart, h n, occurs_other n (literal_word x) [] (eqb-false n (literal_word x) q))

once_from : (xs lits : List ℤ) → ((n : ℕ) → occurs n (words xs) ≤ 1) → (n : ℕ) → occurs n (words (in_turn joined xs lits)) ≤ 1
unfolding in_turn
once_from xs [] h n = h n
once_from xs (x ∷ lits) h n = once_from (joined xs x) lits (joined_once xs x h) n

pub combined_once : (lits : List ℤ) (n : ℕ) → occurs n (map literal_word (combined_literals lits)) ≤ 1
unfolding combined_literals occurs
combined_once lits n = once_from [] lits (λ m. omega arith) n

-- facts of the lines are facts of the combined literals
all_from : (P : ℤ → Type 0) (xs lits : List ℤ) → All P xs → All P lits → All P (in_turn joined xs lits)
unfolding in_turn
all_from P xs [] h k = h
all_from P xs (x ∷ lits) h k = all_from P (joined xs x) lits (joins (All P) xs x (λ e. h) (λ e. All_append P xs (x ∷ []) h (k.0, tt))) k.1

pub combined_all : (P : ℤ → Type 0) (lits : List ℤ) → All P lits → All P (combined_literals lits)
unfolding combined_literals
combined_all P lits h = all_from P [] lits tt h

-- each of them stands in the lines
pub combined_stands : (lits : List ℤ) → All (λ x. 1 ≤ occurs (literal_word x) (map literal_word lits)) (combined_literals lits)
combined_stands lits = combined_all (λ x. 1 ≤ occurs (literal_word x) (words lits)) lits (All_source (λ n. 1 ≤ occurs n (words lits)) literal_word lits (All_self (words lits)))

-- they are no more than the lines
few_from : (xs lits : List ℤ) → length (in_turn joined xs lits) ≤ length xs + length lits
unfolding in_turn
few_from xs [] = omega arith
few_from xs (x ∷ lits) = omega (arith, few_from (joined xs x) lits, joins (λ ys. length ys ≤ suc (length xs)) xs x (λ e. omega arith) (λ e. omega (arith, length-append xs (x ∷ []))))

pub combined_few : (lits : List ℤ) → length (combined_literals lits) ≤ length lits
unfolding combined_literals
combined_few lits = omega (arith, few_from [] lits)

pub combined_lengths : (lits : List ℤ) (weights : List ℕ) → length (combined_literals lits) ≡ length (combined_weights lits weights)
unfolding combined_weights
combined_lengths lits weights = sym (length-map (combined_literals lits) (weight_named lits weights))

-- a combined weight has that of every line in it
pub named_positive : (lits : List ℤ) (weights : List ℕ) (x : ℤ) → length lits ≡ length weights → All (λ w. 1 ≤ w) weights → 1 ≤ occurs (literal_word x) (map literal_word lits) → 1 ≤ weight_named lits weights x
unfolding occurs weight_named
named_positive [] weights x e h k = absurd (omega arith)
named_positive (y ∷ lits) [] x e h k = absurd (omega arith)
named_positive (y ∷ lits) (w ∷ weights) x e h k = go (eqb (literal_word x) (literal_word y)) k (λ j. named_positive lits weights x (omega arith) h.1 j)
  where
    go : (b : Bool) → 1 ≤ cond b (suc (occurs (literal_word x) (words lits))) (occurs (literal_word x) (words lits)) →
        (1 ≤ occurs (literal_word x) (words lits) → 1 ≤ weight_named lits weights x) → 1 ≤ cond b w 0 + weight_named lits weights x
    go true j ih = omega (arith, h.0)
    go false j ih = omega (arith, ih j)

-- a literal that stands in no line has none
pub named_none : (lits : List ℤ) (weights : List ℕ) (x : ℤ) → occurs (literal_word x) (map literal_word lits) ≡ 0 → weight_named lits weights x ≡ 0
unfolding occurs weight_named
named_none [] weights x e = refl
named_none (y ∷ lits) [] x e = refl
named_none (y ∷ lits) (w ∷ weights) x e = go (eqb (literal_word x) (literal_word y)) e (λ j. named_none lits weights x j)
  where
    go : (b : Bool) → cond b (suc (occurs (literal_word x) (words lits))) (occurs (literal_word x) (words lits)) ≡ 0 →
        (occurs (literal_word x) (words lits) ≡ 0 → weight_named lits weights x ≡ 0) → cond b w 0 + weight_named lits weights x ≡ 0
    go true j ih = absurd (omega arith)
    go false j ih = omega (arith, ih j)

-- a list in which no literal stands twice is its own combined list
kept_from : (xs lits : List ℤ) → ((n : ℕ) → occurs n (words (xs ++ lits)) ≤ 1) → in_turn joined xs lits ≡ xs ++ lits
unfolding in_turn joined
kept_from xs [] h = sym (append-nil xs)
kept_from xs (x ∷ lits) h =
    let w : ℕ = literal_word x in
    let apart : occurs w (words (xs ++ (x ∷ lits))) ≡ occurs w (words xs) + occurs w (w ∷ words lits) =
    ap (occurs w) (map_append literal_word xs (x ∷ lits)) ∙ occurs_append w (words xs) (w ∷ words lits) in
    let gone : occurs w (words xs) ≡ 0 = omega (arith, apart, h w, occurs_here w w (words lits) refl) in
    let longer : joined xs x ≡ xs ++ (x ∷ []) = grown (occurs_not_among (words xs) w gone) in
    let same : (xs ++ (x ∷ [])) ++ lits ≡ xs ++ (x ∷ lits) = append_assoc xs (x ∷ []) lits in
    ap (λ (ys : List ℤ). in_turn joined ys lits) longer ∙
    (kept_from (xs ++ (x ∷ [])) lits (λ n. subst (λ (ys : List ℤ). occurs n (words ys) ≤ 1) (sym same) (h n)) ∙ same)
  where
    grown : among (words xs) (literal_word x) ≡ false → joined xs x ≡ xs ++ (x ∷ [])
    grown e = ap (λ (b : Bool). cond b xs (xs ++ (x ∷ []))) e

pub combined_same : (xs : List ℤ) → ((n : ℕ) → occurs n (map literal_word xs) ≤ 1) → combined_literals xs ≡ xs
unfolding combined_literals
combined_same xs h = kept_from [] xs h

map_same : (f g : ℤ → ℕ) (xs : List ℤ) → All (λ x. f x ≡ g x) xs → map f xs ≡ map g xs
map_same f g [] h = refl
map_same f g (x ∷ xs) h = ap₂ (λ (y : ℕ) (ys : List ℕ). y ∷ ys) h.0 (map_same f g xs h.1)

named_same : (xs : List ℤ) (ws : List ℕ) → length xs ≡ length ws → ((n : ℕ) → occurs n (words xs) ≤ 1) → map (weight_named xs ws) xs ≡ ws
unfolding weight_named
named_same [] [] e h = refl
named_same [] (w ∷ ws) e h = absurd (omega arith)
named_same (x ∷ xs) [] e h = absurd (omega arith)
named_same (x ∷ xs) (w ∷ ws) e h =
    let v : ℕ = literal_word x in
    let gone : occurs v (words xs) ≡ 0 = omega (arith, h v, occurs_here v v (words xs) refl) in
    let here : cond (eqb v v) w 0 + weight_named xs ws x ≡ w =
    ap₂ (λ (b : Bool) (k : ℕ). cond b w 0 + k) (eq-eqb v v refl) (named_none xs ws x gone) ∙ omega arith in
    let others : All (λ y. cond (eqb (literal_word y) v) w 0 + weight_named xs ws y ≡ weight_named xs ws y) xs =
    All_map (λ y (k : 1 ≤ occurs (literal_word y) (words xs)). ap (λ (b : Bool). cond b w 0 + weight_named xs ws y)
    (ne_eqb (literal_word y) v (λ q. absurd (omega (arith, gone, k, ap (λ (n : ℕ). occurs n (words xs)) q)))) ∙ omega arith) xs
    (All_source (λ n. 1 ≤ occurs n (words xs)) literal_word xs (All_self (words xs))) in
    ap₂ (λ (y : ℕ) (ys : List ℕ). y ∷ ys) here
    (map_same (weight_named (x ∷ xs) (w ∷ ws)) (weight_named xs ws) xs others ∙ named_same xs ws (omega arith) (λ n. omega (arith, h n, occurs_more n v (words xs))))

pub combined_weights_same : (xs : List ℤ) (ws : List ℕ) → length xs ≡ length ws → ((n : ℕ) → occurs n (map literal_word xs) ≤ 1) → combined_weights xs ws ≡ ws
unfolding combined_weights
combined_weights_same xs ws e h = ap (map (weight_named xs ws)) (combined_same xs h) ∙ named_same xs ws e h

-- combined again, the combined list is itself
pub combined_twice : (lits : List ℤ) → combined_literals (combined_literals lits) ≡ combined_literals lits
combined_twice lits = combined_same (combined_literals lits) (combined_once lits)

pub combined_weights_twice : (lits : List ℤ) (weights : List ℕ) → combined_weights (combined_literals lits) (combined_weights lits weights) ≡ combined_weights lits weights
combined_weights_twice lits weights = combined_weights_same (combined_literals lits) (combined_weights lits weights) (combined_lengths lits weights) (combined_once lits)

-- every literal of the lines stands in it
has_joined : (xs : List ℤ) (x : ℤ) (n : ℕ) → 1 ≤ occurs n (words xs) → 1 ≤ occurs n (words (joined xs x))
has_joined xs x n h = joins (λ ys. 1 ≤ occurs n (words ys)) xs x (λ e. h) (λ e. omega (arith, ap (occurs n) (map_append literal_word xs (x ∷ [])), occurs_append n (words xs) (literal_word x ∷ [])))

has_new : (xs : List ℤ) (x : ℤ) → 1 ≤ occurs (literal_word x) (words (joined xs x))
has_new xs x = joins (λ ys. 1 ≤ occurs (literal_word x) (words ys)) xs x (λ e. among_occurs (words xs) (literal_word x) e)
    (λ e. omega (arith, ap (occurs (literal_word x)) (map_append literal_word xs (x ∷ [])), occurs_append (literal_word x) (words xs) (literal_word x ∷ []), occurs_here (literal_word x) (literal_word x) [] refl))

has_from : (xs lits : List ℤ) (n : ℕ) → 1 ≤ occurs n (words xs) → 1 ≤ occurs n (words (in_turn joined xs lits))
unfolding in_turn
has_from xs [] n h = h
has_from xs (x ∷ lits) n h = has_from (joined xs x) lits n (has_joined xs x n h)

all_has : (xs lits : List ℤ) → All (λ y. 1 ≤ occurs (literal_word y) (words (in_turn joined xs lits))) lits
unfolding in_turn
all_has xs [] = tt
all_has xs (x ∷ lits) = (has_from (joined xs x) lits (literal_word x) (has_new xs x), all_has (joined xs x) lits)

pub combined_has : (lits : List ℤ) → All (λ y. 1 ≤ occurs (literal_word y) (map literal_word (combined_literals lits))) lits
unfolding combined_literals
combined_has lits = all_has [] lits
