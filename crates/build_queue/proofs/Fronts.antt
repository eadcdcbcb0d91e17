-- The run at the front of a sorted line, and what stands behind it.
use mathlib.Core.Path.{◌≡◌, refl, sym, ap, ap₂, ◌∙◌, subst}
use mathlib.Core.Logic.{◌≢◌, ◌⊎◌, inl, inr}
use mathlib.Core.Bool.{Bool, true, false, not, cond}
use mathlib.Core.List.{List, [], ◌∷◌, ◌++◌, map, append-nil}
use Prim.Native.Nat.{ℕ, zero, suc, ◌+◌, ◌-◌, ◌≤◌, ◌<◌}
use native.Mathlib.Omega.{arith}
use lib.Dec.{eqb}
use lib.ListN.{length, get_or, take, drop}
use lib.Seq.{drop-cons}
use borrow.Author.Tests.{ltb-false, eq-eqb, ne_eqb}
use Rattle.rules.specs.Lists.{keep}
use Rattle.rules.specs.Records.{Entry}
use Rattle.rules.specs.Build.{largest}
use Rattle.rules.specs.Queue.{heavier, run, others}
use Rattle.laws.specs.Lists.Facts.{All, All_map, All_second}
use Rattle.laws.specs.Lists.Sorts.{Ordered}
use Rattle.laws.specs.Queue.Runs.{all_largest}
use Rattle.records_words.specs.Words.{word_at}
use Rattle.records.proofs.Grow.{le_or}
use Rattle.build_line.specs.Work.{line_from, line}
use Rattle.build_line.proofs.Lines.{line_parts}
use Rattle.build_line.proofs.Firsts.{First}

keep_append : {A : Type 0} (p : A → Bool) (xs ys : List A) → keep p (xs ++ ys) ≡ keep p xs ++ keep p ys
unfolding keep
keep_append p [] ys = refl
keep_append {A} p (x ∷ xs) ys = go (p x) (keep_append p xs ys)
  where
    go : (b : Bool) → keep p (xs ++ ys) ≡ keep p xs ++ keep p ys →
        cond b (x ∷ keep p (xs ++ ys)) (keep p (xs ++ ys)) ≡ cond b (x ∷ keep p xs) (keep p xs) ++ keep p ys
    go true ih = ap (λ (l : List A). x ∷ l) ih
    go false ih = ih

keep_all : {A : Type 0} (p : A → Bool) (xs : List A) → All (λ x. p x ≡ true) xs → keep p xs ≡ xs
unfolding keep
keep_all p [] h = refl
keep_all {A} p (x ∷ xs) h = ap₂ (λ (b : Bool) (l : List A). cond b (x ∷ l) l) h.0 (keep_all p xs h.1)

keep_none : {A : Type 0} (p : A → Bool) (xs : List A) → All (λ x. p x ≡ false) xs → keep p xs ≡ []
unfolding keep
keep_none p [] h = refl
keep_none {A} p (x ∷ xs) h = ap₂ (λ (b : Bool) (l : List A). cond b (x ∷ l) l) h.0 (keep_none p xs h.1)

-- entries of weight w before lighter ones are the run
front_run : (w : ℕ) (xs ys : List Entry) → All (λ e. e.weight ≡ w) xs → All (λ e. e.weight < w) ys → run w (xs ++ ys) ≡ xs
unfolding run
front_run w xs ys h k =
    keep_append (λ e. eqb e.weight w) xs ys ∙
    (ap₂ (λ (a b : List Entry). a ++ b)
    (keep_all (λ e. eqb e.weight w) xs (All_map (λ e p. eq-eqb e.weight w p) xs h))
    (keep_none (λ e. eqb e.weight w) ys (All_map (λ e p. ne_eqb e.weight w (omega arith)) ys k)) ∙
    append-nil xs)

front_others : (w : ℕ) (xs ys : List Entry) → All (λ e. e.weight ≡ w) xs → All (λ e. e.weight < w) ys → others w (xs ++ ys) ≡ ys
unfolding others
front_others w xs ys h k =
    keep_append (λ e. not (eqb e.weight w)) xs ys ∙
    ap₂ (λ (a b : List Entry). a ++ b)
    (keep_none (λ e. not (eqb e.weight w)) xs (All_map (λ e p. ap not (eq-eqb e.weight w p)) xs h))
    (keep_all (λ e. not (eqb e.weight w)) ys (All_map (λ e p. ap not (ne_eqb e.weight w (omega arith))) ys k))

-- Sorted lines -------------------------------------------------------------------------------------------------------------

not_heavier : (x y : Entry) → heavier y x ≡ false → y.weight ≤ x.weight
unfolding heavier
not_heavier x y e = ltb-false x.weight y.weight e

pub ordered_second : (xs ys : List Entry) → Ordered heavier (xs ++ ys) → Ordered heavier ys
ordered_second [] ys h = h
ordered_second (x ∷ xs) ys h = ordered_second xs ys h.1

-- the first is the largest
pub first_largest : (e : Entry) (es : List Entry) → Ordered heavier (e ∷ es) → largest (e ∷ es) ≡ e.weight
unfolding largest
first_largest e es h =
    let low : largest es ≤ e.weight = all_largest es e.weight (All_map (λ y p. not_heavier e y p) es h.0) in
    omega arith

-- behind the first one that differs all are lighter
lighter : (x : Entry) (xs : List Entry) (y : Entry) (ys : List Entry) → Ordered heavier (x ∷ (xs ++ (y ∷ ys))) → y.weight ≢ x.weight →
    All (λ e. e.weight < x.weight) (y ∷ ys)
lighter x xs y ys h ne =
    let less : y.weight ≤ x.weight = not_heavier x y (All_second (λ e. heavier e x ≡ false) xs (y ∷ ys) h.0).0 in
    (omega arith, All_map (λ z p. let k : z.weight ≤ y.weight = not_heavier y z p in omega arith) ys (ordered_second xs (y ∷ ys) h.1).0)

-- Lines --------------------------------------------------------------------------------------------------------------------

pub line_none : (ws : List ℕ) (h : ℕ) → 512 ≤ h → line ws h ≡ []
unfolding line line_from
line_none ws h p = let e : 512 - h ≡ 0 = omega arith in ap (line_from ws h) e

pub line_first : (ws : List ℕ) (h : ℕ) → h < 512 → line ws h ≡ record { node = get_or ws h 0; weight = get_or ws (512 + h) 0 } ∷ line ws (suc h)
unfolding line line_from
line_first ws h p = let e : 512 - h ≡ suc (512 - suc h) = omega arith in ap (line_from ws h) e

pub line_split : (ws : List ℕ) (h i : ℕ) → h ≤ i → i ≤ 512 → line ws h ≡ line_from ws h (i - h) ++ line ws i
unfolding line
line_split ws h i p q =
    let a : 512 - h ≡ i - h + (512 - i) = omega arith in
    let b : h + (i - h) ≡ i = omega arith in
    ap (line_from ws h) a ∙ (line_parts ws h (i - h) (512 - i) ∙ ap (λ (k : ℕ). line_from ws h (i - h) ++ line_from ws k (512 - i)) b)

-- the nodes of a line's front are words in a row
pub line_nodes : (ws : List ℕ) (h k : ℕ) → h + k ≤ length ws → take k (drop h ws) ≡ map (λ (e : Entry). e.node) (line_from ws h k)
unfolding line_from
line_nodes ws h zero p = refl
line_nodes ws h (suc k) p =
    ap (take (suc k)) (drop-cons ws h 0 (omega arith)) ∙ ap (λ (l : List ℕ). get_or ws h 0 ∷ l) (line_nodes ws (suc h) k (omega arith))

-- the largest weight stands first, if anything does
pub weight_none : (ws : List ℕ) (h : ℕ) → 512 ≤ h → 0 ≡ largest (line ws h)
unfolding largest
weight_none ws h p = sym (ap largest (line_none ws h p))

pub weight_first : (ws : List ℕ) (h w : ℕ) → h < 512 → Ordered heavier (line ws h) → w ≡ word_at ws (512 + h) → w ≡ largest (line ws h)
unfolding word_at
weight_first ws h w p o e =
    let x : Entry = record { node = get_or ws h 0; weight = get_or ws (512 + h) 0 } in
    e ∙ sym (ap largest (line_first ws h p) ∙ first_largest x (line ws (suc h)) (subst (Ordered heavier) (line_first ws h p) o))

-- The run ------------------------------------------------------------------------------------------------------------------

-- the entries from h to i have weight w
record Running (ws : List ℕ) (h i w : ℕ) : Type 0 where
  pub after : h < i
  pub within : i ≤ 512
  pub same : All (λ e. e.weight ≡ w) (line_from ws h (i - h))

pub record Run (ws : List ℕ) (h r w : ℕ) : Type 0 where
  pub after : h < r
  pub within : r ≤ 512
  pub taken : line_from ws h (r - h) ≡ run w (line ws h)
  pub kept : line ws r ≡ others w (line ws h)

line_all : (ws : List ℕ) (h k w : ℕ) → ((i : ℕ) → h ≤ i → i < h + k → get_or ws (512 + i) 0 ≡ w) → All (λ e. e.weight ≡ w) (line_from ws h k)
unfolding line_from
line_all ws h zero w same = tt
line_all ws h (suc k) w same = (same h (omega arith) (omega arith), line_all ws (suc h) k w (λ i p q. same i (omega arith) (omega arith)))

run_done : (ws : List ℕ) (h i w : ℕ) → All (λ e. e.weight < w) (line ws i) → Running ws h i w → Run ws h i w
run_done ws h i w low r =
    let parts : line ws h ≡ line_from ws h (i - h) ++ line ws i = line_split ws h i (omega (arith, r.after)) r.within in
    record {
      after = r.after;
      within = r.within;
      taken = sym (ap (run w) parts ∙ front_run w (line_from ws h (i - h)) (line ws i) r.same low);
      kept = sym (ap (others w) parts ∙ front_others w (line_from ws h (i - h)) (line ws i) r.same low);
    }

-- the line ends with the run
run_last : (ws : List ℕ) (h i w : ℕ) → 512 ≤ i → Running ws h i w → Run ws h i w
run_last ws h i w p r = run_done ws h i w (subst (All (λ e. e.weight < w)) (sym (line_none ws i p)) tt) r

-- another weight follows
run_ends : (ws : List ℕ) (h i w : ℕ) → i < 512 → Ordered heavier (line ws h) → get_or ws (512 + i) 0 ≢ w → Running ws h i w → Run ws h i w
unfolding line_from
run_ends ws h i w p o ne r = run_done ws h i w (subst (All (λ e. e.weight < w)) (sym (line_first ws i p)) low) r
  where
    first : Entry
    first = record { node = get_or ws h 0; weight = get_or ws (512 + h) 0 }

    next : Entry
    next = record { node = get_or ws i 0; weight = get_or ws (512 + i) 0 }

    more : List Entry
    more = line_from ws (suc h) (i - suc h)

    front : line_from ws h (i - h) ≡ first ∷ more
    front = let k : i - h ≡ suc (i - suc h) = omega (arith, r.after) in ap (line_from ws h) k

    is : first.weight ≡ w
    is = (subst (All (λ e. e.weight ≡ w)) front r.same).0

    all : Ordered heavier (first ∷ (more ++ (next ∷ line ws (suc i))))
    all = subst (Ordered heavier)
        (line_split ws h i (omega (arith, r.after)) r.within ∙ ap₂ (λ (a b : List Entry). a ++ b) front (line_first ws i p)) o

    low : All (λ e. e.weight < w) (next ∷ line ws (suc i))
    low = subst (λ (k : ℕ). All (λ e. e.weight < k) (next ∷ line ws (suc i))) is
        (lighter first more next (line ws (suc i)) all (λ z. ne (z ∙ is)))

-- the run ends before the first entry of another weight
pub run_first : (ws : List ℕ) (h w u : ℕ) → h < 512 → Ordered heavier (line ws h) → w ≡ largest (line ws h) →
    First (λ i. word_at ws (512 + i) ≢ w) (λ i. word_at ws (512 + i) ≡ w) (h + 1) 512 u → Run ws h u w
unfolding word_at
run_first ws h w u p o e f = go (le_or 512 u)
  where
    same : (i : ℕ) → h ≤ i → i < h + (u - h) → get_or ws (512 + i) 0 ≡ w
    same i j k = at (le_or (h + 1) i)
      where
        at : (h + 1 ≤ i) ⊎ (h + 1 ≤ i → ⊥) → get_or ws (512 + i) 0 ≡ w
        at (inl x) = f.before i x (omega arith)
        at (inr x) =
            let is : h ≡ i = omega arith in
            subst (λ (k : ℕ). get_or ws (512 + k) 0 ≡ w) is (weight_first ws h (get_or ws (512 + h) 0) p o refl ∙ sym e)

    running : Running ws h u w
    running = record { after = omega (arith, f.low); within = f.high; same = line_all ws h (u - h) w same }

    go : (512 ≤ u) ⊎ (512 ≤ u → ⊥) → Run ws h u w
    go (inl x) = run_last ws h u w x running
    go (inr x) = run_ends ws h u w (omega arith) o (f.here (omega arith)) running

-- the run of the largest weight, as it is promised
pub run_found : (ws : List ℕ) (h r w : ℕ) → w ≡ largest (line ws h) → Run ws h r w →
    (h < r) × (r ≤ 512) × (line_from ws h (r - h) ≡ run (largest (line ws h)) (line ws h)) × (line ws r ≡ others (largest (line ws h)) (line ws h))
run_found ws h r w e x = (x.after, x.within, x.taken ∙ ap (λ (k : ℕ). run k (line ws h)) e, x.kept ∙ ap (λ (k : ℕ). others k (line ws h)) e)

pub found_run : (ws : List ℕ) (h r w : ℕ) → w ≡ largest (line ws h) →
    (h < r) × (r ≤ 512) × (line_from ws h (r - h) ≡ run (largest (line ws h)) (line ws h)) × (line ws r ≡ others (largest (line ws h)) (line ws h)) →
    Run ws h r w
found_run ws h r w e x = record {
  after = x.0;
  within = x.1;
  taken = x.2 ∙ ap (λ (k : ℕ). run k (line ws h)) (sym e);
  kept = x.3 ∙ ap (λ (k : ℕ). others k (line ws h)) (sym e);
}
