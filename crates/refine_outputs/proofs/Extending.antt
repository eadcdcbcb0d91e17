-- Old outputs extended one record after the other, and one bucket after the other: the rule only appends, so the old records stand.
use mathlib.Core.Path.{◌≡◌, refl, sym, ap, ap₂, ◌∙◌, subst}
use mathlib.Core.Bool.{Bool, true, false, cond, false≢true}
use mathlib.Core.List.{List, [], ◌∷◌, ◌++◌, map, reverse, reverse-cons}
use Prim.Native.Nat.{ℕ, suc, ◌+◌, ◌≤◌, ◌<◌}
use native.Mathlib.Omega.{arith}
use lib.Dec.{eqb}
use lib.ListN.{length, get_or, take, drop, length-append, length-map, drop_of_length-le}
use lib.Seq.{take-append-le, length-take-le, drop-cons, get_or-take}
use lib.IntN.{ℤ, pos}
use Rattle.std.specs.List.{zip}
use Rattle.std.proofs.lemmas.List.{get_or-map}
use Rattle.std.proofs.lemmas.Slice.Zip.{get_or-zip, length-zip}
use borrow.Author.Tests.{eq-eqb, ne_eqb}
use Rattle.rules.specs.Lists.{keep, in_turn}
use Rattle.rules.specs.Records.{Record, node, output, waiting, unknown, Output, outputs, literal_word}
use Rattle.rules.specs.Totalizer.{Arena, write, take_number}
use Rattle.rules.specs.Refinement.{former_half, extend, extend_bucket}
use Rattle.laws.specs.Totalizer.Defines.{extend_keeps}
use Rattle.laws.specs.Lists.Facts.{map_append}
use Rattle.laws.specs.Records.Places.{outputs_append}
use Rattle.records.specs.Readers.{is_output, output_node, output_value, output_number}
use Rattle.records.specs.Carries.{Held, St, st, marks_of, Carries, Steps, Stores}
use Rattle.records.proofs.Grow.{Grows}
use Rattle.records.proofs.Read.{output_of}
use Rattle.records.proofs.Step.{full_more, steps_none, held}
use Rattle.totalizer_define.proofs.Growth.{turns_grow, extend_grows}
use Rattle.refine_outputs.specs.Old.{extend_each, extend_at}

-- What is needed grows ------------------------------------------------------------------------------------------------------------

pub each_grows : (n most : ℕ) (rs : List Record) (t : Arena) → Grows t (extend_each n most rs t)
unfolding extend_each
each_grows n most rs t = turns_grow (extend n most) (λ u o. extend_grows n most o u) (keep (λ o. eqb o.node n) (outputs rs)) t

pub bucket_grows : (before : List Record) (t : Arena) (n : ℕ) → Grows t (extend_bucket before t n)
unfolding extend_bucket extend_each
bucket_grows before t n = each_grows n (former_half before n) before t

pub buckets_grow : (before : List Record) (ns : List ℕ) (t : Arena) → Grows t (in_turn (extend_bucket before) t ns)
buckets_grow before ns t = turns_grow (extend_bucket before) (bucket_grows before) ns t

-- The old records stand -----------------------------------------------------------------------------------------------------------

-- the first `old` records of the arena are rs
pub record Begins (old : ℕ) (rs : List Record) (t : Arena) : Type 0 where
  pub first : take old t.records ≡ rs
  pub enough : old ≤ length t.records

module _ (old : ℕ) (rs : List Record) where
  begins_write : (half : Bool) (l r number : ℕ) (ps : List (ℕ × ℕ)) (t : Arena) → Begins old rs t → Begins old rs (write half l r number ps t)
  unfolding write
  begins_write half l r number ps t b = record { first = b.first; enough = b.enough }

  begins_take : (n v : ℕ) (t : Arena) → Begins old rs t → Begins old rs (take_number n v t)
  unfolding take_number
  begins_take n v t b =
      let one : List Record = output (record { node = n; value = v; number = t.fresh }) ∷ [] in
      record {
        first = take-append-le old t.records one b.enough ∙ b.first;
        enough = omega (arith, b.enough, length-append t.records one);
      }

  pub begins_each : (n most : ℕ) (qs : List Record) (t : Arena) → Begins old rs t → Begins old rs (extend_each n most qs t)
  unfolding extend_each in_turn
  begins_each n most qs t b = turns (keep (λ o. eqb o.node n) (outputs qs)) t b
    where
      turns : (os : List Output) (t : Arena) → Begins old rs t → Begins old rs (in_turn (extend n most) t os)
      turns [] t b = b
      turns (o ∷ os) t b = turns os (extend n most t o) (extend_keeps (Begins old rs) begins_write begins_take n most t o b)

-- One record ------------------------------------------------------------------------------------------------------------------------

-- a record that is no output
no_output : (r : Record) → is_output r ≡ false → outputs (r ∷ []) ≡ []
unfolding outputs is_output
no_output (node x) h = refl
no_output (output o) h = absurd (false≢true (sym h))
no_output (waiting w) h = refl
no_output unknown h = refl

none_each : (n most : ℕ) (rs : List Record) (t : Arena) → outputs rs ≡ [] → t ≡ extend_each n most rs t
unfolding extend_each in_turn keep
none_each n most rs t e = rw e refl

other_each : (n most : ℕ) (rs : List Record) (o : Output) (t : Arena) → outputs rs ≡ o ∷ [] → (o.node ≡ n → ⊥) → t ≡ extend_each n most rs t
unfolding extend_each in_turn keep
other_each n most rs o t e ne = rw (e, ne_eqb o.node n ne) refl

one_each : (n most : ℕ) (rs : List Record) (o : Output) (t : Arena) → outputs rs ≡ o ∷ [] → o.node ≡ n → extend n most t o ≡ extend_each n most rs t
unfolding extend_each in_turn keep
one_each n most rs o t e is = rw (e, eq-eqb o.node n is) refl

output_one : (r : Record) (o : Output) → r ≡ output o → outputs (r ∷ []) ≡ o ∷ []
unfolding outputs
output_one r o e = rw e refl

module _ (s : List ℕ) (c : List ℤ) (m : Held) (n most i : ℕ) (b : Bool) (going : m.full ≡ false)
    (eb : (rs : List Record) → Stores s m.records rs → b ≡ is_output (get_or rs i unknown)) where
  pub at_none : b ≡ false → Steps (st s c m) (st s c m) (extend_at n most i)
  unfolding extend_at
  at_none other =
      held s c m (st s c m) (extend_at n most i) going (λ t at f. (
        (λ u. u),
        steps_none (st s c m),
        none_each n most (get_or t.records i unknown ∷ []) t (no_output (get_or t.records i unknown) (sym (eb t.records at) ∙ other)),
      ))

  module _ (is : b ≡ true) (x : ℕ) (ex : (rs : List Record) → Stores s m.records rs → x ≡ output_node (get_or rs i unknown)) where
    pub at_other : (x ≡ n → ⊥) → Steps (st s c m) (st s c m) (extend_at n most i)
    unfolding extend_at output_node
    at_other ne =
        held s c m (st s c m) (extend_at n most i) going (λ t at f.
        let r : Record = get_or t.records i unknown in
        let w = output_of r (sym (eb t.records at) ∙ is) in (
          (λ u. u),
          steps_none (st s c m),
          other_each n most (r ∷ []) w.0 t (output_one r w.0 w.1) (λ q. ne (ex t.records at ∙ (ap output_node w.1 ∙ q))),
        ))

    pub at_done : (v o : ℕ) (τ : St) → x ≡ n → ((rs : List Record) → Stores s m.records rs → v ≡ output_value (get_or rs i unknown)) →
        ((rs : List Record) → Stores s m.records rs → o ≡ output_number (get_or rs i unknown)) →
        ((w : Output) → v ≡ w.value → o ≡ literal_word (pos w.number) → Steps (st s c m) τ (λ t. extend n most t w)) → Steps (st s c m) τ (extend_at n most i)
    unfolding extend_at output_node output_value output_number
    at_done v o τ here ev eo p =
        held s c m τ (extend_at n most i) going (λ t at f.
        let r : Record = get_or t.records i unknown in
        let w = output_of r (sym (eb t.records at) ∙ is) in (
          (λ u. extend n most u w.0),
          p w.0 (ev t.records at ∙ ap output_value w.1) (eo t.records at ∙ ap output_number w.1),
          one_each n most (r ∷ []) w.0 t (output_one r w.0 w.1) (sym (ap output_node w.1) ∙ (sym (ex t.records at) ∙ here)),
        ))

-- The records in turn -----------------------------------------------------------------------------------------------------------------

keep_append : (p : Output → Bool) (xs ys : List Output) → keep p (xs ++ ys) ≡ keep p xs ++ keep p ys
unfolding keep
keep_append p [] ys = refl
keep_append p (x ∷ xs) ys = go (p x) (keep_append p xs ys)
  where
    go : (b : Bool) → keep p (xs ++ ys) ≡ keep p xs ++ keep p ys → cond b (x ∷ keep p (xs ++ ys)) (keep p (xs ++ ys)) ≡ cond b (x ∷ keep p xs) (keep p xs) ++ keep p ys
    go true ih = ap (λ (z : List Output). x ∷ z) ih
    go false ih = ih

turns_append : (f : Arena → Output → Arena) (t : Arena) (xs ys : List Output) → in_turn f t (xs ++ ys) ≡ in_turn f (in_turn f t xs) ys
unfolding in_turn
turns_append f t [] ys = refl
turns_append f t (x ∷ xs) ys = turns_append f (f t x) xs ys

-- first some records, then the others
each_append : (n most : ℕ) (rs qs : List Record) (t : Arena) → extend_each n most (rs ++ qs) t ≡ extend_each n most qs (extend_each n most rs t)
unfolding extend_each
each_append n most rs qs t =
    ap (in_turn (extend n most) t) (ap (keep (λ o. eqb o.node n)) (outputs_append rs qs) ∙ keep_append (λ o. eqb o.node n) (outputs rs) (outputs qs)) ∙
    turns_append (extend n most) t (keep (λ o. eqb o.node n) (outputs rs)) (keep (λ o. eqb o.node n) (outputs qs))

-- the old records from i on, extended from here, are all of them extended
pub record Going (σ₀ σ : St) (old n most i : ℕ) : Type 0 where
  pub at : (e : St) (t : Arena) → Carries e σ₀ t → old ≤ length t.records →
      (u : Arena) × Carries e σ u × Begins old (take old t.records) u ×
      (extend_each n most (drop i (take old t.records)) u ≡ extend_each n most (take old t.records) t)

pub going_start : (σ : St) (old n most : ℕ) → Going σ σ old n most 0
going_start σ old n most = record { at = λ e t h i. (t, h, record { first = refl; enough = i }, refl) }

pub going_turn : (σ₀ σ τ : St) (old n most i : ℕ) → i < old → Steps σ τ (extend_at n most i) → Going σ₀ σ old n most i → Going σ₀ τ old n most (i + 1)
unfolding extend_at
going_turn σ₀ σ τ old n most i low p g = record {
  at = λ e t h k.
      let x = g.at e t h k in
      let u : Arena = x.0 in
      let rs : List Record = take old t.records in
      let long : length rs ≡ old = length-take-le old t.records k in
      let here : get_or u.records i unknown ≡ get_or rs i unknown =
      sym (get_or-take old u.records i unknown low) ∙ ap (λ (z : List Record). get_or z i unknown) x.2.first in
      let one : extend_at n most i u ≡ extend_each n most (get_or rs i unknown ∷ []) u = ap (λ (r : Record). extend_each n most (r ∷ []) u) here in
      let up : suc i ≡ i + 1 = omega arith in
      let split : drop i rs ≡ (get_or rs i unknown ∷ []) ++ drop (i + 1) rs =
      drop-cons rs i unknown (omega arith) ∙ ap (λ (j : ℕ). get_or rs i unknown ∷ drop j rs) up in (
        extend_at n most i u,
        p.go e u x.1,
        begins_each old rs n most (get_or u.records i unknown ∷ []) u x.2,
        ap (extend_each n most (drop (i + 1) rs)) one ∙
            (sym (each_append n most (get_or rs i unknown ∷ []) (drop (i + 1) rs) u) ∙ (ap (λ (z : List Record). extend_each n most z u) (sym split) ∙ x.3)),
      );
}

pub going_end : (σ₀ σ : St) (old n most i : ℕ) → old ≤ i → Going σ₀ σ old n most i →
    (e : St) (t : Arena) → Carries e σ₀ t → old ≤ length t.records → Carries e σ (extend_each n most (take old t.records) t)
unfolding extend_each keep in_turn outputs
going_end σ₀ σ old n most i high g e t h k =
    let x = g.at e t h k in
    let rs : List Record = take old t.records in
    let none : drop i rs ≡ [] = drop_of_length-le rs {i = i} (omega (arith, length-take-le old t.records k)) in
    subst (Carries e σ) (ap (λ (z : List Record). extend_each n most z x.0) (sym none) ∙ x.3) x.1

-- the room ended on the way
pub going_full : (σ₀ σ : St) (old n most i : ℕ) → (marks_of σ).full ≡ true → Going σ₀ σ old n most i →
    (e : St) (t : Arena) → Carries e σ₀ t → old ≤ length t.records → Carries e σ (extend_each n most (take old t.records) t)
going_full σ₀ σ old n most i k g e t h low =
    let x = g.at e t h low in
    let rs : List Record = drop i (take old t.records) in
    subst (Carries e σ) x.3 (full_more e σ x.0 (extend_each n most rs x.0) x.1 k (each_grows n most rs x.0))

-- The buckets in turn -----------------------------------------------------------------------------------------------------------------

-- a bucket whose old outputs are those of the records before
bucket_is : (before rs : List Record) (n most : ℕ) (t : Arena) → outputs rs ≡ outputs before → most ≡ former_half before n →
    extend_each n most rs t ≡ extend_bucket before t n
unfolding extend_each extend_bucket
bucket_is before rs n most t e f = rw (e, f) refl

map_reverse : (f : ℕ → ℕ) (xs : List ℕ) → reverse (map f xs) ≡ map f (reverse xs)
map_reverse f [] = refl
map_reverse f (x ∷ xs) =
    reverse-cons (f x) (map f xs) ∙
    (ap (λ (t : List ℕ). t ++ (f x ∷ [])) (map_reverse f xs) ∙ (sym (map_append f (reverse xs) (x ∷ [])) ∙ ap (map f) (sym (reverse-cons x xs))))

-- buckets and their former halves, from the last to the first, as pairs
abbrev pub pairs : List ℕ → List ℕ → List (ℕ × ℕ)
pairs xs ys = zip (reverse xs) (reverse ys)

module _ (f : ℕ → ℕ) (xs ys : List ℕ) (e : ys ≡ map f xs) where
  paired : pairs xs ys ≡ zip (reverse xs) (map f (reverse xs))
  paired = ap (zip (reverse xs)) (ap reverse e ∙ map_reverse f xs)

  images : length (map f (reverse xs)) ≡ length (reverse xs)
  images = length-map (reverse xs) f

  as_many : length (pairs xs ys) ≡ length (reverse xs)
  as_many = omega (arith, ap length paired, length-zip (reverse xs) (map f (reverse xs)), images)

  -- the bucket and half at a place
  pair_at : (i : ℕ) (p : ℕ × ℕ) → i < length (pairs xs ys) → p ≡ get_or (pairs xs ys) i p → (p.0 ≡ get_or (reverse xs) i p.0) × (p.1 ≡ f p.0)
  pair_at i p h q =
      let low : i < length (reverse xs) = omega (arith, as_many) in
      let at : p ≡ (get_or (reverse xs) i p.0, get_or (map f (reverse xs)) i p.1) =
      q ∙ (ap (λ (z : List (ℕ × ℕ)). get_or z i p) paired ∙ get_or-zip (reverse xs) (map f (reverse xs)) i p low (omega (arith, images))) in
      let first : p.0 ≡ get_or (reverse xs) i p.0 = ap (λ (z : ℕ × ℕ). z.0) at in
      (first, ap (λ (z : ℕ × ℕ). z.1) at ∙ (get_or-map f (reverse xs) i p.0 p.1 low ∙ ap f (sym first)))

-- after i buckets: those that are left, extended from here, are all of them extended
pub record Passing (σ₀ σ : St) (old : ℕ) (xs ys : List ℕ) (i : ℕ) : Type 0 where
  pub at : (e : St) (t : Arena) (before : List Record) → Carries e σ₀ t → old ≤ length t.records → outputs (take old t.records) ≡ outputs before →
      ys ≡ map (former_half before) xs →
      (u : Arena) × Carries e σ u × Begins old (take old t.records) u ×
      (in_turn (extend_bucket before) u (drop i (reverse xs)) ≡ in_turn (extend_bucket before) t (reverse xs))

-- what `extend_bucket` promises
abbrev pub Extends : St → St → ℕ → ℕ → ℕ → Type 0
Extends σ τ old n most = (e : St) (t : Arena) → Carries e σ t → old ≤ length t.records → Carries e τ (extend_each n most (take old t.records) t)

pub passing_turn : (σ₀ σ τ : St) (old : ℕ) (xs ys : List ℕ) (i : ℕ) (p : ℕ × ℕ) → (i < length (pairs xs ys)) × (p ≡ get_or (pairs xs ys) i p) →
    Extends σ τ old p.0 p.1 → Passing σ₀ σ old xs ys i → Passing σ₀ τ old xs ys (i + 1)
unfolding in_turn
passing_turn σ₀ σ τ old xs ys i p here step g = record {
  at = λ e t before h k same halves.
      let x = g.at e t before h k same halves in
      let u : Arena = x.0 in
      let n : ℕ = p.0 in
      let rs : List Record = take old u.records in
      let w : Arena = extend_each n p.1 rs u in
      let pair = pair_at (former_half before) xs ys halves i p here.0 here.1 in
      let is : w ≡ extend_bucket before u n = bucket_is before rs n p.1 u (ap outputs x.2.first ∙ same) pair.1 in
      let up : suc i ≡ i + 1 = omega arith in
      let left : drop i (reverse xs) ≡ n ∷ drop (i + 1) (reverse xs) =
      drop-cons (reverse xs) i n (omega (arith, as_many (former_half before) xs ys halves, here.0)) ∙ ap₂ (λ (c j : ℕ). c ∷ drop j (reverse xs)) (sym pair.0) up in (
        w,
        step e u x.1 x.2.enough,
        begins_each old (take old t.records) n p.1 rs u x.2,
        ap (λ (a : Arena). in_turn (extend_bucket before) a (drop (i + 1) (reverse xs))) is ∙ (ap (in_turn (extend_bucket before) u) (sym left) ∙ x.3),
      );
}

pub passing_end : (σ₀ σ : St) (old : ℕ) (xs ys : List ℕ) (i : ℕ) → i ≡ length (pairs xs ys) → Passing σ₀ σ old xs ys i →
    (e : St) (t : Arena) (before : List Record) → Carries e σ₀ t → old ≤ length t.records → outputs (take old t.records) ≡ outputs before →
    ys ≡ map (former_half before) xs → Carries e σ (in_turn (extend_bucket before) t (reverse xs))
unfolding in_turn
passing_end σ₀ σ old xs ys i all g e t before h k same halves =
    let x = g.at e t before h k same halves in
    let none : drop i (reverse xs) ≡ [] = drop_of_length-le (reverse xs) {i = i} (omega (arith, as_many (former_half before) xs ys halves)) in
    subst (Carries e σ) (ap (in_turn (extend_bucket before) x.0) (sym none) ∙ x.3) x.1

-- the room ended on the way
pub passing_full : (σ₀ σ : St) (old : ℕ) (xs ys : List ℕ) (i : ℕ) → (marks_of σ).full ≡ true → Passing σ₀ σ old xs ys i →
    (e : St) (t : Arena) (before : List Record) → Carries e σ₀ t → old ≤ length t.records → outputs (take old t.records) ≡ outputs before →
    ys ≡ map (former_half before) xs → Carries e σ (in_turn (extend_bucket before) t (reverse xs))
passing_full σ₀ σ old xs ys i full g e t before h k same halves =
    let x = g.at e t before h k same halves in
    let ns : List ℕ = drop i (reverse xs) in
    subst (Carries e σ) x.3 (full_more e σ x.0 (in_turn (extend_bucket before) x.0 ns) x.1 full (buckets_grow before ns x.0))
