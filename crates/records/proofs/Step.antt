-- Steps of a rule over lent memory, composed.
use mathlib.Core.Path.{◌≡◌, refl, sym, ap, ◌∙◌, subst}
use mathlib.Core.Logic.{◌⊎◌, inl, inr}
use mathlib.Core.Bool.{true, false, true≢false}
use mathlib.Core.List.{List, ◌++◌}
use Prim.Native.Nat.{ℕ, ◌*◌, ◌≤◌}
use native.Mathlib.Omega.{arith}
use lib.ListN.{length, take, drop, length-append}
use lib.Seq.{take-append-le, take-take, length-take-le}
use lib.IntN.{ℤ}
use Rattle.rules.specs.Records.{image_of}
use Rattle.rules.specs.Totalizer.{Arena}
use Rattle.rules.specs.Build.{clause_words}
use Rattle.laws.specs.Records.Words.{image_length}
use Rattle.records.specs.Carries.{Held, ended, St, st, store_of, buffer_of, marks_of, written, Fits, Holds, Carries, Steps, Makes, Stores}
use Rattle.records_words.specs.Words.{laid}
use Rattle.records_words.proofs.Lay.{laid_length, laid_front}
use Rattle.records.proofs.Grow.{Grows, fits_less, fits_or}

pub steps_none : (σ : St) → Steps σ σ (λ t. t)
steps_none σ = record { go = λ e t h. h }

pub steps_then : (σ τ υ : St) (f g : Arena → Arena) → Steps σ τ f → Steps τ υ g → Steps σ υ (λ t. g (f t))
steps_then σ τ υ f g p q = record { go = λ e t h. q.go e (f t) (p.go e t h) }

pub steps_same : (σ τ : St) (f g : Arena → Arena) → ((t : Arena) → f t ≡ g t) → Steps σ τ f → Steps σ τ g
steps_same σ τ f g e p = record { go = λ x t h. subst (Carries x τ) (e t) (p.go x t h) }

-- what does not fit is carried by a full mark, whatever it is
pub over : (e τ : St) (t u : Arena) → Carries e τ t → (Fits e t → ⊥) → (Fits e u → ⊥) → Carries e τ u
over e τ t u h p q = record {
  same_store = h.same_store;
  same_buffer = h.same_buffer;
  kept_store = h.kept_store;
  kept_buffer = h.kept_buffer;
  fit = λ f. absurd (q f);
  full = λ f. h.full p;
}

-- full: what needs more is carried too
pub full_more : (e σ : St) (t u : Arena) → Carries e σ t → (marks_of σ).full ≡ true → Grows t u → Carries e σ u
full_more e σ t u h k g =
    let nay : Fits e t → ⊥ = λ q. true≢false (sym k ∙ (h.fit q).not_full) in
    over e σ t u h nay (λ q. nay (fits_less e t u g q))

-- already full: nothing more is done, and the rule would need more still
pub stop : (σ : St) (f : Arena → Arena) → ((t : Arena) → Grows t (f t)) → (marks_of σ).full ≡ true → Steps σ σ f
stop σ f g k = record { go = λ e t h. full_more e σ t (f t) h k (g t) }

-- the room ended at f: g after it does nothing more
pub ended_then : (σ τ : St) (f g : Arena → Arena) → Steps σ τ f → ((t : Arena) → Grows t (g t)) → (marks_of τ).full ≡ true → Steps σ τ (λ t. g (f t))
ended_then σ τ f g p grows k = steps_then σ τ τ f g p (stop τ g grows k)

-- not full: what is carried fits, and is held
pub going : (e σ : St) (t : Arena) → Carries e σ t → (marks_of σ).full ≡ false → Fits e t × Holds e σ t
going e σ t h k = go (fits_or e t)
  where
    go : Fits e t ⊎ (Fits e t → ⊥) → Fits e t × Holds e σ t
    go (inl f) = (f, h.fit f)
    go (inr f) = absurd (true≢false (sym (h.full f) ∙ k))

-- the room ends here
pub filled : (s : List ℕ) (c : List ℤ) (m : Held) (f : Arena → Arena) → m.full ≡ false →
    ((e : St) (t : Arena) → Carries e (st s c m) t → Fits e t → Holds e (st s c m) t → Fits e (f t) → ⊥) → Steps (st s c m) (st s c ended) f
filled s c m f k nay = record {
  go = λ e t h. let g : Fits e t × Holds e (st s c m) t = going e (st s c m) t h k in record {
    same_store = h.same_store;
    same_buffer = h.same_buffer;
    kept_store = h.kept_store;
    kept_buffer = h.kept_buffer;
    fit = λ q. absurd (nay e t h g.0 g.1 q);
    full = λ q. refl;
  };
}

pub kept_by : (n : ℕ) (c xs : List ℤ) → n ≤ length c → take n (laid (take n c ++ xs) c) ≡ take n c
unfolding laid
kept_by n c xs i =
    let k : length (take n c) ≡ n = length-take-le n c i in
    take-append-le n (take n c ++ xs) (drop (length (take n c ++ xs)) c) (omega (arith, length-append (take n c) xs)) ∙
    (take-append-le n (take n c) xs (omega arith) ∙ take-take n n c (omega arith))

-- what fits and is held is carried
pub carried : (e τ : St) (t : Arena) → Fits e t → Holds e τ t →
    take (8 * (marks_of e).records) (store_of τ) ≡ take (8 * (marks_of e).records) (store_of e) → Carries e τ t
unfolding written
carried e τ t f h k =
    let in_e : (marks_of e).words ≤ length (buffer_of e) = omega (arith, h.words_low, f.words_fit) in
    record {
      same_store = ap length h.store_is ∙ laid_length (image_of t.records) (store_of e) (omega (arith, image_length t.records, f.records_fit));
      same_buffer = ap length h.buffer_is ∙ laid_length (written e t) (buffer_of e) f.words_fit;
      kept_store = k;
      kept_buffer = ap (take (marks_of e).words) h.buffer_is ∙ kept_by (marks_of e).words (buffer_of e) (clause_words t.clauses) in_e;
      fit = λ q. h;
      full = λ q. absurd (q f);
    }

-- one step done: it fits and is held, and the entry's words are kept
pub done : (σ τ : St) (f : Arena → Arena) → (marks_of σ).full ≡ false →
    ((e : St) (t : Arena) → Carries e σ t → Fits e t → Holds e σ t →
    (Fits e (f t) × Holds e τ (f t)) × (take (8 * (marks_of e).records) (store_of τ) ≡ take (8 * (marks_of e).records) (store_of e))) →
    Steps σ τ f
done σ τ f k by = record {
  go = λ e t h.
      let g : Fits e t × Holds e σ t = going e σ t h k in
      let r = by e t h g.0 g.1 in
      carried e τ (f t) r.0.0 r.0.1 r.1;
}

-- what is held is stored
pub held_stores : (e σ : St) (t : Arena) → Holds e σ t → Stores (store_of σ) (marks_of σ).records t.records
held_stores e σ t h = record {
  image_is = ap (take (8 * (marks_of σ).records)) h.store_is ∙
      laid_front (image_of t.records) (store_of e) (8 * (marks_of σ).records) (omega (arith, image_length t.records, h.records_is));
  count_is = h.records_is;
}

-- a rule that depends on the arena, where the store holds it
pub held : (s : List ℕ) (c : List ℤ) (m : Held) (τ : St) (f : Arena → Arena) → m.full ≡ false →
    ((t : Arena) → Stores s m.records t.records → m.fresh ≡ t.fresh → (g : Arena → Arena) × Steps (st s c m) τ g × (g t ≡ f t)) → Steps (st s c m) τ f
held s c m τ f k by = record {
  go = λ e t h.
      let hd : Holds e (st s c m) t = (going e (st s c m) t h k).1 in
      let x = by t (held_stores e (st s c m) t hd) hd.fresh_is in
      subst (Carries e τ) x.2 (x.1.go e t h);
}

-- Rules that name something ------------------------------------------------------------------------------------------

-- a step whose number is of no use
pub makes_steps : {X : Type 0} (σ τ : St) (x : X) (f : Arena → Arena × X) → Makes σ τ x f → Steps σ τ (λ t. (f t).0)
makes_steps σ τ x f p = record { go = λ e t h. (p.go e t h).0 }

-- nothing is done and x is named
pub makes_none : {X : Type 0} (σ : St) (x : X) → Makes σ σ x (λ t. (t, x))
makes_none σ x = record { go = λ e t h. (h, λ q. refl) }

pub makes_same : {X : Type 0} (σ τ : St) (x : X) (f g : Arena → Arena × X) → ((t : Arena) → f t ≡ g t) → Makes σ τ x f → Makes σ τ x g
makes_same {X} σ τ x f g e p = record {
  go = λ b t h. subst (λ (y : Arena × X). Carries b τ y.0 × (Fits b y.0 → x ≡ y.1)) (e t) (p.go b t h);
}

-- nothing that fits is reached: what is named may be anything
pub makes_full : {X : Type 0} (σ τ : St) (x : X) (f : Arena → Arena × X) → (marks_of τ).full ≡ true → Steps σ τ (λ t. (f t).0) → Makes σ τ x f
makes_full σ τ x f k p = record {
  go = λ e t h. let c = p.go e t h in (c, λ q. absurd (true≢false (sym k ∙ (c.fit q).not_full)));
}

-- where the room ended, what is named may be another thing
pub makes_any : {X : Type 0} (σ τ : St) (x y : X) (f : Arena → Arena × X) → (marks_of τ).full ≡ true → Makes σ τ x f → Makes σ τ y f
makes_any σ τ x y f k p = makes_full σ τ y f k (makes_steps σ τ x f p)

-- one rule, then one that depends on what the first names
pub makes_then : {X Y : Type 0} (σ τ υ : St) (x : X) (y : Y) (f : Arena → Arena × X) (g : X → Arena → Arena × Y) →
    ((x : X) (t : Arena) → Grows t (g x t).0) → Makes σ τ x f → Makes τ υ y (g x) → Makes σ υ y (λ t. g (f t).1 (f t).0)
makes_then {X} {Y} σ τ υ x y f g grows p q = record {
  go = λ e t h. let a = p.go e t h in go e (f t).0 (f t).1 a.1 a.0 (fits_or e (f t).0);
}
  where
    go : (e : St) (u : Arena) (z : X) → (Fits e u → x ≡ z) → Carries e τ u → Fits e u ⊎ (Fits e u → ⊥) →
        Carries e υ (g z u).0 × (Fits e (g z u).0 → y ≡ (g z u).1)
    go e u z named h (inl f) =
        subst (λ (w : X). Carries e υ (g w u).0 × (Fits e (g w u).0 → y ≡ (g w u).1)) (named f) (q.go e u h)
    go e u z named h (inr n) = (
      over e υ (g x u).0 (g z u).0 (q.go e u h).0 (λ k. n (fits_less e u (g x u).0 (grows x u) k)) (λ k. n (fits_less e u (g z u).0 (grows z u) k)),
      λ k. absurd (n (fits_less e u (g z u).0 (grows z u) k)),
    )

-- the room ended at f: what g after it names may be anything
pub ended_makes : {X Y : Type 0} (σ τ : St) (x : X) (y : Y) (f : Arena → Arena × X) (g : X → Arena → Arena × Y) →
    Makes σ τ x f → ((x : X) (t : Arena) → Grows t (g x t).0) → (marks_of τ).full ≡ true → Makes σ τ y (λ t. g (f t).1 (f t).0)
ended_makes σ τ x y f g p grows k =
    makes_then σ τ τ x y f g grows p (makes_full τ τ y (g x) k (stop τ (λ t. (g x t).0) (grows x) k))

-- A loop: what is left of the work, from here, is the whole work -------------------------------------------------------

pub record Rest (σ₀ σ : St) (f g : Arena → Arena) : Type 0 where
  pub at : (e : St) (t : Arena) → Carries e σ₀ t → (u : Arena) × Carries e σ u × (g u ≡ f t)

pub rest_start : (σ : St) (f : Arena → Arena) → Rest σ σ f f
rest_start σ f = record { at = λ e t h. (t, h, refl) }

pub rest_turn : (σ₀ σ τ : St) (f g g' p : Arena → Arena) → Steps σ τ p → ((t : Arena) → g t ≡ g' (p t)) → Rest σ₀ σ f g → Rest σ₀ τ f g'
rest_turn σ₀ σ τ f g g' p q eq r = record {
  at = λ e t h. let x = r.at e t h in (p x.0, q.go e x.0 x.1, sym (eq x.0) ∙ x.2);
}

pub rest_end : (σ₀ σ : St) (f g : Arena → Arena) → ((t : Arena) → g t ≡ t) → Rest σ₀ σ f g → Steps σ₀ σ f
rest_end σ₀ σ f g eq r = record { go = λ e t h. let x = r.at e t h in subst (Carries e σ) (sym (eq x.0) ∙ x.2) x.1 }

-- the room ended on the way
pub rest_full : (σ₀ σ : St) (f g : Arena → Arena) → ((t : Arena) → Grows t (g t)) → (marks_of σ).full ≡ true → Rest σ₀ σ f g → Steps σ₀ σ f
rest_full σ₀ σ f g grows k r = record {
  go = λ e t h. let x = r.at e t h in subst (Carries e σ) x.2 (full_more e σ x.0 (g x.0) x.1 k (grows x.0));
}

-- A loop that names something: what is left of the work, from here and with what was named, is the whole work -------------------

pub record Left {X Y : Type 0} (σ₀ σ : St) (x : X) (f : Arena → Arena × Y) (g : X → Arena → Arena × Y) : Type 0 where
  pub at : (e : St) (t : Arena) → Carries e σ₀ t → (u : Arena) × (y : X) × Carries e σ u × (Fits e u → x ≡ y) × (g y u ≡ f t)

pub left_start : {X Y : Type 0} (σ : St) (x : X) (g : X → Arena → Arena × Y) → Left σ σ x (g x) g
left_start σ x g = record { at = λ e t h. (t, x, h, λ q. refl, refl) }

pub left_turn : {X X' Y : Type 0} (σ₀ σ τ : St) (x : X) (x' : X') (f : Arena → Arena × Y) (g : X → Arena → Arena × Y)
    (g' : X' → Arena → Arena × Y) (p : X → Arena → Arena × X') → ((y : X) (t : Arena) → Grows t (p y t).0) → Makes σ τ x' (p x) →
    ((y : X) (t : Arena) → g y t ≡ g' (p y t).1 (p y t).0) → Left σ₀ σ x f g → Left σ₀ τ x' f g'
left_turn {X} {X'} σ₀ σ τ x x' f g g' p grows m eq r = record {
  at = λ e t h. let a = r.at e t h in
      let c = go e a.0 a.1 a.3 a.2 (fits_or e a.0) in
      ((p a.1 a.0).0, (p a.1 a.0).1, c.0, c.1, sym (eq a.1 a.0) ∙ a.4);
}
  where
    go : (e : St) (u : Arena) (y : X) → (Fits e u → x ≡ y) → Carries e σ u → Fits e u ⊎ (Fits e u → ⊥) →
        Carries e τ (p y u).0 × (Fits e (p y u).0 → x' ≡ (p y u).1)
    go e u y named h (inl k) =
        subst (λ (w : X). Carries e τ (p w u).0 × (Fits e (p w u).0 → x' ≡ (p w u).1)) (named k) (m.go e u h)
    go e u y named h (inr n) = (
      over e τ (p x u).0 (p y u).0 (m.go e u h).0 (λ k. n (fits_less e u (p x u).0 (grows x u) k)) (λ k. n (fits_less e u (p y u).0 (grows y u) k)),
      λ k. absurd (n (fits_less e u (p y u).0 (grows y u) k)),
    )

-- nothing is left
pub left_end : {X Y : Type 0} (σ₀ σ : St) (x : X) (z : Y) (f : Arena → Arena × Y) (g : X → Arena → Arena × Y) (out : X → Y) → z ≡ out x →
    ((y : X) (t : Arena) → g y t ≡ (t, out y)) → Left σ₀ σ x f g → Makes σ₀ σ z f
left_end {X} {Y} σ₀ σ x z f g out is eq r = record {
  go = λ e t h. let a = r.at e t h in
      subst (λ (w : Arena × Y). Carries e σ w.0 × (Fits e w.0 → z ≡ w.1)) (sym (eq a.1 a.0) ∙ a.4)
      (a.2, λ k. is ∙ ap out (a.3 k));
}

-- the room ended on the way
pub left_full : {X Y : Type 0} (σ₀ σ : St) (x : X) (z : Y) (f : Arena → Arena × Y) (g : X → Arena → Arena × Y) →
    ((y : X) (t : Arena) → Grows t (g y t).0) → (marks_of σ).full ≡ true → Left σ₀ σ x f g → Makes σ₀ σ z f
left_full {X} {Y} σ₀ σ x z f g grows k r = record {
  go = λ e t h. let a = r.at e t h in
      let nay : Fits e a.0 → ⊥ = λ q. true≢false (sym k ∙ (a.2.fit q).not_full) in
      let far : Fits e (g a.1 a.0).0 → ⊥ = λ q. nay (fits_less e a.0 (g a.1 a.0).0 (grows a.1 a.0) q) in
      subst (λ (w : Arena × Y). Carries e σ w.0 × (Fits e w.0 → z ≡ w.1)) a.4
      (over e σ a.0 (g a.1 a.0).0 a.2 nay far, λ q. absurd (far q));
}
