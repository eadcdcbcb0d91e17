-- Where an input stands: under which buckets and in what waits, and how often.
use Rattle.std.specs.Prelude.{◌≡◌, ◌≢◌, ◌⊎◌, Bool, ◌&&◌, ◌||◌, eqb, ℤ}
use Rattle.std.proofs.Math.Path.{refl, ap, ap₂}
use Rattle.std.proofs.Common.{sym, ◌∙◌, inl, inr, arith, eqb-true}
use Rattle.std.proofs.Math.Bool.{true, false, false≢true}
use mathlib.Core.List.{List, [], ◌∷◌, map}
use Prim.Native.Nat.{ℕ, zero, suc, ◌+◌, ◌*◌, ◌/◌, max}
use Rattle.std.proofs.Math.ListN.{length}
use Rattle.std.proofs.lemmas.Bool.{eqb-false}
use Rattle.rules.specs.Lists.{total}
use Rattle.rules.specs.Records.{Kind, leaf, join, dummy, Node, Entry, node_at, left_link, literal_word}
use Rattle.rules.specs.Totalizer.{counts}
use Rattle.rules.specs.Build.{Build, output_weight, some_wait}
use Rattle.rules.specs.WellFormed.{above}
use Rattle.laws.specs.Lists.Facts.{All, occurs}
use Rattle.laws.specs.Records.Places.{place}
use Rattle.laws.specs.WellFormed.Plain.{Formed, Linked}
use Rattle.guarantee.specs.Meaning.Truth.{Truths}
use Rattle.guarantee.specs.Meaning.Values.{bit, value_of, value_by, value, fuel}
use Rattle.guarantee.specs.Counting.Chains.{tops}
use Rattle.guarantee.specs.Counting.Halves.{is_halved}
use Rattle.guarantee.specs.Counting.Lowest.{LastPlain}
use Rattle.guarantee.specs.Counting.Weighing.{values}
use Rattle.guarantee.specs.Histories.Plain.{Plain}

-- how often the literal x stands under a node of this kind, where f says it of its links; a halved side leads to the bucket below
unfoldable pub under : (ℕ → ℕ) → ℤ → Kind → ℕ
under f x (leaf y) = bit (eqb (literal_word y) (literal_word x))
under f x (join false l r) = f l + f r
under f x (join true l r) = f l
under f x dummy = 0

-- under node n, by fuel
unfoldable pub under_by : (ℕ → Node) → ℤ → ℕ → ℕ → ℕ
unfolding under
under_by at x zero n = 0
under_by at x (suc k) n = under (under_by at x k) x (at n).kind

-- how often x stands under node n of a build; the height is fuel enough
unfoldable pub stands : Build → ℤ → ℕ → ℕ
unfolding under_by
stands b x n = under_by (node_at b.arena.records) x (suc (node_at b.arena.records n).height) n

-- the powers of the buckets, each times what f counts under it: the first weighs w, each next one half of the one above
abbrev pub powers : (ℕ → ℕ) → ℕ → List ℕ → ℕ
powers f w [] = 0
powers f w (b ∷ bs) = w * f b + powers f (w / 2) bs

-- what waits: each weight times what f counts under its node
abbrev pub waits_of : (ℕ → ℕ) → List Entry → ℕ
waits_of f es = total (map (λ (e : Entry). e.weight * f e.node) es)

-- the powers of the buckets that x stands under, the root's being the built divisor times W, and what waits of x
abbrev pub weight_of : Build → ℤ → ℕ
weight_of b x = powers (stands b x) (b.built * output_weight b) b.buckets + waits_of (stands b x) b.queue

-- the truth of x alone
abbrev pub only : ℤ → Truths
only x y = eqb (literal_word y) (literal_word x)

-- a bucket is linked, halved, to the one that it is above
above_linked : (at : ℕ → Node) (wait : Bool) (bs : List ℕ) (i r : ℕ) → Linked at wait bs → above bs i r ≡ true → (l : ℕ) × ((at i).kind ≡ join true l r)
unfolding above
above_linked at wait [] i r h e = absurd (false≢true e)
above_linked at wait (b ∷ []) i r h e = absurd (false≢true e)
above_linked at wait (b ∷ c ∷ bs) i r h e = go (eqb b i) refl (eqb c r) refl e (above_linked at wait (c ∷ bs) i r h.1)
  where
    go : (s : Bool) → eqb b i ≡ s → (t : Bool) → eqb c r ≡ t → ((s && t) || above (c ∷ bs) i r) ≡ true → (above (c ∷ bs) i r ≡ true → (l : ℕ) × ((at i).kind ≡ join true l r)) →
        (l : ℕ) × ((at i).kind ≡ join true l r)
    go true p true q k later =
        (h.0.0, ap (λ (n : ℕ). (at n).kind) (sym (eqb-true b i p)) ∙ (h.0.1 ∙ ap (λ (n : ℕ). join true h.0.0 n) (eqb-true c r q)))
    go true p false q k later = later k
    go false p t q k later = later k

module _ (b : Build) (f : Formed b) (p : Plain b) where
  at : ℕ → Node
  at = node_at b.arena.records

  -- what is no bucket is not halved
  plain : (n : ℕ) → occurs n b.buckets ≡ 0 → is_halved (at n).kind ≡ false
  unfolding at
  plain n h = go (is_halved (node_at b.arena.records n).kind) refl
    where
      go : (t : Bool) → is_halved (node_at b.arena.records n).kind ≡ t → is_halved (node_at b.arena.records n).kind ≡ false
      go true e = absurd (omega (arith, h, p.among n e))
      go false e = e

  -- nothing under a merge is halved
  links_plain : (n l r : ℕ) → (at n).kind ≡ join false l r → (is_halved (at l).kind ≡ false) × (is_halved (at r).kind ≡ false)
  unfolding at above
  links_plain n l r e = (plain l (f.spares n false l r e).0, right (f.spares n false l r e).1 (eqb b.built 0) refl)
    where
      no_join : (m : ℕ) → join false l r ≡ join true m r → ⊥
      no_join m q = false≢true (ap is_halved q)

      right : (occurs r b.buckets ≡ 0) ⊎ (above b.buckets n r ≡ true) → (t : Bool) → eqb b.built 0 ≡ t → is_halved (node_at b.arena.records r).kind ≡ false
      right (inl h) t z = plain r h
      right (inr h) true z = absurd (false≢true (ap (λ (bs : List ℕ). above bs n r) (sym (f.if_unbuilt (eqb-true b.built 0 z)).no_bucket) ∙ h))
      right (inr h) false z =
          let (m, k) = above_linked (node_at b.arena.records) (some_wait b.queue) b.buckets n r (f.if_built (eqb-false b.built 0 z)).linked h in
          absurd (no_join m (sym e ∙ k))

  -- so the value where x alone is true counts how often x stands there
  same_by : (x : ℤ) (k n : ℕ) → is_halved (at n).kind ≡ false → under_by at x k n ≡ value_by at (only x) k n
  unfolding under_by value_by counts
  same_by x zero n h = refl
  same_by x (suc k) n h = go (at n).kind refl h (same_by x k)
    where
      go : (kd : Kind) → (at n).kind ≡ kd → is_halved kd ≡ false → ((m : ℕ) → is_halved (at m).kind ≡ false → under_by at x k m ≡ value_by at (only x) k m) →
          under (under_by at x k) x kd ≡ value_of (value_by at (only x) k) (only x) kd
      go (leaf y) e h ih = refl
      go (join false l r) e h ih = ap₂ ◌+◌ (ih l (links_plain n l r e).0) (ih r (links_plain n l r e).1)
      go (join true l r) e h ih = absurd (false≢true (sym h))
      go dummy e h ih = refl

  stands_value : (x : ℤ) (n : ℕ) → is_halved (at n).kind ≡ false → stands b x n ≡ values b (only x) n
  unfolding at stands value
  stands_value x n h = same_by x (suc (node_at b.arena.records n).height) n h

  -- of a bucket, its own members
  bucket_value : (x : ℤ) (n l r : ℕ) → (at n).kind ≡ join true l r → stands b x n ≡ values b (only x) l
  unfolding at stands under_by value
  bucket_value x n l r e =
      let h : ℕ = (node_at b.arena.records n).height in
      let up : h ≡ suc (max (node_at b.arena.records l).height (node_at b.arena.records r).height) = (f.sound n).height_is true l r e in
      ap (under (under_by (node_at b.arena.records) x h) x) e ∙
      (same_by x h l (plain l (f.spares n true l r e).0) ∙
      fuel (node_at b.arena.records) (place b.arena.records) f.sound (only x) h (suc (node_at b.arena.records l).height) l (omega arith) (omega arith))

  powers_own : (x : ℤ) (wait : Bool) (bs : List ℕ) → Linked at wait bs → (wait ≡ false → LastPlain b.arena.records bs) → (w : ℕ) →
      powers (stands b x) w bs ≡ powers (values b (only x)) w (tops at wait bs)
  unfolding at left_link
  powers_own x wait [] h last w = refl
  powers_own x true (n ∷ []) (l, r, e, d) last w = ap (λ (k : ℕ). w * k + 0) (bucket_value x n l r e ∙ ap (values b (only x)) (sym (ap left_link e)))
  powers_own x false (n ∷ []) h last w = ap (λ (k : ℕ). w * k + 0) (stands_value x n (last refl).1)
  powers_own x wait (n ∷ c ∷ bs) ((l, e), h) last w =
      ap₂ (λ (k m : ℕ). w * k + m) (bucket_value x n l c e ∙ ap (values b (only x)) (sym (ap left_link e))) (powers_own x wait (c ∷ bs) h last (w / 2))

  waits_own : (x : ℤ) (es : List Entry) → All (λ e. occurs e.node b.buckets ≡ 0) es → waits_of (stands b x) es ≡ waits_of (values b (only x)) es
  unfolding total
  waits_own x [] a = refl
  waits_own x (e ∷ es) a = ap₂ (λ (k m : ℕ). e.weight * k + m) (stands_value x e.node (plain e.node a.0)) (waits_own x es a.1)

  -- the weight of x by values: of the buckets' own members, and of what waits
  pub weight_values : (x : ℤ) → (b.built ≢ 0) ⊎ (b.built ≡ 0) →
      weight_of b x ≡ powers (values b (only x)) (b.built * output_weight b) (tops (node_at b.arena.records) (some_wait b.queue) b.buckets) + waits_of (values b (only x)) b.queue
  unfolding at
  weight_values x (inl n) =
      ap₂ ◌+◌ (powers_own x (some_wait b.queue) b.buckets (f.if_built n).linked p.last (b.built * output_weight b)) (waits_own x b.queue f.entries_spare)
  weight_values x (inr z) =
      ap₂ ◌+◌ (nothing b.buckets (f.if_unbuilt z).no_bucket) (waits_own x b.queue f.entries_spare)
    where
      nothing : (bs : List ℕ) → bs ≡ [] → powers (stands b x) (b.built * output_weight b) bs ≡
          powers (values b (only x)) (b.built * output_weight b) (tops (node_at b.arena.records) (some_wait b.queue) bs)
      nothing [] e = refl
      nothing (c ∷ bs) e = absurd (omega (arith, ap length e))
