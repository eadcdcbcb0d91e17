-- Defining adds outputs of nodes that are no higher, and loses none.
use Rattle.std.specs.Prelude.{◌≡◌, refl, ◌≢◌, Bool, true, false, cond, ◌&&◌, eqb}
use Rattle.std.proofs.Common.{sym, ◌∙◌, ap, arith, eqb-true, eq-eqb}
use Rattle.std.proofs.Math.Path.{subst}
use mathlib.Core.List.{List, [], ◌∷◌, ◌++◌}
use Prim.Native.Nat.{ℕ, zero, suc, ◌≤◌, ◌<◌}
use Rattle.rules.specs.Lists.{in_turn}
use Rattle.rules.specs.Records.{Kind, leaf, join, dummy, Node, Output, output, node_at, outputs}
use Rattle.rules.specs.Totalizer.{Arena, counts, write, take_number, Define, ask, ask_pair, define_join, define_kind, define, pairs, number_in, number_of}
use Rattle.laws.specs.Lists.Facts.{All, All_append}
use Rattle.laws.specs.Records.Places.{outputs_append, number_in_append, number_in_kept}
use Rattle.laws.specs.Records.Images.{number_of_append}
use Rattle.laws.specs.WellFormed.Plain.{Sound}
use Rattle.laws.specs.Totalizer.Defines.{over_outputs, define_keeps}
use Rattle.links.specs.Missing.{sides, asking}

-- heights fall along links
abbrev pub Falls : (ℕ → Node) → Type 0
Falls at = (n : ℕ) (half : Bool) (l r : ℕ) → (at n).kind ≡ join half l r → ((at l).height < (at n).height) × ((at r).height < (at n).height)

pub sound_falls : (at : ℕ → Node) (pl : ℕ → Bool) → Sound at pl → Falls at
sound_falls at pl sound n half l r e = (omega (arith, (sound n).height_is half l r e), omega (arith, (sound n).height_is half l r e))

-- an arena over the nodes `at` where no number is 0
pub record Ready (at : ℕ → Node) (s : Arena) : Type 0 where
  pub at_is : node_at s.records ≡ at
  pub numbered : All (λ o. 1 ≤ o.number) (outputs s.records)
  pub fresh_low : 1 ≤ s.fresh

-- t has the outputs of s and maybe more, those of nodes no higher than h
pub record Later (at : ℕ → Node) (h : ℕ) (s t : Arena) : Type 0 where
  pub stays : (n v : ℕ) → 1 ≤ number_of s.records n v → 1 ≤ number_of t.records n v
  pub high : (n v : ℕ) → h < (at n).height → number_of t.records n v ≡ number_of s.records n v

pub later_same : (at : ℕ → Node) (h : ℕ) (s : Arena) → Later at h s s
later_same at h s = record { stays = λ n v i. i; high = λ n v i. refl }

pub later_then : (at : ℕ → Node) (h : ℕ) (s t u : Arena) → Later at h s t → Later at h t u → Later at h s u
later_then at h s t u a b = record {
  stays = λ n v i. b.stays n v (a.stays n v i);
  high = λ n v i. b.high n v i ∙ a.high n v i;
}

pub later_higher : (at : ℕ → Node) (h k : ℕ) (s t : Arena) → h ≤ k → Later at h s t → Later at k s t
later_higher at h k s t i a = record { stays = a.stays; high = λ n v j. a.high n v (omega arith) }

-- one output more ----------------------------------------------------------------------------------------------------

-- an output of another node has no say
number_in_other : (os : List Output) (o : Output) (n v : ℕ) → o.node ≢ n → number_in (os ++ (o ∷ [])) n v ≡ number_in os n v
unfolding number_in
number_in_other [] o n v h = go (eqb o.node n) refl
  where
    go : (b : Bool) → eqb o.node n ≡ b → cond (b && eqb o.value v) o.number 0 ≡ 0
    go true e = absurd (h (eqb-true o.node n e))
    go false e = refl
number_in_other (p ∷ os) o n v h = ap (cond (eqb p.node n && eqb p.value v) p.number) (number_in_other os o n v h)

number_in_here : (o : Output) → number_in (o ∷ []) o.node o.value ≡ o.number
unfolding number_in
number_in_here o = rw (eq-eqb o.node o.node refl, eq-eqb o.value o.value refl) refl

take_outputs : (n v : ℕ) (s : Arena) →
    outputs (take_number n v s).records ≡ outputs s.records ++ (record { node = n; value = v; number = s.fresh } ∷ [])
unfolding take_number outputs
take_outputs n v s = outputs_append s.records (output (record { node = n; value = v; number = s.fresh }) ∷ [])

take_number_of : (n v : ℕ) (s : Arena) (m w : ℕ) →
    number_of (take_number n v s).records m w ≡ number_in (outputs s.records ++ (record { node = n; value = v; number = s.fresh } ∷ [])) m w
unfolding take_number outputs
take_number_of n v s = number_of_append s.records (output (record { node = n; value = v; number = s.fresh }) ∷ [])

later_take : (at : ℕ → Node) (n v : ℕ) (s : Arena) → Later at (at n).height s (take_number n v s)
unfolding number_of
later_take at n v s =
    let o : Output = record { node = n; value = v; number = s.fresh } in
    record {
      stays = λ m w i. omega (arith, take_number_of n v s m w, number_in_kept (outputs s.records) (o ∷ []) m w i);
      high = λ m w i. take_number_of n v s m w ∙ number_in_other (outputs s.records) o m w (λ e. lower m e i);
    }
  where
    lower : (m : ℕ) → n ≡ m → (at n).height < (at m).height → ⊥
    lower m e i = let f : (at n).height ≡ (at m).height = ap (λ (j : ℕ). (at j).height) e in omega arith

-- what took a number has one
pub take_found : (at : ℕ → Node) (n v : ℕ) (s : Arena) → Ready at s → number_of s.records n v ≡ 0 → 1 ≤ number_of (take_number n v s).records n v
unfolding number_of
take_found at n v s ok z =
    let o : Output = record { node = n; value = v; number = s.fresh } in
    omega (arith, take_number_of n v s n v, number_in_append (outputs s.records) (o ∷ []) n v z ok.numbered, number_in_here o, ok.fresh_low)

later_write : (at : ℕ → Node) (h : ℕ) (half : Bool) (l r number : ℕ) (ps : List (ℕ × ℕ)) (s t : Arena) → Later at h s t →
    Later at h s (write half l r number ps t)
unfolding write
later_write at h half l r number ps s t a = record { stays = a.stays; high = a.high }

-- what is kept ---------------------------------------------------------------------------------------------------------

module _ (at : ℕ → Node) where
  pub ready_write : (half : Bool) (l r number : ℕ) (ps : List (ℕ × ℕ)) (s : Arena) → Ready at s → Ready at (write half l r number ps s)
  unfolding write
  ready_write half l r number ps s o = record { at_is = o.at_is; numbered = o.numbered; fresh_low = o.fresh_low }

  ready_take : (n v : ℕ) (s : Arena) → Ready at s → Ready at (take_number n v s)
  unfolding take_number
  ready_take n v s ok =
      let o : Output = record { node = n; value = v; number = s.fresh } in
      record {
        at_is = nodes n v s ∙ ok.at_is;
        numbered = subst (λ (os : List Output). All (λ o. 1 ≤ o.number) os) (sym (take_outputs n v s))
            (All_append (λ o. 1 ≤ o.number) (outputs s.records) (o ∷ []) ok.numbered (ok.fresh_low, tt));
        fresh_low = fresh n v s ok.fresh_low;
      }
    where
      nodes : (n v : ℕ) (s : Arena) → node_at (take_number n v s).records ≡ node_at s.records
      nodes n v s = (over_outputs s.records (record { node = n; value = v; number = s.fresh } ∷ [])).0

      fresh : (n v : ℕ) (s : Arena) → 1 ≤ s.fresh → 1 ≤ (take_number n v s).fresh
      fresh n v s i = omega arith

  pub ready_define : (f : ℕ) (s : Arena) (n v : ℕ) → Ready at s → Ready at (define f s n v)
  ready_define f = define_keeps (Ready at) ready_write ready_take f

-- asking for the sides is asking for the pairs
pub pairs_sides : (d : Define) (half : Bool) (l r : ℕ) (s : Arena) (ps : List (ℕ × ℕ)) →
    in_turn (ask_pair d half l r) s ps ≡ in_turn (asking d) s (sides half l r ps)
unfolding in_turn ask_pair asking sides
pairs_sides d half l r s [] = refl
pairs_sides d half l r s (p ∷ ps) = pairs_sides d half l r (ask_pair d half l r s p) ps

pub all_sides : (P : ℕ → Type 0) (half : Bool) (l r : ℕ) (ps : List (ℕ × ℕ)) → P l → P r → All (λ x. P x.0) (sides half l r ps)
unfolding sides
all_sides P half l r [] i j = tt
all_sides P half l r (p ∷ ps) i j = (i, (j, all_sides P half l r ps i j))

module _ (at : ℕ → Node) (falls : Falls at) where
  -- a rule of defining that adds outputs of nodes no higher
  abbrev Low : Define → Type 0
  Low d = (s : Arena) (n v : ℕ) → Ready at s → Ready at (d s n v) × Later at (at n).height s (d s n v)

  low_ask : (d : Define) → Low d → (s : Arena) (x : ℕ × ℕ) → Ready at s → Ready at (asking d s x) × Later at (at x.0).height s (asking d s x)
  unfolding asking ask
  low_ask d h s (n, zero) ok = (ok, later_same at (at n).height s)
  low_ask d h s (n, suc v) ok = h s n (suc v) ok

  low_turns : (d : Define) → Low d → (k : ℕ) (s : Arena) (xs : List (ℕ × ℕ)) → All (λ x. (at x.0).height ≤ k) xs → Ready at s →
      Ready at (in_turn (asking d) s xs) × Later at k s (in_turn (asking d) s xs)
  unfolding in_turn
  low_turns d h k s [] i ok = (ok, later_same at k s)
  low_turns d h k s (x ∷ xs) i ok =
      let t : Arena = asking d s x in
      let one = low_ask d h s x ok in
      let more = low_turns d h k t xs i.1 one.0 in
      (more.0, later_then at k s t (in_turn (asking d) t xs) (later_higher at (at x.0).height k s t i.0 one.1) more.1)

  low_join : (d : Define) → Low d → (n v : ℕ) (half : Bool) (l r : ℕ) → (at n).kind ≡ join half l r → (ps : List (ℕ × ℕ)) (number : ℕ) (s : Arena) →
      Ready at s → Later at (at n).height s (define_join d n v half l r ps number s)
  unfolding define_join
  low_join d h n v half l r e ps (suc number) s ok = later_same at (at n).height s
  low_join d h n v half l r e ps zero s ok =
      let (i, j) = falls n half l r e in
      let t : Arena = in_turn (ask_pair d half l r) s ps in
      let w : Arena = write half l r t.fresh ps t in
      let all : Later at (at n).height s (in_turn (asking d) s (sides half l r ps)) =
      (low_turns d h (at n).height s (sides half l r ps) (all_sides (λ m. (at m).height ≤ (at n).height) half l r ps (omega arith) (omega arith)) ok).1 in
      later_then at (at n).height s w (take_number n v w)
      (later_write at (at n).height half l r t.fresh ps s t (subst (Later at (at n).height s) (sym (pairs_sides d half l r s ps)) all))
      (later_take at n v w)

  low_kind : (d : Define) → Low d → (n v : ℕ) (k : Kind) → (at n).kind ≡ k → (s : Arena) → Ready at s → Later at (at n).height s (define_kind d n v k s)
  unfolding define_kind
  low_kind d h n v (leaf x) e s ok = later_same at (at n).height s
  low_kind d h n v (join half l r) e s ok =
      low_join d h n v half l r e (pairs (node_at s.records l).maximum (counts half (node_at s.records r).maximum) v)
      (number_of s.records n v) s ok
  low_kind d h n v dummy e s ok = later_same at (at n).height s

  -- defining adds outputs of nodes no higher
  pub later_define : (f : ℕ) (s : Arena) (n v : ℕ) → Ready at s → Later at (at n).height s (define f s n v)
  unfolding define
  later_define zero s n v ok = later_same at (at n).height s
  later_define (suc f) s n v ok =
      low_kind (define f) (λ s n v ok. (ready_define at f s n v ok, later_define f s n v ok)) n v (node_at s.records n).kind
      (ap (λ (a : ℕ → Node). (a n).kind) (sym ok.at_is)) s ok

  -- and so does asking for outputs in turn
  pub later_turns : (f k : ℕ) (s : Arena) (xs : List (ℕ × ℕ)) → All (λ x. (at x.0).height ≤ k) xs → Ready at s →
      Ready at (in_turn (asking (define f)) s xs) × Later at k s (in_turn (asking (define f)) s xs)
  later_turns f = low_turns (define f) (λ s n v ok. (ready_define at f s n v ok, later_define f s n v ok))
