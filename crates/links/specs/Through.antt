-- The first missing side may be defined first: what defining leads to is the same.
use Rattle.std.specs.Prelude.{◌≡◌, ◌⊎◌, Bool, cond}
use Rattle.std.proofs.Math.Path.{refl, sym, ap}
use Rattle.std.proofs.Common.{◌∙◌, subst, inl, inr, arith}
use Rattle.std.proofs.Math.Bool.{true, false}
use Rattle.std.proofs.lemmas.Bool.{false≢true}
use mathlib.Core.List.{List, [], ◌∷◌}
use Prim.Native.Nat.{ℕ, zero, suc, ◌≤◌, ◌<◌, ◌-◌}
use Rattle.rules.specs.Lists.{in_turn}
use Rattle.rules.specs.Records.{Kind, leaf, join, dummy, Node, Record, node_at}
use Rattle.rules.specs.Totalizer.{Arena, counts, write, take_number, Define, ask, define_join, define_kind, define, pairs, number_of}
use Rattle.laws.specs.Lists.Facts.{All, All_map}
use Rattle.links.specs.Missing.{sides, asking, lacks, missing, wanting, rest, asked, wants, put, Below, here, further, Ends}
use Rattle.links.specs.Later.{Falls, Ready, Later, later_same, later_then, later_higher, take_found, ready_write, ready_define, later_define, pairs_sides, all_sides, later_turns}

-- what is missing is an output of a join that has no number
pub record Lacking (k : Kind) (number : ℕ) : Type 0 where
  pub half : Bool
  pub left : ℕ
  pub right : ℕ
  pub kind_is : k ≡ join half left right
  pub none : number ≡ 0

pub lacking : (k : Kind) (number : ℕ) → lacks k number ≡ true → Lacking k number
unfolding lacks
lacking (leaf x) number e = absurd (false≢true e)
lacking (join half l r) zero e = record { half = half; left = l; right = r; kind_is = refl; none = refl }
lacking (join half l r) (suc number) e = absurd (false≢true e)
lacking dummy number e = absurd (false≢true e)

pub missing_parts : (rs : List Record) (x : ℕ × ℕ) → missing rs x ≡ true → Lacking (node_at rs x.0).kind (number_of rs x.0 x.1)
unfolding missing
missing_parts rs x e = lacking (node_at rs x.0).kind (number_of rs x.0 x.1) e

-- what is not missing is left as it is -----------------------------------------------------------------------------------

kind_none : (d : Define) (n v : ℕ) (k : Kind) (s : Arena) → lacks k (number_of s.records n v) ≡ false → define_kind d n v k s ≡ s
unfolding lacks define_kind define_join
kind_none d n v (leaf x) s e = refl
kind_none d n v (join half l r) s e =
    go (pairs (node_at s.records l).maximum (counts half (node_at s.records r).maximum) v) (number_of s.records n v) e
  where
    go : (ps : List (ℕ × ℕ)) (number : ℕ) → lacks (join half l r) number ≡ false → define_join d n v half l r ps number s ≡ s
    go ps zero e = absurd (false≢true (sym e))
    go ps (suc number) e = refl
kind_none d n v dummy s e = refl

pub define_none : (f : ℕ) (s : Arena) (n v : ℕ) → missing s.records (n, v) ≡ false → define f s n v ≡ s
unfolding define missing
define_none zero s n v e = refl
define_none (suc f) s n v e = kind_none (define f) n v (node_at s.records n).kind s e

pub asking_none : (f : ℕ) (s : Arena) (x : ℕ × ℕ) → wanting s.records x ≡ false → asking (define f) s x ≡ s
unfolding asking ask wanting
asking_none f s (n, zero) e = refl
asking_none f s (n, suc v) e = define_none f s n (suc v) e

asking_some : (d : Define) (rs : List Record) (s : Arena) (x : ℕ × ℕ) → wanting rs x ≡ true → asking d s x ≡ d s x.0 x.1
unfolding asking ask wanting
asking_some d rs s (n, zero) e = absurd (false≢true e)
asking_some d rs s (n, suc v) e = refl

pub wanting_missing : (rs : List Record) (x : ℕ × ℕ) → wanting rs x ≡ true → missing rs x ≡ true
unfolding wanting
wanting_missing rs (n, zero) e = absurd (false≢true e)
wanting_missing rs (n, suc v) e = e

lacks_less : (k : Kind) (a b : ℕ) → (1 ≤ a → 1 ≤ b) → lacks k a ≡ false → lacks k b ≡ false
unfolding lacks
lacks_less (leaf x) a b h e = refl
lacks_less (join half l r) zero b h e = absurd (false≢true (sym e))
lacks_less (join half l r) (suc a) zero h e = let i : 1 ≤ 0 = h (omega arith) in absurd (omega arith)
lacks_less (join half l r) (suc a) (suc b) h e = refl
lacks_less dummy a b h e = refl

-- the rest ---------------------------------------------------------------------------------------------------------------

pub rest_turns : (d : Define) (rs : List Record) (t : Arena) → ((x : ℕ × ℕ) → wanting rs x ≡ false → asking d t x ≡ t) → (xs : List (ℕ × ℕ)) →
    in_turn (asking d) t xs ≡ in_turn (asking d) t (rest rs xs)
unfolding in_turn rest
rest_turns d rs t h [] = refl
rest_turns d rs t h (x ∷ xs) = go (wanting rs x) refl (rest_turns d rs t h xs)
  where
    go : (b : Bool) → wanting rs x ≡ b → in_turn (asking d) t xs ≡ in_turn (asking d) t (rest rs xs) →
        in_turn (asking d) (asking d t x) xs ≡ in_turn (asking d) t (cond b (x ∷ xs) (rest rs xs))
    go true e ih = refl
    go false e ih = ap (λ (u : Arena). in_turn (asking d) u xs) (h x e) ∙ ih

-- the first of the rest wants its output, and has what all have
rest_head : (rs : List Record) (P : ℕ × ℕ → Type 0) (xs : List (ℕ × ℕ)) (y : ℕ × ℕ) (ys : List (ℕ × ℕ)) → rest rs xs ≡ y ∷ ys → All P xs →
    (wanting rs y ≡ true) × P y
unfolding rest
rest_head rs P [] y ys e a = absurd (let z : ◌≡◌ {A = ℕ} 0 1 = cc in omega arith)
rest_head rs P (x ∷ xs) y ys e a = go (wanting rs x) refl e (λ e. rest_head rs P xs y ys e a.1)
  where
    go : (b : Bool) → wanting rs x ≡ b → cond b (x ∷ xs) (rest rs xs) ≡ y ∷ ys → (rest rs xs ≡ y ∷ ys → (wanting rs y ≡ true) × P y) →
        (wanting rs y ≡ true) × P y
    go true q e ih = let is : x ≡ y = cc in subst (λ (z : ℕ × ℕ). (wanting rs z ≡ true) × P z) is (q, a.0)
    go false q e ih = ih e

-- a join's output that is missing: its sides are asked for, then it takes its number
pub join_done : (d : Define) (n v : ℕ) (t : Arena) (half : Bool) (l r : ℕ) (ps : List (ℕ × ℕ)) → (node_at t.records n).kind ≡ join half l r →
    number_of t.records n v ≡ 0 → ps ≡ pairs (node_at t.records l).maximum (counts half (node_at t.records r).maximum) v →
    define_kind d n v (node_at t.records n).kind t ≡
    take_number n v (write half l r (in_turn (asking d) t (sides half l r ps)).fresh ps (in_turn (asking d) t (sides half l r ps)))
unfolding define_kind define_join
join_done d n v t half l r ps ek en ep =
    rw (ek, en, sym ep) (ap (λ (u : Arena). take_number n v (write half l r u.fresh ps u)) (pairs_sides d half l r t ps))

module _ (at : ℕ → Node) (falls : Falls at) where
  kind_at : (s : Arena) → Ready at s → (n : ℕ) → node_at s.records n ≡ at n
  kind_at s ok n = ap (λ (a : ℕ → Node). a n) ok.at_is

  -- what did not want its output does not want it later
  wanting_later : (h : ℕ) (s t : Arena) → Ready at s → Ready at t → Later at h s t → (x : ℕ × ℕ) → wanting s.records x ≡ false → wanting t.records x ≡ false
  unfolding wanting missing
  wanting_later h s t os ot later (n, zero) e = refl
  wanting_later h s t os ot later (n, suc v) e =
      lacks_less (node_at t.records n).kind (number_of s.records n (suc v)) (number_of t.records n (suc v)) (later.stays n (suc v))
      (ap (λ (nd : Node). lacks nd.kind (number_of s.records n (suc v))) (kind_at t ot n ∙ sym (kind_at s os n)) ∙ e)

  -- the sides of a missing output are those of its pairs, and lower
  sides_low : (s : Arena) → Ready at s → (n : ℕ) (half : Bool) (l r : ℕ) → (node_at s.records n).kind ≡ join half l r → (ps : List (ℕ × ℕ)) →
      All (λ x. (at x.0).height < (at n).height) (sides half l r ps)
  sides_low s ok n half l r e ps =
      let (i, j) = falls n half l r (ap (λ (nd : Node). nd.kind) (sym (kind_at s ok n)) ∙ e) in
      all_sides (λ m. (at m).height < (at n).height) half l r ps i j

  -- one level: where the first missing side leads to the same, so does the output
  pub side_first : (k : ℕ) (s t : Arena) → Ready at s → Ready at t → (x y : ℕ × ℕ) (ys : List (ℕ × ℕ)) → missing s.records x ≡ true →
      wants s.records x ≡ y ∷ ys → Later at (at y.0).height s t → define k t y.0 y.1 ≡ define k s y.0 y.1 →
      (define (suc k) t x.0 x.1 ≡ define (suc k) s x.0 x.1) × ((at y.0).height < (at x.0).height) × (missing s.records y ≡ true)
  unfolding define wants asked
  side_first k s t os ot (n, v) y ys m w later same = (
    join_done d n v t half l r ps kind_t (later.high n v head.1 ∙ p.none) pairs_t ∙
        (ap (λ (u : Arena). take_number n v (write half l r u.fresh ps u)) turns ∙ sym (join_done d n v s half l r ps p.kind_is p.none refl)),
    head.1,
    wanting_missing s.records y head.0,
  )
    where
      d : Define
      d = define k

      p : Lacking (node_at s.records n).kind (number_of s.records n v)
      p = missing_parts s.records (n, v) m

      half : Bool
      half = p.half

      l : ℕ
      l = p.left

      r : ℕ
      r = p.right

      ps : List (ℕ × ℕ)
      ps = pairs (node_at s.records l).maximum (counts half (node_at s.records r).maximum) v

      xs : List (ℕ × ℕ)
      xs = sides half l r ps

      rest_is : rest s.records xs ≡ y ∷ ys
      rest_is = ap (λ (kd : Kind). rest s.records (asked s.records v kd)) (sym p.kind_is) ∙ w

      head : (wanting s.records y ≡ true) × ((at y.0).height < (at n).height)
      head = rest_head s.records (λ x. (at x.0).height < (at n).height) xs y ys rest_is (sides_low s os n half l r p.kind_is ps)

      node_t : node_at t.records ≡ node_at s.records
      node_t = ot.at_is ∙ sym os.at_is

      kind_t : (node_at t.records n).kind ≡ join half l r
      kind_t = ap (λ (a : ℕ → Node). (a n).kind) node_t ∙ p.kind_is

      pairs_t : ps ≡ pairs (node_at t.records l).maximum (counts half (node_at t.records r).maximum) v
      pairs_t = ap (λ (a : ℕ → Node). pairs (a l).maximum (counts half (a r).maximum) v) (sym node_t)

      here : asking d t y ≡ asking d s y
      here = asking_some d s.records t y head.0 ∙ (same ∙ sym (asking_some d s.records s y head.0))

      turns : in_turn (asking d) t xs ≡ in_turn (asking d) s xs
      turns =
          rest_turns d s.records t (λ x e. asking_none k t x (wanting_later (at y.0).height s t os ot later x e)) xs ∙
          (ap (in_turn (asking d) t) rest_is ∙ (onward ∙ sym (rest_turns d s.records s (λ x e. asking_none k s x e) xs ∙ ap (in_turn (asking d) s) rest_is)))
        where
          onward : in_turn (asking d) t (y ∷ ys) ≡ in_turn (asking d) s (y ∷ ys)
          onward = ap (λ (u : Arena). in_turn (asking d) u ys) here

  -- defined once is defined: to define it again changes nothing
  pub define_again : (f : ℕ) (s : Arena) (n v : ℕ) → Ready at s → define f (define f s n v) n v ≡ define f s n v
  unfolding define missing
  define_again zero s n v ok = refl
  define_again (suc f) s n v ok = go (missing s.records (n, v)) refl
    where
      go : (b : Bool) → missing s.records (n, v) ≡ b → define (suc f) (define (suc f) s n v) n v ≡ define (suc f) s n v
      go false e = ap (λ (t : Arena). define (suc f) t n v) (define_none (suc f) s n v e)
      go true e = define_none (suc f) (define (suc f) s n v) n v (found (node_at (define (suc f) s n v).records n).kind)
        where
          p : Lacking (node_at s.records n).kind (number_of s.records n v)
          p = missing_parts s.records (n, v) e

          ps : List (ℕ × ℕ)
          ps = pairs (node_at s.records p.left).maximum (counts p.half (node_at s.records p.right).maximum) v

          xs : List (ℕ × ℕ)
          xs = sides p.half p.left p.right ps

          t : Arena
          t = in_turn (asking (define f)) s xs

          w : Arena
          w = write p.half p.left p.right t.fresh ps t

          is : define (suc f) s n v ≡ take_number n v w
          is = join_done (define f) n v s p.half p.left p.right ps p.kind_is p.none refl

          low : (x : ℕ × ℕ) → (at x.0).height < (at n).height → (at x.0).height ≤ (at n).height - 1
          low x i = omega arith

          some : 1 ≤ (at n).height
          some =
              let i = (falls n p.half p.left p.right (ap (λ (nd : Node). nd.kind) (sym (kind_at s ok n)) ∙ p.kind_is)).0 in
              omega arith

          after : Ready at t × Later at ((at n).height - 1) s t
          after = later_turns at falls f ((at n).height - 1) s xs
              (All_map low xs (sides_low s ok n p.half p.left p.right p.kind_is ps)) ok

          none : number_of w.records n v ≡ 0
          none = same p.half p.left p.right t.fresh ps t ∙ (after.1.high n v (omega (arith, some)) ∙ p.none)
            where
              same : (half : Bool) (l r number : ℕ) (ps : List (ℕ × ℕ)) (t : Arena) →
                  number_of (write half l r number ps t).records n v ≡ number_of t.records n v
              same half l r number ps t = refl

          has : 1 ≤ number_of (define (suc f) s n v).records n v
          has = subst (λ (u : Arena). 1 ≤ number_of u.records n v) (sym is)
              (take_found at n v w (ready_write at p.half p.left p.right t.fresh ps t after.0) none)

          found : (k : Kind) → lacks k (number_of (define (suc f) s n v).records n v) ≡ false
          found k = lacks_less k 1 (number_of (define (suc f) s n v).records n v) (λ i. has) (one k)
            where
              one : (k : Kind) → lacks k 1 ≡ false
              one (leaf x) = refl
              one (join half l r) = refl
              one dummy = refl

-- x and y are outputs with heights: an arena that is later than s by no more than y's height, and from which y leads where it led from s, leads to
-- the same by x
pub record Through (at : ℕ → Node) (s : Arena) (x y : ℕ × (ℕ × ℕ)) : Type 0 where
  pub leads : (t : Arena) → Ready at t → Later at (at y.1.0).height s t → put t y ≡ put s y → put t x ≡ put s x

pub through_self : (at : ℕ → Node) (s : Arena) (x : ℕ × (ℕ × ℕ)) → Through at s x x
through_self at s x = record { leads = λ t ok later e. e }

pub through_then : (at : ℕ → Node) (s : Arena) (x y z : ℕ × (ℕ × ℕ)) → (at z.1.0).height ≤ (at y.1.0).height → Through at s x y → Through at s y z → Through at s x z
through_then at s x y z i p q = record {
  leads = λ t ok later e. p.leads t ok (later_higher at (at z.1.0).height (at y.1.0).height s t i later) (q.leads t ok later e);
}

module _ (at : ℕ → Node) (falls : Falls at) where
  -- one step down
  pub through_down : (s : Arena) → Ready at s → (x : ℕ × (ℕ × ℕ)) (k : ℕ) (y z : ℕ × ℕ) (zs : List (ℕ × ℕ)) → missing s.records y ≡ true →
      wants s.records y ≡ z ∷ zs → Through at s x (suc k, y) → Through at s x (k, z)
  unfolding put
  through_down s ok x k y z zs m w p = record {
    leads = λ t ot later e.
        let (same, low, wanted) = side_first at falls k s t ok ot y z zs m w later e in
        p.leads t ot (later_higher at (at z.0).height (at y.0).height s t (omega arith) later) same;
  }

  -- so what was found below may be defined first
  pub through_put : (s : Arena) → Ready at s → (x y : ℕ × (ℕ × ℕ)) → Through at s x y → put (put s y) x ≡ put s x
  unfolding put
  through_put s ok x (k, y) p =
      p.leads (put s (k, y)) (ready_define at k s y.0 y.1 ok) (later_define at falls k s y.0 y.1 ok)
      (define_again at falls k s y.0 y.1 ok)

  -- and an output passed on the way leads on from there: a walk may begin again there
  pub through_after : (s : Arena) → Ready at s → (x y z : ℕ × (ℕ × ℕ)) → (at z.1.0).height ≤ (at y.1.0).height → Through at s x y → Through at s y z →
      Through at (put s z) x y
  unfolding put
  through_after s ok x y z i p q = record {
    leads = λ t ot later e.
        let first : Later at (at z.1.0).height s (put s z) = later_define at falls z.0 s z.1.0 z.1.1 ok in
        let far : Later at (at y.1.0).height s t = later_then at (at y.1.0).height s (put s z) t
        (later_higher at (at z.1.0).height (at y.1.0).height s (put s z) i first) later in
        p.leads t ot far (e ∙ through_put s ok y z q) ∙ sym (through_put s ok x z (through_then at s x y z i p q));
  }

  -- the first missing side is lower
  pub down : (s : Arena) → Ready at s → (y z : ℕ × ℕ) (zs : List (ℕ × ℕ)) → missing s.records y ≡ true → wants s.records y ≡ z ∷ zs →
      ((at z.0).height < (at y.0).height) × (missing s.records z ≡ true)
  down s ok y z zs m w =
      let (same, low, wanted) = side_first at falls 0 s s ok ok y z zs m w (later_same at (at z.0).height s) refl in
      (low, wanted)

  -- what is met on the way down was led through, is missing, and is no higher
  pub below_met : (s : Arena) → Ready at s → (x y : ℕ × (ℕ × ℕ)) → missing s.records x.1 ≡ true → Below s.records x y →
      Through at s x y × (missing s.records y.1 ≡ true) × ((at y.1.0).height ≤ (at x.1.0).height)
  below_met s ok x y m here = (through_self at s x, m, omega arith)
  below_met s ok x y m (further k a b bs w q) =
      let (through, lacks, low) = below_met s ok x (suc k, a) m q in
      let (less, next) = down s ok a b bs lacks w in
      (through_down s ok x k a b bs lacks w through, next, omega arith)

  -- and where the way down ends the node is at most the limit high, or no side is missing: recursion is no deeper than the limit
  pub shallow : (limit : ℕ) (s : Arena) → Ready at s → (x y : ℕ × (ℕ × ℕ)) → missing s.records x.1 ≡ true →
      (at x.1.0).height ≤ x.0 → Below s.records x y → Ends limit s.records y →
      ((node_at s.records y.1.0).height ≤ limit) ⊎ (wants s.records y.1 ≡ [])
  shallow limit s ok x y m i b e = go e
    where
      enough : (y : ℕ × (ℕ × ℕ)) → Below s.records x y → (at y.1.0).height ≤ y.0
      enough y here = i
      enough y (further k a z zs w q) =
          omega (arith, enough (suc k, a) q, (down s ok a z zs (below_met s ok x (suc k, a) m q).1 w).0)

      go : Ends limit s.records y → ((node_at s.records y.1.0).height ≤ limit) ⊎ (wants s.records y.1 ≡ [])
      go (inl z) = inl (omega (arith, z, enough y b, ap (λ (a : ℕ → Node). (a y.1.0).height) ok.at_is))
      go (inr p) = p

  -- where no side is missing, defining is writing the clauses and taking the number: nothing is asked for
  pub flat : (k : ℕ) (s : Arena) (n v : ℕ) → missing s.records (n, v) ≡ true → wants s.records (n, v) ≡ [] → (half : Bool) (l r : ℕ) →
      (node_at s.records n).kind ≡ join half l r → (ps : List (ℕ × ℕ)) →
      ps ≡ pairs (node_at s.records l).maximum (counts half (node_at s.records r).maximum) v →
      define (suc k) s n v ≡ take_number n v (write half l r s.fresh ps s)
  unfolding define wants asked in_turn
  flat k s n v m w half l r e ps ep =
      join_done (define k) n v s half l r ps e (missing_parts s.records (n, v) m).none ep ∙
      ap (λ (u : Arena). take_number n v (write half l r u.fresh ps u)) (none ∙ ap (in_turn (asking (define k)) s) empty)
    where
      empty : rest s.records (sides half l r ps) ≡ []
      empty =
          ap (λ (qs : List (ℕ × ℕ)). rest s.records (sides half l r qs)) ep ∙
          (ap (λ (kd : Kind). rest s.records (asked s.records v kd)) (sym e) ∙ w)

      none : in_turn (asking (define k)) s (sides half l r ps) ≡ in_turn (asking (define k)) s (rest s.records (sides half l r ps))
      none = rest_turns (define k) s.records s (λ x q. asking_none k s x q) (sides half l r ps)
