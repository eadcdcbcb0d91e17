-- Defining changes no node, and its fuel is enough.
use Rattle.std.specs.Prelude.{◌≡◌, Bool}
use Rattle.std.proofs.Math.Path.{refl, sym, ap}
use Rattle.std.proofs.Common.{◌∙◌, arith}
use Rattle.std.proofs.Math.Bool.{true}
use mathlib.Core.List.{List, [], ◌∷◌, ◌++◌, map}
use Prim.Native.Nat.{ℕ, zero, suc, ◌-◌, ◌≤◌, ◌<◌, min, max}
use Rattle.std.proofs.Math.Dec.{eqb}
use Rattle.rules.specs.Lists.{in_turn, keep}
use Rattle.rules.specs.Refinement.{further_pairs, former_half, extend, extend_bucket}
use Rattle.rules.specs.Records.{left_link, right_link, outputs, Kind, leaf, join, dummy, Node, Output, Record, output, node_at}
use Rattle.rules.specs.Totalizer.{Arena, counts, asks, write, take_number, Define, ask, ask_pair, define_join, define_kind, define, define_output, pairs, pairs_from, number_of}
use Rattle.laws.specs.Lists.Facts.{All}
use Rattle.laws.specs.Records.Places.{place, nodes_same, places_same, output_none}
use Rattle.laws.specs.WellFormed.Plain.{Sound}

-- what each step keeps, the whole keeps
pub in_turn_keeps : {A B : Type 0} (P : B → Type 0) (Q : A → Type 0) (f : B → A → B) → ((s : B) (x : A) → Q x → P s → P (f s x)) →
    (s : B) (xs : List A) → All Q xs → P s → P (in_turn f s xs)
unfolding in_turn
in_turn_keeps P Q f h s [] a p = p
in_turn_keeps P Q f h s (x ∷ xs) a p = in_turn_keeps P Q f h (f s x) xs a.1 (h s x a.0 p)

-- the pairs of a value lie within the two maxima and add to it
pairs_from_within : (k a v left right : ℕ) → v - right ≤ a → k ≤ suc left - a → All (λ p. (p.0 ≤ left) × (p.1 ≤ right)) (pairs_from k a v)
unfolding pairs_from
pairs_from_within zero a v left right h i = tt
pairs_from_within (suc k) a v left right h i = (
  (omega arith, omega arith),
  pairs_from_within k (suc a) v left right (omega arith) (omega arith),
)

pub pairs_within : (left right v : ℕ) → All (λ p. (p.0 ≤ left) × (p.1 ≤ right)) (pairs left right v)
unfolding pairs
pairs_within left right v =
    let low : (x y z : ℕ) → suc (min x y) - z ≤ suc y - z = λ x y z. omega arith in
    pairs_from_within (suc (min v left) - (v - right)) (v - right) v left right (omega arith) (low v left (v - right))

-- an arena over the nodes `at`, which stand at the places `pl`
pub record Over (at : ℕ → Node) (pl : ℕ → Bool) (s : Arena) : Type 0 where
  pub at_is : node_at s.records ≡ at
  pub place_is : place s.records ≡ pl

-- nodes are as they were when outputs are appended
pub over_outputs : (rs : List Record) (os : List Output) → (node_at (rs ++ map output os) ≡ node_at rs) ×
    (place (rs ++ map output os) ≡ place rs)
over_outputs rs os = (nodes_same rs (map output os) (output_none os), places_same rs (map output os) (output_none os))

-- what writing clauses and taking a number keep, all defining keeps
module _ (P : Arena → Type 0) (on-write : (half : Bool) (l r number : ℕ) (ps : List (ℕ × ℕ)) (s : Arena) → P s →
    P (write half l r number ps s))
    (on-take : (n v : ℕ) (s : Arena) → P s → P (take_number n v s)) where
  -- a rule of defining that keeps it
  abbrev pub Keeps : Define → Type 0
  Keeps d = (s : Arena) (n v : ℕ) → P s → P (d s n v)

  pub ask_keeps : (d : Define) → Keeps d → (s : Arena) (n v : ℕ) → P s → P (ask d s n v)
  unfolding ask
  ask_keeps d h s n zero o = o
  ask_keeps d h s n (suc v) o = h s n (suc v) o

  pub pair_keeps : (d : Define) → Keeps d → (half : Bool) (l r : ℕ) (s : Arena) (p : ℕ × ℕ) → P s → P (ask_pair d half l r s p)
  unfolding ask_pair
  pair_keeps d h half l r s p o = ask_keeps d h (ask d s l p.0) r (asks half p.1) (ask_keeps d h s l p.0 o)

  pub pairs_keep : (d : Define) → Keeps d → (half : Bool) (l r : ℕ) (s : Arena) (ps : List (ℕ × ℕ)) → P s →
      P (in_turn (ask_pair d half l r) s ps)
  unfolding in_turn
  pairs_keep d h half l r s [] o = o
  pairs_keep d h half l r s (p ∷ ps) o = pairs_keep d h half l r (ask_pair d half l r s p) ps (pair_keeps d h half l r s p o)

  join_keeps : (d : Define) → Keeps d → (n v : ℕ) (half : Bool) (l r : ℕ) (ps : List (ℕ × ℕ)) (number : ℕ) (s : Arena) → P s →
      P (define_join d n v half l r ps number s)
  unfolding define_join
  join_keeps d h n v half l r ps zero s o =
      let t : Arena = in_turn (ask_pair d half l r) s ps in
      on-take n v (write half l r t.fresh ps t) (on-write half l r t.fresh ps t (pairs_keep d h half l r s ps o))
  join_keeps d h n v half l r ps (suc number) s o = o

  kind_keeps : (d : Define) → Keeps d → (n v : ℕ) (k : Kind) (s : Arena) → P s → P (define_kind d n v k s)
  unfolding define_kind
  kind_keeps d h n v (leaf x) s o = o
  kind_keeps d h n v (join half l r) s o =
      join_keeps d h n v half l r (pairs (node_at s.records l).maximum (counts half (node_at s.records r).maximum) v)
      (number_of s.records n v) s o
  kind_keeps d h n v dummy s o = o

  pub define_keeps : (f : ℕ) → Keeps (define f)
  unfolding define
  define_keeps zero s n v o = o
  define_keeps (suc f) s n v o = kind_keeps (define f) (define_keeps f) n v (node_at s.records n).kind s o

  pub extend_keeps : (n most : ℕ) (s : Arena) (o : Output) → P s → P (extend n most s o)
  unfolding extend
  extend_keeps n most s o p =
      let k : Kind = (node_at s.records n).kind in
      let ps : List (ℕ × ℕ) = further_pairs s.records n most o.value in
      let t : Arena = in_turn (ask_pair (define (node_at s.records n).height) true (left_link k) (right_link k)) s ps in
      on-write true (left_link k) (right_link k) o.number ps t
      (pairs_keep (define (node_at s.records n).height) (define_keeps (node_at s.records n).height) true (left_link k)
      (right_link k) s ps p)

  pub extend_bucket_keeps : (old : List Record) (s : Arena) (n : ℕ) → P s → P (extend_bucket old s n)
  unfolding extend_bucket
  extend_bucket_keeps old s n p = turns (keep (λ o. eqb o.node n) (outputs old)) s p
    where
      turns : (os : List Output) (s : Arena) → P s → P (in_turn (extend n (former_half old n)) s os)
      turns [] s p = p
      turns (o ∷ os) s p = turns os (extend n (former_half old n) s o) (extend_keeps n (former_half old n) s o p)

-- the next fresh number never falls
pub fresh_write : (k : ℕ) (half : Bool) (l r number : ℕ) (ps : List (ℕ × ℕ)) (s : Arena) → k ≤ s.fresh →
    k ≤ (write half l r number ps s).fresh
unfolding write
fresh_write k half l r number ps s h = h

pub fresh_take : (k n v : ℕ) (s : Arena) → k ≤ s.fresh → k ≤ (take_number n v s).fresh
unfolding take_number
fresh_take k n v s h = omega arith

module _ (at : ℕ → Node) (pl : ℕ → Bool) where
  pub over_write : (half : Bool) (l r number : ℕ) (ps : List (ℕ × ℕ)) (s : Arena) → Over at pl s → Over at pl (write half l r number ps s)
  unfolding write
  over_write half l r number ps s o = record { at_is = o.at_is; place_is = o.place_is }

  pub over_take : (n v : ℕ) (s : Arena) → Over at pl s → Over at pl (take_number n v s)
  unfolding take_number
  over_take n v s o =
      let one : List Output = record { node = n; value = v; number = s.fresh } ∷ [] in
      record { at_is = (over_outputs s.records one).0 ∙ o.at_is; place_is = (over_outputs s.records one).1 ∙ o.place_is }

  -- a rule of defining that changes no node
  abbrev pub Steady : Define → Type 0
  Steady d = (s : Arena) (n v : ℕ) → Over at pl s → Over at pl (d s n v)

  -- defining changes no node
  pub define_steady : (f : ℕ) → Steady (define f)
  define_steady f = define_keeps (Over at pl) over_write over_take f

  module _ (sound : Sound at pl) where
    -- two rules of defining that agree on nodes of height below k
    abbrev Agree : ℕ → Define → Define → Type 0
    Agree k d e = (s : Arena) (n v : ℕ) → Over at pl s → (at n).height < k → d s n v ≡ e s n v

    agree_ask : (k : ℕ) (d e : Define) → Agree k d e → (s : Arena) (n v : ℕ) → Over at pl s → (at n).height < k → ask d s n v ≡ ask e s n v
    unfolding ask
    agree_ask k d e h s n zero o i = refl
    agree_ask k d e h s n (suc v) o i = h s n (suc v) o i

    agree_pairs : (k : ℕ) (d e : Define) → Agree k d e → Steady d → (half : Bool) (l r : ℕ) → (at l).height < k → (at r).height < k →
        (s : Arena) (ps : List (ℕ × ℕ)) → Over at pl s → in_turn (ask_pair d half l r) s ps ≡ in_turn (ask_pair e half l r) s ps
    unfolding in_turn ask_pair
    agree_pairs k d e h steady half l r i j s [] o = refl
    agree_pairs k d e h steady half l r i j s (p ∷ ps) o =
        let here : ask_pair d half l r s p ≡ ask_pair e half l r s p =
        agree_ask k d e h (ask d s l p.0) r (asks half p.1) (ask_keeps (Over at pl) over_write over_take d steady s l p.0 o) j ∙
        ap (λ (t : Arena). ask e t r (asks half p.1)) (agree_ask k d e h s l p.0 o i) in
        agree_pairs k d e h steady half l r i j (ask_pair d half l r s p) ps
        (pair_keeps (Over at pl) over_write over_take d steady half l r s p o) ∙
        ap (λ (t : Arena). in_turn (ask_pair e half l r) t ps) here

    agree_kind : (k : ℕ) (d e : Define) → Agree k d e → Steady d → (s : Arena) (n v : ℕ) → Over at pl s → (at n).height ≤ k →
        (kd : Kind) → (at n).kind ≡ kd → define_kind d n v kd s ≡ define_kind e n v kd s
    unfolding define_kind define_join
    agree_kind k d e h steady s n v o i (leaf x) q = refl
    agree_kind k d e h steady s n v o i (join half l r) q =
        let up : (at n).height ≡ suc (max (at l).height (at r).height) = (sound n).height_is half l r q in
        let ps : List (ℕ × ℕ) = pairs (node_at s.records l).maximum (counts half (node_at s.records r).maximum) v in
        go ps (number_of s.records n v) (agree_pairs k d e h steady half l r (omega arith) (omega arith) s ps o)
      where
        go : (ps : List (ℕ × ℕ)) (number : ℕ) → in_turn (ask_pair d half l r) s ps ≡ in_turn (ask_pair e half l r) s ps →
            define_join d n v half l r ps number s ≡ define_join e n v half l r ps number s
        go ps zero same = ap (λ (t : Arena). take_number n v (write half l r t.fresh ps t)) same
        go ps (suc number) same = refl
    agree_kind k d e h steady s n v o i dummy q = refl

    -- a node of height 0 has no output to define
    flat : (d : Define) (s : Arena) (n v : ℕ) → (at n).height ≤ 0 → (k : Kind) → (at n).kind ≡ k → define_kind d n v k s ≡ s
    unfolding define_kind
    flat d s n v i (leaf x) q = refl
    flat d s n v i (join half l r) q =
        let up : (at n).height ≡ suc (max (at l).height (at r).height) = (sound n).height_is half l r q in
        absurd (omega arith)
    flat d s n v i dummy q = refl

    kind_is : (s : Arena) (n : ℕ) → Over at pl s → (at n).kind ≡ (node_at s.records n).kind
    kind_is s n o = ap (λ (a : ℕ → Node). (a n).kind) (sym o.at_is)

    -- any two fuels that the node's height does not exceed define the same
    pub define_fuel : (f g : ℕ) (s : Arena) (n v : ℕ) → Over at pl s → (at n).height ≤ f → (at n).height ≤ g → define f s n v ≡ define g s n v
    unfolding define
    define_fuel zero zero s n v o i j = refl
    define_fuel zero (suc g) s n v o i j = sym (flat (define g) s n v i (node_at s.records n).kind (kind_is s n o))
    define_fuel (suc f) zero s n v o i j = flat (define f) s n v j (node_at s.records n).kind (kind_is s n o)
    define_fuel (suc f) (suc g) s n v o i j =
        agree_kind (at n).height (define f) (define g) (λ t m w p k. define_fuel f g t m w p (omega arith) (omega arith)) (define_steady f)
        s n v o (omega arith)
        (node_at s.records n).kind (kind_is s n o)

-- so the height of a sound arena's node is fuel enough
pub define_enough : (s : Arena) → Sound (node_at s.records) (place s.records) → (f n v : ℕ) → (node_at s.records n).height ≤ f →
    define f s n v ≡ define_output s n v
unfolding define_output
define_enough s sound f n v h =
    define_fuel (node_at s.records) (place s.records) sound f (node_at s.records n).height s n v
    (record { at_is = refl; place_is = refl }) h (omega arith)
