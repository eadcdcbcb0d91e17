-- An output asks its connections, a connection asks its node: one law for each way.
use Rattle.std.specs.Prelude.{Option, is_some}
use mathlib.Core.Path.{◌≡◌, refl, sym, ap, ap₂, ◌∙◌}
use mathlib.Core.Bool.{Bool, true, false, false≢true}
use mathlib.Core.List.{List}
use Prim.Native.Nat.{ℕ, zero, suc, ◌+◌, ◌-◌, ◌≤◌, ◌<◌, min}
use native.Mathlib.Omega.{arith}
use lib.Dec.{ltb}
use lib.IntN.{ℤ}
use Rattle.rules.specs.Lists.{in_turn, keep, rising}
use Rattle.rules.specs.Records.{Kind, leaf, join, dummy, Output, Record, node_at, left_link, right_link}
use Rattle.rules.specs.Totalizer.{Arena, counts, asks, number_of, pairs_from, pairs, write, take_number, Define, ask, ask_pair, define_join, define_kind, define, define_output}
use Rattle.rules.specs.Refinement.{further_pairs, extend}
use Rattle.records.specs.Readers.{is_join, is_halved}
use Rattle.records.specs.Carries.{Held, St, st, marks_of, Steps, Stores}
use Rattle.records.proofs.Read.{join_parts}
use Rattle.records.proofs.Step.{steps_none, steps_then, steps_same, held, Rest, rest_start, rest_turn, rest_full}
use Rattle.totalizer_clauses.specs.declared.Pairs.{Pairs}
use Rattle.totalizer_clauses.specs.Spread.{Spread}
use Rattle.totalizer_find.specs.Found.{number_word}
use Rattle.totalizer_define.proofs.Growth.{turns_grow, pair_grows, define_grows, output_grows}
use Rattle.totalizer_clauses.proofs.PairWalk.{span_fewer, spread_pairs}
use Rattle.totalizer_define.proofs.Pairs.{further, pairs_turn, rising_turn}

-- A connection --------------------------------------------------------------------------------------------------------------

pub ask_none : (σ : St) (d : Define) (n x y : ℕ) → y ≡ x → y ≡ 0 → Steps σ σ (λ t. ask d t n x)
unfolding ask
ask_none σ d n x y p q = let e : x ≡ 0 = sym p ∙ q in rw e (steps_none σ)

ask_is : (d : Define) (t : Arena) (n y : ℕ) → (y ≡ 0 → ⊥) → d t n y ≡ ask d t n y
unfolding ask
ask_is d t n zero h = absurd (h refl)
ask_is d t n (suc y) h = refl

pub ask_some : (σ τ : St) (d : Define) (n x y : ℕ) → y ≡ x → (y ≡ 0 → ⊥) → Steps σ τ (λ t. d t n y) → Steps σ τ (λ t. ask d t n x)
ask_some σ τ d n x y p q s = steps_same σ τ (λ t. d t n y) (λ t. ask d t n x) (λ t. ask_is d t n y q ∙ ap (ask d t n) p) s

pub asks_start : (σ : St) (d : Define) (half : Bool) (l r many k lo v : ℕ) → k ≡ many →
    Rest σ σ (λ t. in_turn (ask_pair d half l r) t (pairs_from many lo v)) (λ t. in_turn (ask_pair d half l r) t (pairs_from k lo v))
asks_start σ d half l r many k lo v e = rw e (rest_start σ (λ t. in_turn (ask_pair d half l r) t (pairs_from many lo v)))

-- one pair: left, then right
pub asks_turn : (σ₀ σ τ υ : St) (f : Arena → Arena) (d : Define) (half : Bool) (l r end a v : ℕ) → a < end →
    Steps σ τ (λ t. ask d t l (asks false a)) → Steps τ υ (λ t. ask d t r (asks half (v - a))) →
    Rest σ₀ σ f (λ t. in_turn (ask_pair d half l r) t (pairs_from (end - a) a v)) → Rest σ₀ υ f (λ t. in_turn (ask_pair d half l r) t (pairs_from (end - (a + 1)) (a + 1) v))
unfolding asks
asks_turn σ₀ σ τ υ f d half l r end a v i p q =
    rest_turn σ₀ σ υ f (λ t. in_turn (ask_pair d half l r) t (pairs_from (end - a) a v)) (λ t. in_turn (ask_pair d half l r) t (pairs_from (end - (a + 1)) (a + 1) v))
    (λ t. ask d (ask d t l a) r (asks half (v - a)))
    (steps_then σ τ υ (λ t. ask d t l a) (λ t. ask d t r (asks half (v - a))) p q)
    (pairs_turn half l r d end a v i)

-- the room ended among the pairs
pub asks_full : (σ₀ σ : St) (f : Arena → Arena) (h : ℕ) (half : Bool) (l r k a v : ℕ) → (marks_of σ).full ≡ true →
    Rest σ₀ σ f (λ t. in_turn (ask_pair (define h) half l r) t (pairs_from k a v)) → Steps σ₀ σ f
asks_full σ₀ σ f h half l r k a v full p =
    rest_full σ₀ σ f (λ t. in_turn (ask_pair (define h) half l r) t (pairs_from k a v))
    (turns_grow (ask_pair (define h) half l r) (pair_grows (define h) (define_grows h) half l r) (pairs_from k a v)) full p

-- An output -----------------------------------------------------------------------------------------------------------------

pub def_zero : (σ : St) (h n v : ℕ) → h ≡ 0 → Steps σ σ (λ t. define h t n v)
unfolding define
def_zero σ h n v e = rw e (steps_none σ)

def_suc : (h : ℕ) (t : Arena) (n v : ℕ) → (h ≡ 0 → ⊥) → define h t n v ≡ define_kind (define (h - 1)) n v (node_at t.records n).kind t
unfolding define
def_suc zero t n v z = absurd (z refl)
def_suc (suc h) t n v z = let e : suc h - 1 ≡ h = omega arith in rw e refl

other_kind : (d : Define) (n v : ℕ) (k : Kind) (t : Arena) → is_join k ≡ false → define_kind d n v k t ≡ t
unfolding define_kind is_join
other_kind d n v (leaf x) t e = refl
other_kind d n v (join half l r) t e = absurd (false≢true (sym e))
other_kind d n v dummy t e = refl

found_join : (d : Define) (n v : ℕ) (half : Bool) (l r : ℕ) (ps : List (ℕ × ℕ)) (x : ℕ) (t : Arena) → (x ≡ 0 → ⊥) → define_join d n v half l r ps x t ≡ t
unfolding define_join
found_join d n v half l r ps zero t k = absurd (k refl)
found_join d n v half l r ps (suc x) t k = refl

-- what is defined is left as it is
pub found_kind : (d : Define) (n v : ℕ) (k : Kind) (t : Arena) → (number_of t.records n v ≡ 0 → ⊥) → define_kind d n v k t ≡ t
unfolding define_kind
found_kind d n v (leaf x) t h = refl
found_kind d n v (join half l r) t h =
    found_join d n v half l r (pairs (node_at t.records l).maximum (counts half (node_at t.records r).maximum) v) (number_of t.records n v) t h
found_kind d n v dummy t h = refl

join_kind : (d : Define) (n v : ℕ) (k : Kind) (t : Arena) (half : Bool) (l r : ℕ) (ps : List (ℕ × ℕ)) → k ≡ join half l r → number_of t.records n v ≡ 0 →
    ps ≡ pairs (node_at t.records l).maximum (counts half (node_at t.records r).maximum) v →
    take_number n v (write half l r (in_turn (ask_pair d half l r) t ps).fresh ps (in_turn (ask_pair d half l r) t ps)) ≡ define_kind d n v k t
unfolding define_kind define_join
join_kind d n v k t half l r ps ek en ep = rw (ek, en, ep) refl

-- no number is 0
number_zero : (x : Option ℕ) (w : ℕ) → x ≡ number_word w → is_some x ≡ false → w ≡ 0
unfolding number_word
number_zero x zero e f = refl
number_zero x (suc w) e f = absurd (false≢true (sym f ∙ ap is_some e))

zero_number : (x : Option ℕ) (w : ℕ) → x ≡ number_word w → is_some x ≡ true → w ≡ 0 → ⊥
unfolding number_word
zero_number x zero e f g = false≢true (sym (ap is_some e) ∙ f)
zero_number x (suc w) e f g = let z : suc w ≡ 0 = g in omega arith

module _ (s : List ℕ) (c : List ℤ) (m : Held) (h n v : ℕ) (some : h ≡ 0 → ⊥) (k : m.full ≡ false) (x : Bool)
    (ex : (rs : List Record) → Stores s m.records rs → x ≡ is_join (node_at rs n).kind) where
  pub def_other : x ≡ false → Steps (st s c m) (st s c m) (λ t. define h t n v)
  def_other nay =
      held s c m (st s c m) (λ t. define h t n v) k (λ t at e. (
        (λ u. u),
        steps_none (st s c m),
        sym (def_suc h t n v some ∙ other_kind (define (h - 1)) n v (node_at t.records n).kind t (sym (ex t.records at) ∙ nay)),
      ))

  module _ (y : Option ℕ) (ey : (rs : List Record) → Stores s m.records rs → y ≡ number_word (number_of rs n v)) where
    pub def_found : is_some y ≡ true → Steps (st s c m) (st s c m) (λ t. define h t n v)
    def_found nay =
        held s c m (st s c m) (λ t. define h t n v) k (λ t at e. (
          (λ u. u),
          steps_none (st s c m),
          sym (def_suc h t n v some ∙
              found_kind (define (h - 1)) n v (node_at t.records n).kind t (zero_number y (number_of t.records n v) (ey t.records at) nay)),
        ))

    module _ (yes : x ≡ true) (none : is_some y ≡ false) (half : Bool) (l r lo many : ℕ)
        (eh : (rs : List Record) → Stores s m.records rs → half ≡ is_halved (node_at rs n).kind)
        (el : (rs : List Record) → Stores s m.records rs → l ≡ left_link (node_at rs n).kind)
        (er : (rs : List Record) → Stores s m.records rs → r ≡ right_link (node_at rs n).kind) (es : Spread s m.records half l r v lo many) where
      pub def_done : (τ υ : St) → (asks half (v - lo) < 4294967296 → Steps (st s c m) τ (λ t. in_turn (ask_pair (define (h - 1)) half l r) t (pairs_from many lo v))) →
          (lo + many ≤ v + 1 → asks half (v - lo) < 4294967296 → Steps τ υ (λ t. take_number n v (write half l r t.fresh (pairs_from many lo v) t))) →
          Steps (st s c m) υ (λ t. define h t n v)
      def_done τ υ p q =
          held s c m υ (λ t. define h t n v) k (λ t at e.
          let d : Define = define (h - 1) in
          let ps : List (ℕ × ℕ) = pairs_from many lo v in
          let kind : (node_at t.records n).kind ≡ join half l r
          = join_parts (node_at t.records n).kind (sym (ex t.records at) ∙ yes) ∙
          (ap₂ (λ (y : Bool) (z : ℕ). join y z (right_link (node_at t.records n).kind)) (sym (eh t.records at)) (sym (el t.records at)) ∙
          ap (join half l) (sym (er t.records at))) in (
            (λ u. take_number n v (write half l r (in_turn (ask_pair d half l r) u ps).fresh ps (in_turn (ask_pair d half l r) u ps))),
            steps_then (st s c m) τ υ (λ u. in_turn (ask_pair d half l r) u ps) (λ u. take_number n v (write half l r u.fresh ps u)) (p es.askable) (q es.within es.askable),
            join_kind d n v (node_at t.records n).kind t half l r ps kind (number_zero y (number_of t.records n v) (ey t.records at) none)
                (spread_pairs s m.records half l r v lo many es t.records at) ∙ sym (def_suc h t n v some),
          ))

-- with the node's own height
pub output_done : (s : List ℕ) (c : List ℤ) (m : Held) (υ : St) (h n v : ℕ) → m.full ≡ false →
    ((rs : List Record) → Stores s m.records rs → h ≡ (node_at rs n).height) → Steps (st s c m) υ (λ t. define h t n v) → Steps (st s c m) υ (λ t. define_output t n v)
unfolding define_output
output_done s c m υ h n v k eh p =
    held s c m υ (λ t. define_output t n v) k (λ t at e. ((λ u. define h u n v), p, ap (λ (i : ℕ). define i t n v) (eh t.records at)))

pub outputs_turn : (σ₀ σ τ : St) (f : Arena → Arena) (n end v : ℕ) → v < end → Steps σ τ (λ t. define_output t n v) →
    Rest σ₀ σ f (λ t. in_turn (λ t v. define_output t n v) t (rising (end - v) v)) → Rest σ₀ τ f (λ t. in_turn (λ t v. define_output t n v) t (rising (end - (v + 1)) (v + 1)))
outputs_turn σ₀ σ τ f n end v i p =
    rest_turn σ₀ σ τ f (λ t. in_turn (λ t v. define_output t n v) t (rising (end - v) v)) (λ t. in_turn (λ t v. define_output t n v) t (rising (end - (v + 1)) (v + 1)))
    (λ t. define_output t n v) p (rising_turn (λ t v. define_output t n v) end v i)

-- the room ended among the outputs
pub outputs_full : (σ₀ σ : St) (f : Arena → Arena) (n k v : ℕ) → (marks_of σ).full ≡ true →
    Rest σ₀ σ f (λ t. in_turn (λ t v. define_output t n v) t (rising k v)) → Steps σ₀ σ f
outputs_full σ₀ σ f n k v full p =
    rest_full σ₀ σ f (λ t. in_turn (λ t v. define_output t n v) t (rising k v))
    (turns_grow (λ t v. define_output t n v) (λ t v. output_grows n v t) (rising k v)) full p

-- An output defined earlier ---------------------------------------------------------------------------------------------------

module _ (s : List ℕ) (c : List ℤ) (m : Held) (n most v : ℕ) (o : Output) (k : m.full ≡ false) (ev : v ≡ o.value) (l r : ℕ) (all pairs : Pairs) (h : ℕ)
    (el : (rs : List Record) → Stores s m.records rs → l ≡ left_link (node_at rs n).kind)
    (er : (rs : List Record) → Stores s m.records rs → r ≡ right_link (node_at rs n).kind) (es : Spread s m.records true l r v all.lo all.many)
    (ep : pairs ≡ record { lo = all.lo; many = min all.many (v - most - all.lo) }) (eh : (rs : List Record) → Stores s m.records rs → h ≡ (node_at rs n).height) where
  abbrev ps : List (ℕ × ℕ)
  ps = pairs_from pairs.many pairs.lo v

  -- the pairs whose b exceeds the bound
  few : (rs : List Record) → Stores s m.records rs → ps ≡ further_pairs rs n most o.value
  unfolding further_pairs
  few rs at =
      let first : ps ≡ keep (λ p. ltb most p.1) (pairs_from all.many all.lo v) = rw ep (sym (further most all.many all.lo v)) in
      first ∙ (ap (keep (λ p. ltb most p.1)) (spread_pairs s m.records true l r v all.lo all.many es rs at) ∙
      rw (el rs at, er rs at, ev) refl)

  askable : asks true (v - pairs.lo) < 4294967296
  askable = rw ep es.askable

  pub extend_done : (τ υ : St) → (asks true (v - pairs.lo) < 4294967296 → Steps (st s c m) τ (λ t. in_turn (ask_pair (define h) true l r) t ps)) →
      (pairs.lo + pairs.many ≤ v + 1 → asks true (v - pairs.lo) < 4294967296 → Steps τ υ (write true l r o.number ps)) → Steps (st s c m) υ (λ t. extend n most t o)
  unfolding extend
  extend_done τ υ p q =
      held s c m υ (λ t. extend n most t o) k (λ t at e. (
        (λ u. write true l r o.number ps (in_turn (ask_pair (define h) true l r) u ps)),
        steps_then (st s c m) τ υ (λ u. in_turn (ask_pair (define h) true l r) u ps) (write true l r o.number ps) (p askable) (q (span_fewer v most all pairs ep es.within) askable),
        same t (el t.records at) (er t.records at) (eh t.records at) (few t.records at),
      ))
    where
      same : (t : Arena) → l ≡ left_link (node_at t.records n).kind → r ≡ right_link (node_at t.records n).kind → h ≡ (node_at t.records n).height →
          ps ≡ further_pairs t.records n most o.value →
          write true l r o.number ps (in_turn (ask_pair (define h) true l r) t ps) ≡ extend n most t o
      same t a b d e = rw (a, b, d, e) refl
