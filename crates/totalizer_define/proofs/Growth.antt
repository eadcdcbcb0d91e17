-- Defining only grows what is needed.
use mathlib.Core.Bool.{Bool, true}
use mathlib.Core.List.{List, [], ◌∷◌}
use Prim.Native.Nat.{ℕ, zero, suc}
use Rattle.rules.specs.Lists.{in_turn}
use Rattle.rules.specs.Records.{Kind, leaf, join, dummy, Output, node_at, left_link, right_link}
use Rattle.rules.specs.Totalizer.{Arena, counts, asks, number_of, pairs, write, take_number, Define, ask, ask_pair, define_join, define_kind, define, define_output}
use Rattle.rules.specs.Refinement.{further_pairs, extend}
use Rattle.records.proofs.Grow.{Grows, grows_self, grows_trans}
use Rattle.totalizer_clauses.proofs.Growth.{write_grows, finish_grows}

-- a step for each element grows if each does
pub turns_grow : {A : Type 0} (f : Arena → A → Arena) → ((t : Arena) (x : A) → Grows t (f t x)) → (xs : List A) (t : Arena) → Grows t (in_turn f t xs)
unfolding in_turn
turns_grow f g [] t = grows_self t
turns_grow f g (x ∷ xs) t = grows_trans t (f t x) (in_turn f (f t x) xs) (g t x) (turns_grow f g xs (f t x))

abbrev pub Growing : Define → Type 0
Growing d = (t : Arena) (n v : ℕ) → Grows t (d t n v)

pub ask_grows : (d : Define) → Growing d → (t : Arena) (n v : ℕ) → Grows t (ask d t n v)
unfolding ask
ask_grows d g t n zero = grows_self t
ask_grows d g t n (suc v) = g t n (suc v)

pub pair_grows : (d : Define) → Growing d → (half : Bool) (l r : ℕ) (t : Arena) (p : ℕ × ℕ) → Grows t (ask_pair d half l r t p)
unfolding ask_pair
pair_grows d g half l r t p =
    let u : Arena = ask d t l p.0 in
    grows_trans t u (ask d u r (asks half p.1)) (ask_grows d g t l p.0) (ask_grows d g u r (asks half p.1))

join_grows : (d : Define) → Growing d → (n v : ℕ) (half : Bool) (l r : ℕ) (ps : List (ℕ × ℕ)) (x : ℕ) (t : Arena) → Grows t (define_join d n v half l r ps x t)
unfolding define_join
join_grows d g n v half l r ps zero t =
    let u : Arena = in_turn (ask_pair d half l r) t ps in
    grows_trans t u (take_number n v (write half l r u.fresh ps u)) (turns_grow (ask_pair d half l r) (pair_grows d g half l r) ps t) (finish_grows n v half l r ps u)
join_grows d g n v half l r ps (suc x) t = grows_self t

kind_grows : (d : Define) → Growing d → (n v : ℕ) (k : Kind) (t : Arena) → Grows t (define_kind d n v k t)
unfolding define_kind
kind_grows d g n v (leaf x) t = grows_self t
kind_grows d g n v (join half l r) t =
    join_grows d g n v half l r
    (pairs (node_at t.records l).maximum (counts half (node_at t.records r).maximum) v)
    (number_of t.records n v) t
kind_grows d g n v dummy t = grows_self t

pub define_grows : (h : ℕ) → Growing (define h)
unfolding define
define_grows zero t n v = grows_self t
define_grows (suc h) t n v = kind_grows (define h) (define_grows h) n v (node_at t.records n).kind t

pub output_grows : (n v : ℕ) (t : Arena) → Grows t (define_output t n v)
unfolding define_output
output_grows n v t = define_grows (node_at t.records n).height t n v

pub extend_grows : (n most : ℕ) (o : Output) (t : Arena) → Grows t (extend n most t o)
unfolding extend
extend_grows n most o t =
    let k : Kind = (node_at t.records n).kind in
    let h : ℕ = (node_at t.records n).height in
    let ps : List (ℕ × ℕ) = further_pairs t.records n most o.value in
    let u : Arena = in_turn (ask_pair (define h) true (left_link k) (right_link k)) t ps in
    grows_trans t u (write true (left_link k) (right_link k) o.number ps u)
    (turns_grow (ask_pair (define h) true (left_link k) (right_link k)) (pair_grows (define h) (define_grows h) true (left_link k) (right_link k)) ps t)
    (write_grows true (left_link k) (right_link k) o.number ps u)
