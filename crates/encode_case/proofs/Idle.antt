-- Where every output of the range is defined, encode does nothing; where one is not, it takes a number.
use mathlib.Core.Path.{◌≡◌, refl, sym, ap, ◌∙◌, subst}
use mathlib.Core.Bool.{Bool, true, false, not, ◌&&◌, false≢true}
use mathlib.Core.List.{List, [], ◌∷◌}
use Prim.Native.Nat.{ℕ, zero, suc, ◌≤◌, ◌<◌}
use native.Mathlib.Omega.{arith}
use lib.Dec.{eqb}
use borrow.Author.Tests.{eqb-true, eqb-false}
use Rattle.rules.specs.Lists.{all, in_turn}
use Rattle.rules.specs.Records.{Kind, join, node_at}
use Rattle.rules.specs.Totalizer.{Arena, Define, counts, pairs, number_of, write, take_number, ask_pair, define_join, define_kind, define, define_output}
use Rattle.records.proofs.Grow.{Grows}
use Rattle.totalizer_define.proofs.Defining.{found_kind}
use Rattle.totalizer_define.proofs.Growth.{turns_grow, output_grows, pair_grows, define_grows}
use Rattle.encode_outputs.specs.Values.{all_defined}

-- a defined output is left as it is
output_defined : (s : Arena) (n v : ℕ) → (number_of s.records n v ≡ 0 → ⊥) → define_output s n v ≡ s
unfolding define_output define
output_defined s n v h = go (node_at s.records n).height
  where
    go : (f : ℕ) → define f s n v ≡ s
    go zero = refl
    go (suc f) = found_kind (define f) n v (node_at s.records n).kind s h

-- an output of a join that is not, takes a number
join_taken : (d : Define) → ((t : Arena) (n v : ℕ) → Grows t (d t n v)) → (n v : ℕ) (half : Bool) (l r : ℕ) (ps : List (ℕ × ℕ)) (x : ℕ) (s : Arena) → x ≡ 0 →
    s.fresh < (define_join d n v half l r ps x s).fresh
unfolding define_join take_number write
join_taken d g n v half l r ps (suc x) s h = absurd (omega arith)
join_taken d g n v half l r ps zero s h =
    omega (arith, (turns_grow (ask_pair d half l r) (pair_grows d g half l r) ps s).fresh_grow)

output_taken : (s : Arena) (n v : ℕ) (half : Bool) (l r : ℕ) → (node_at s.records n).kind ≡ join half l r → 1 ≤ (node_at s.records n).height →
    number_of s.records n v ≡ 0 → s.fresh < (define_output s n v).fresh
unfolding define_output define define_kind
output_taken s n v half l r k up none = go (node_at s.records n).height up
  where
    kind : (f : ℕ) (y : Kind) → y ≡ join half l r → s.fresh < (define_kind (define f) n v y s).fresh
    kind f y e =
        rw e (join_taken (define f) (define_grows f) n v half l r (pairs (node_at s.records l).maximum (counts half (node_at s.records r).maximum) v)
        (number_of s.records n v) s none)

    go : (f : ℕ) → 1 ≤ f → s.fresh < (define f s n v).fresh
    go zero h = absurd (omega arith)
    go (suc f) h = kind f (node_at s.records n).kind k

module _ (s : Arena) (n : ℕ) where
  abbrev turns : List ℕ → Arena
  turns vs = in_turn (λ t v. define_output t n v) s vs

  turns_grown : (t : Arena) (vs : List ℕ) → t.fresh ≤ (in_turn (λ t v. define_output t n v) t vs).fresh
  turns_grown t vs = (turns_grow (λ t v. define_output t n v) (λ t v. output_grows n v t) vs t).fresh_grow

  pub all_idle : (vs : List ℕ) → all_defined s.records n vs ≡ true → turns vs ≡ s
  unfolding all_defined all in_turn
  all_idle [] h = refl
  all_idle (v ∷ vs) h = go (eqb (number_of s.records n v) 0) refl h (all_idle vs)
    where
      go : (b : Bool) → eqb (number_of s.records n v) 0 ≡ b → (not b && all_defined s.records n vs) ≡ true →
          (all_defined s.records n vs ≡ true → turns vs ≡ s) → in_turn (λ t v. define_output t n v) (define_output s n v) vs ≡ s
      go true e h ih = absurd (false≢true h)
      go false e h ih = ap (λ (t : Arena). in_turn (λ t v. define_output t n v) t vs) (output_defined s n v (eqb-false (number_of s.records n v) 0 e)) ∙ ih h

  pub some_taken : (half : Bool) (l r : ℕ) → (node_at s.records n).kind ≡ join half l r → 1 ≤ (node_at s.records n).height → (vs : List ℕ) →
      all_defined s.records n vs ≡ false → s.fresh < (turns vs).fresh
  unfolding all_defined all in_turn
  some_taken half l r k up [] h = absurd (false≢true (sym h))
  some_taken half l r k up (v ∷ vs) h = go (eqb (number_of s.records n v) 0) refl h (some_taken half l r k up vs)
    where
      go : (b : Bool) → eqb (number_of s.records n v) 0 ≡ b → (not b && all_defined s.records n vs) ≡ false →
          (all_defined s.records n vs ≡ false → s.fresh < (turns vs).fresh) →
          s.fresh < (in_turn (λ t v. define_output t n v) (define_output s n v) vs).fresh
      go true e h ih =
          omega (arith, output_taken s n v half l r k up (eqb-true (number_of s.records n v) 0 e), turns_grown (define_output s n v) vs)
      go false e h ih =
          subst (λ (t : Arena). s.fresh < (in_turn (λ t v. define_output t n v) t vs).fresh)
          (sym (output_defined s n v (eqb-false (number_of s.records n v) 0 e))) (ih h)
