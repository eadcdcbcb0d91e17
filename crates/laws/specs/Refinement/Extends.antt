-- Outputs defined one after another, and old outputs extended: all that well formed asks of outputs and numbers is kept.
use Rattle.std.specs.Prelude.{◌≡◌, Bool}
use Rattle.std.proofs.Common.{sym, ◌∙◌, subst, arith}
use Rattle.std.proofs.Math.Path.{ap}
use Rattle.std.proofs.Math.Bool.{true}
use mathlib.Core.List.{List, [], ◌∷◌}
use Prim.Native.Nat.{ℕ, suc, ◌≤◌, max}
use Rattle.std.proofs.Math.Dec.{eqb, ltb}
use Rattle.rules.specs.Lists.{in_turn, keep}
use Rattle.rules.specs.Records.{Kind, join, Node, Output, Record, node_at, left_link, right_link, outputs}
use Rattle.rules.specs.Totalizer.{Arena, counts, pairs, ask_pair, write, define, define_output}
use Rattle.rules.specs.Refinement.{further_pairs, former_half, extend, extend_bucket}
use Rattle.laws.specs.Lists.Facts.{All, All_keep}
use Rattle.laws.specs.Totalizer.Defines.{pairs_within}
use Rattle.laws.specs.WellFormed.Plain.{Sound}
use Rattle.laws.specs.Totalizer.Outputs.{Counted, Kept, kept_then, kept_pairs, counted_write, define_right, adds_none}

module _ (at : ℕ → Node) (pl : ℕ → Bool) (sound : Sound at pl) (tares variables : List ℕ) where
  -- what any number of calls keep and add
  abbrev pub Goes : Arena → Arena → Type 0
  Goes s t = (k : ℕ) × Kept at pl sound tares variables k s t

  pub goes_none : (s : Arena) → Counted at pl tares variables s → Goes s s
  goes_none s c = (0, (c, adds_none at 0 s))

  pub goes_then : (s t u : Arena) → Goes s t → (Counted at pl tares variables t → Goes t u) → Goes s u
  goes_then s t u a b =
      let c : Goes t u = b a.1.0 in
      let m : ℕ = max a.0 c.0 in
      (m, kept_then at pl sound tares variables a.0 c.0 m s t u (omega arith) (omega arith) a.1 (λ x. c.1))

  -- steps one after another
  pub goes_turns : {A : Type 0} (Q : A → Type 0) (f : Arena → A → Arena) →
      ((s : Arena) (x : A) → Q x → Counted at pl tares variables s → Goes s (f s x)) →
      (s : Arena) (xs : List A) → All Q xs → Counted at pl tares variables s → Goes s (in_turn f s xs)
  unfolding in_turn
  goes_turns Q f h s [] q c = goes_none s c
  goes_turns Q f h s (x ∷ xs) q c = goes_then s (f s x) (in_turn f (f s x) xs) (h s x q.0 c) (λ d. goes_turns Q f h (f s x) xs q.1 d)

  -- an output defined
  pub output_goes : (s : Arena) (n v : ℕ) → pl n ≡ true → (1 ≤ v) × (v ≤ (at n).maximum) → Counted at pl tares variables s →
      Goes s (define_output s n v)
  unfolding define_output
  output_goes s n v there within c =
      let is : (node_at s.records n).height ≡ (at n).height = ap (λ (a : ℕ → Node). (a n).height) c.over.at_is in (
        (at n).height,
        define_right at pl sound tares variables (node_at s.records n).height s n v c there (omega arith) within.0
            within.1,
      )

  -- an old output extended
  extend_goes : (n most : ℕ) (l r : ℕ) → (at n).kind ≡ join true l r → (s : Arena) (o : Output) → Counted at pl tares variables s →
      Goes s (extend n most s o)
  unfolding extend further_pairs left_link right_link
  extend_goes n most l r k s o c =
      let is : node_at s.records ≡ at = c.over.at_is in
      let h : ℕ = (node_at s.records n).height in
      let h_is : h ≡ (at n).height = ap (λ (a : ℕ → Node). (a n).height) is in
      let kd : Kind = (node_at s.records n).kind in
      let k_is : kd ≡ join true l r = ap (λ (a : ℕ → Node). (a n).kind) is ∙ k in
      let l_is : left_link kd ≡ l = ap left_link k_is in
      let r_is : right_link kd ≡ r = ap right_link k_is in
      let (l_there, r-there) = (sound n).links_are true l r k in
      let up : (at n).height ≡ suc (max (at l).height (at r).height) = (sound n).height_is true l r k in
      let ps : List (ℕ × ℕ) = further_pairs s.records n most o.value in
      let within : All (λ p. (p.0 ≤ (at (left_link kd)).maximum) × (p.1 ≤ counts true (at (right_link kd)).maximum)) ps =
      All_keep (λ p. (p.0 ≤ (at (left_link kd)).maximum) × (p.1 ≤ counts true (at (right_link kd)).maximum)) (λ p. ltb most p.1)
      (pairs (node_at s.records (left_link kd)).maximum (counts true (node_at s.records (right_link kd)).maximum) o.value)
      (subst (λ (a : ℕ → Node). All (λ p. (p.0 ≤ (at (left_link kd)).maximum) × (p.1 ≤ counts true (at (right_link kd)).maximum))
      (pairs (a (left_link kd)).maximum (counts true (a (right_link kd)).maximum) o.value)) (sym is)
      (pairs_within (at (left_link kd)).maximum (counts true (at (right_link kd)).maximum) o.value)) in
      let l_h : (at (left_link kd)).height ≡ (at l).height = ap (λ x. (at x).height) l_is in
      let r_h : (at (right_link kd)).height ≡ (at r).height = ap (λ x. (at x).height) r_is in
      let t : Arena = in_turn (ask_pair (define h) true (left_link kd) (right_link kd)) s ps in
      let first : Kept at pl sound tares variables h s t =
      kept_pairs at pl sound tares variables h (define h) (define_right at pl sound tares variables h) true (left_link kd) (right_link kd)
      (ap pl l_is ∙ l_there) (ap pl r_is ∙ r-there) (omega arith) (omega arith) s ps within c in
      goes_then s t (write true (left_link kd) (right_link kd) o.number ps t) (h, first)
      (λ d. (0, counted_write at pl sound tares variables true (left_link kd) (right_link kd) o.number ps t 0 d))

  -- all old outputs of a bucket
  pub extend_bucket_goes : (old : List Record) (s : Arena) (n : ℕ) → (l : ℕ) × (r : ℕ) × ((at n).kind ≡ join true l r) →
      Counted at pl tares variables s → Goes s (extend_bucket old s n)
  unfolding extend_bucket
  extend_bucket_goes old s n (l, r, k) c =
      goes_turns (λ o. Unit {0}) (extend n (former_half old n)) (λ s o u c. extend_goes n (former_half old n) l r k s o c) s
      (keep (λ o. eqb o.node n) (outputs old)) (nothing (keep (λ o. eqb o.node n) (outputs old))) c
    where
      nothing : (os : List Output) → All (λ o. Unit {0}) os
      nothing [] = tt
      nothing (o ∷ os) = (tt, nothing os)
