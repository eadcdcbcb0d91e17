-- The answers of enforce, one law for each way.
use mathlib.Core.Path.{◌≡◌, refl, sym, ap, ap₂, ◌∙◌, subst}
use mathlib.Core.Bool.{Bool, true, false, cond, ◌&&◌}
use mathlib.Core.Option.{Option, none, some}
use mathlib.Core.List.{List, [], ◌∷◌}
use Prim.Native.Nat.{ℕ, zero, suc, ◌+◌, ◌-◌, ◌/◌, ◌%◌, ◌^◌, ◌≤◌, ◌<◌}
use native.Mathlib.Omega.{arith}
use lib.Dec.{leb, eqb}
use lib.ListN.{length}
use lib.IntN.{ℤ, pos, neg_ℤ}
use borrow.Author.Tests.{le-leb, lt-leb, eq-eqb, ne_eqb}
use Rattle.std.specs.Prelude.{Result, Ok, Err, Some, None}
use Rattle.rules.specs.declared.Refusal.{Refusal}
use Rattle.rules.specs.declared.Refusal.TheVariants.{NotEncoded}
use Rattle.rules.specs.Records.{Kind, leaf, Node, node_at, entries, literal_word, word_literal}
use Rattle.rules.specs.Totalizer.{number_of, literal_of}
use Rattle.rules.specs.Build.{Build, output_weight, root, root_node, largest, unbuilt}
use Rattle.rules.specs.Enforce.{set_tares, output_answer, root_answer, built_answer, one_answer, enforce}
use Rattle.laws.specs.Records.Words.{literal_word_literal}
use Rattle.totalizer_find.specs.Found.{number_word}
use Rattle.enforce_answer.specs.Ends.{Ended}
use Rattle.enforce_answer.specs.Stored.{Stored}
use Rattle.enforce_answer.proofs.Finish.{ended_empty, ended_refused}
use Rattle.numbers.proofs.Bits.{power_whole}

-- an end of one answer is that of an equal one
pub ended_as : {o p : Option (List ℤ)} (c d : List ℤ) (r : Result ℕ Refusal) → o ≡ p → Ended o c d r → Ended p c d r
ended_as c d r e h = subst (λ (z : Option (List ℤ)). Ended z c d r) e h

-- the literal of a negated word
negated_literal : (x : ℤ) (w q : ℕ) → w ≡ literal_word x → q ≡ literal_word (neg_ℤ (word_literal w)) → word_literal q ≡ neg_ℤ x
negated_literal x w q e f = ap word_literal f ∙ (literal_word_literal (neg_ℤ (word_literal w)) ∙ ap neg_ℤ (ap word_literal e ∙ literal_word_literal x))

-- what was found, as a number
number_none : (n : ℕ) → None ≡ number_word n → n ≡ 0
unfolding number_word
number_none zero e = refl
number_none (suc n) e = absurd (cc)

number_some : (n w : ℕ) → Some w ≡ number_word n → (n ≡ 0 → ⊥) × (w ≡ literal_word (pos n))
unfolding number_word
number_some zero w e = absurd (cc)
number_some (suc n) w e = (λ z. omega arith, cc)

-- one input
module _ (b : Build) (u m d : ℕ) (is : m ≡ largest b.queue) (at : b.set ≡ d) (c : List ℤ) where
  divided : largest b.queue / b.set ≡ m / d
  divided = ap₂ ◌/◌ (sym is) at

  pub one_empty : m / d ≤ u → Ended (some (one_answer b u)) c c (Ok 0)
  unfolding one_answer
  one_empty h =
      ended_as c c (Ok 0)
      (ap (λ (t : Bool). some (cond t [] (neg_ℤ (literal_of (node_at b.arena.records 0).kind 0) ∷ [])))
      (sym (ap (λ (n : ℕ). leb n u) divided ∙ le-leb (m / d) u h))) (ended_empty c)

  pub one_literal : (x : ℤ) (k : Kind) (n w q : ℕ) (e : List ℤ) (r : Result ℕ Refusal) → u < m / d →
      (node_at b.arena.records 0).kind ≡ leaf x → (node_at b.arena.records 0).kind ≡ k → w ≡ literal_word (literal_of k n) →
      q ≡ literal_word (neg_ℤ (word_literal w)) → Ended (some (word_literal q ∷ [])) c e r → Ended (some (one_answer b u)) c e r
  unfolding one_answer literal_of
  one_literal x k n w q e r h j f g i p =
      ended_as c e r
      (ap (λ (z : ℤ). some (z ∷ [])) (negated_literal x w q (g ∙ ap (λ (z : Kind). literal_word (literal_of z n)) (sym f ∙ j)) i ∙
      ap (λ (z : Kind). neg_ℤ (literal_of z 0)) (sym j)) ∙
      ap (λ (t : Bool). some (cond t [] (neg_ℤ (literal_of (node_at b.arena.records 0).kind 0) ∷ [])))
      (sym (ap (λ (n : ℕ). leb n u) divided ∙ lt-leb (m / d) u h))) p

-- a defined output
output_some : (b : Build) (u k : ℕ) → (k ≡ 0 → ⊥) →
    output_answer b u k ≡ some (neg_ℤ (pos k) ∷ set_tares b.tares (output_weight b - 1 - u % output_weight b))
unfolding output_answer
output_some b u zero h = absurd (h refl)
output_some b u (suc k) h = refl

output_none : (b : Build) (u k : ℕ) → k ≡ 0 → output_answer b u k ≡ none
unfolding output_answer
output_none b u zero h = refl
output_none b u (suc k) h = absurd (omega arith)

-- the answer at the root, by the weight w of outputs and the root's place
module _ (b : Build) (u w top : ℕ) (weight : w ≡ output_weight b) (at : root b ≡ top) (m : ℕ) (most : m ≡ (node_at b.arena.records top).maximum) (c : List ℤ) where
  root_is : root_answer b u ≡ cond (leb m (u / w)) (some []) (output_answer b u (number_of b.arena.records top (u / w + 1)))
  unfolding root_answer root_node
  root_is =
      let up : suc (u / w) ≡ u / w + 1 = omega arith in
      ap₂ (λ (v r : ℕ). cond (leb (node_at b.arena.records r).maximum (u / v)) (some []) (output_answer b u (number_of b.arena.records r (suc (u / v)))))
      (sym weight) at ∙
      ap₂ (λ (n j : ℕ). cond (leb n (u / w)) (some []) (output_answer b u (number_of b.arena.records top j))) (sym most) up

  pub root_empty : m ≤ u / w → Ended (root_answer b u) c c (Ok 0)
  root_empty h =
      ended_as c c (Ok 0)
      (sym (root_is ∙ ap (λ (t : Bool). cond t (some []) (output_answer b u (number_of b.arena.records top (u / w + 1)))) (le-leb m (u / w) h)))
      (ended_empty c)

  root_past : u / w < m → root_answer b u ≡ output_answer b u (number_of b.arena.records top (u / w + 1))
  root_past h = root_is ∙ ap (λ (t : Bool). cond t (some []) (output_answer b u (number_of b.arena.records top (u / w + 1)))) (lt-leb m (u / w) h)

  module _ (h : u / w < m) where
    pub root_undefined : None ≡ number_word (number_of b.arena.records top (u / w + 1)) → Ended (root_answer b u) c c (Err NotEncoded)
    root_undefined e =
        ended_as c c (Err NotEncoded)
        (sym (root_past h ∙ output_none b u (number_of b.arena.records top (u / w + 1)) (number_none (number_of b.arena.records top (u / w + 1)) e))) (ended_refused c)

    pub root_output : (o q : ℕ) (ts : List ℕ) (d : List ℤ) (r : Result ℕ Refusal) → Some o ≡ number_word (number_of b.arena.records top (u / w + 1)) → q ≡ literal_word (neg_ℤ (word_literal o)) → b.tares ≡ ts →
        Ended (some (word_literal q ∷ set_tares ts (w - 1 - u % w))) c d r → Ended (root_answer b u) c d r
    root_output o q ts d r e f g p =
        let (defined, found) = number_some (number_of b.arena.records top (u / w + 1)) o e in
        ended_as c d r
        (sym (root_past h ∙ (output_some b u (number_of b.arena.records top (u / w + 1)) defined ∙
        (ap₂ (λ (z : ℤ) (v : ℕ). some (z ∷ set_tares b.tares (v - 1 - u % v)))
        (sym (negated_literal (pos (number_of b.arena.records top (u / w + 1))) o q found f)) (sym weight) ∙
        ap (λ (l : List ℕ). some (word_literal q ∷ set_tares l (w - 1 - u % w))) g)))) p

-- what the words have of a build
module _ (b : Build) (store : List ℕ) (records : ℕ) (h : Stored b store records) where
  pub most_is : (top m : ℕ) → m ≡ (node_at h.rs top).maximum → m ≡ (node_at b.arena.records top).maximum
  most_is top m e = e ∙ sym (ap (λ (n : Node). n.maximum) (h.node_is top))

  pub found_is : (top v : ℕ) → number_word (number_of h.rs top v) ≡ number_word (number_of b.arena.records top v)
  found_is top v = ap number_word (sym (h.number_is top v))

  pub waits_is : (m : ℕ) → m ≡ largest (entries h.rs) → m ≡ largest b.queue
  waits_is m e = e ∙ ap largest (sym h.queue_is)

  pub first_is : (node_at b.arena.records 0).kind ≡ (node_at h.rs 0).kind
  first_is = ap (λ (n : Node). n.kind) (h.node_is 0)

-- the weight of outputs
pub weight_is : (b : Build) (ts : List ℕ) (w : ℕ) → w ≡ 2 ^ length ts % 2 ^ 64 → length ts ≤ 19 → b.tares ≡ ts → w ≡ output_weight b
unfolding output_weight
weight_is b ts w e h t = power_whole (length ts) w (omega arith) e ∙ ap (λ (n : ℕ). 2 ^ n) (sym (ap length t))

-- by the build
module _ (b : Build) (u : ℕ) (c : List ℤ) where
  pub built_none : b.built ≡ 0 → Ended (built_answer b u) c c (Err NotEncoded)
  unfolding built_answer unbuilt
  built_none e =
      ended_as c c (Err NotEncoded)
      (sym (ap (λ (t : Bool). cond t none (cond (leb b.set (largest b.queue)) none (root_answer b (u / (b.built / b.set))))) (eq-eqb b.built 0 e)))
      (ended_refused c)

  module _ (e : b.built ≡ 0 → ⊥) (m : ℕ) (is : m ≡ largest b.queue) where
    built_is : built_answer b u ≡ cond (leb b.set m) none (root_answer b (u / (b.built / b.set)))
    unfolding built_answer unbuilt
    built_is =
        ap₂ (λ (t : Bool) (n : ℕ). cond t none (cond (leb b.set n) none (root_answer b (u / (b.built / b.set))))) (ne_eqb b.built 0 e) (sym is)

    pub built_waits : b.set ≤ m → Ended (built_answer b u) c c (Err NotEncoded)
    built_waits h =
        ended_as c c (Err NotEncoded)
        (sym (built_is ∙ ap (λ (t : Bool). cond t none (root_answer b (u / (b.built / b.set)))) (le-leb b.set m h))) (ended_refused c)

    pub built_root : (d : List ℤ) (r : Result ℕ Refusal) → m < b.set → Ended (root_answer b (u / (b.built / b.set))) c d r → Ended (built_answer b u) c d r
    built_root d r h p =
        ended_as c d r (sym (built_is ∙ ap (λ (t : Bool). cond t none (root_answer b (u / (b.built / b.set)))) (lt-leb b.set m h))) p

-- in the order of enforce
module _ (b : Build) (u : ℕ) (c : List ℤ) (t : Bool) (within : t ≡ (leb b.sum u && eqb b.set 1)) where
  rest : Option (List ℤ)
  rest = cond (eqb b.inputs 0) (some []) (cond (eqb b.inputs 1) (some (one_answer b u)) (built_answer b u))

  enforce_is : enforce b u ≡ cond t (some []) rest
  unfolding enforce rest
  enforce_is = ap (λ (z : Bool). cond z (some []) rest) (sym within)

  pub enforce_within : t ≡ true → Ended (enforce b u) c c (Ok 0)
  enforce_within e = ended_as c c (Ok 0) (sym (enforce_is ∙ ap (λ (z : Bool). cond z (some []) rest) e)) (ended_empty c)

  module _ (e : t ≡ false) where
    enforce_rest : enforce b u ≡ rest
    enforce_rest = enforce_is ∙ ap (λ (z : Bool). cond z (some []) rest) e

    pub enforce_none : b.inputs ≡ 0 → Ended (enforce b u) c c (Ok 0)
    unfolding rest
    enforce_none z =
        ended_as c c (Ok 0)
        (sym (enforce_rest ∙ ap (λ (x : Bool). cond x (some []) (cond (eqb b.inputs 1) (some (one_answer b u)) (built_answer b u))) (eq-eqb b.inputs 0 z)))
        (ended_empty c)

    pub enforce_one : (d : List ℤ) (r : Result ℕ Refusal) → b.inputs ≡ 1 → Ended (some (one_answer b u)) c d r → Ended (enforce b u) c d r
    unfolding rest
    enforce_one d r z p =
        ended_as c d r
        (sym (enforce_rest ∙ ap₂ (λ (x y : Bool). cond x (some []) (cond y (some (one_answer b u)) (built_answer b u))) (ne_eqb b.inputs 0 (λ q. omega arith)) (eq-eqb b.inputs 1 z))) p

    pub enforce_more : (d : List ℤ) (r : Result ℕ Refusal) → (b.inputs ≡ 0 → ⊥) → (b.inputs ≡ 1 → ⊥) → Ended (built_answer b u) c d r → Ended (enforce b u) c d r
    unfolding rest
    enforce_more d r y z p =
        ended_as c d r
        (sym (enforce_rest ∙ ap₂ (λ (x w : Bool). cond x (some []) (cond w (some (one_answer b u)) (built_answer b u))) (ne_eqb b.inputs 0 y) (ne_eqb b.inputs 1 z))) p

pub within_not : (sum set u : ℕ) → u < sum → false ≡ (leb sum u && eqb set 1)
within_not sum set u h = sym (ap (λ (x : Bool). x && eqb set 1) (lt-leb sum u h))

pub within_set : (sum set u : ℕ) → sum ≤ u → eqb set 1 ≡ (leb sum u && eqb set 1)
within_set sum set u h = sym (ap (λ (x : Bool). x && eqb set 1) (le-leb sum u h))
