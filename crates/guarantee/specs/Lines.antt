-- Ask 4: lines that name a literal twice weigh what their combined list weighs, under every assignment.
use Rattle.std.specs.Prelude.{◌≡◌, ◌≢◌, Bool, ℤ}
use Rattle.std.proofs.Math.Path.{refl, ap, ap₂}
use Rattle.std.proofs.Common.{sym, ◌∙◌, div-one}
use Rattle.std.proofs.Math.Bool.{true, false, cond}
use mathlib.Core.List.{List, [], ◌∷◌, map}
use Prim.Native.Nat.{ℕ, ◌+◌, ◌*◌, ◌≤◌}
use native.Mathlib.Omega.{arith}
use Rattle.std.proofs.Math.Nat.{zero-mul, add-mul}
use Rattle.std.proofs.Math.Dec.{eqb}
use borrow.Author.Tests.{eqb-true, eqb-false, ne_eqb}
use Rattle.rules.specs.Records.{literal_word, word_literal}
use Rattle.rules.specs.Combined.{combined_literals, weight_named, combined_weights}
use Rattle.laws.specs.Records.Words.{literal_word_literal}
use Rattle.laws.specs.Lists.Facts.{All, All_map, occurs, occurs_here, occurs_other, occurs_more}
use Rattle.laws.specs.Combined.{combined_once, combined_has}
use Rattle.guarantee.specs.Meaning.Truth.{Truths}
use Rattle.guarantee.specs.Meaning.Values.{bit}
use Rattle.guarantee.specs.Promise.{sum_of}

none_stands : (n : ℕ) → occurs n [] ≡ 0
unfolding occurs
none_stands n = refl

module _ (t : Truths) where
  -- the weight f of each true literal, added up
  weighed : (ℤ → ℕ) → List ℤ → ℕ
  weighed f [] = 0
  weighed f (x ∷ xs) = f x * bit (t x) + weighed f xs

  sum_weighed : (f : ℤ → ℕ) (xs : List ℤ) → sum_of xs (map f xs) 1 t ≡ weighed f xs
  unfolding weighed
  sum_weighed f [] = refl
  sum_weighed f (x ∷ xs) = ap₂ (λ (k n : ℕ). k * bit (t x) + n) (div-one (f x)) (sum_weighed f xs)

  -- equal words are equal literals
  same_truth : (x y : ℤ) → literal_word x ≡ literal_word y → t x ≡ t y
  same_truth x y e = ap t (sym (literal_word_literal x) ∙ (ap word_literal e ∙ literal_word_literal y))

  line : ℤ → ℕ → ℤ → ℕ
  line y w x = cond (eqb (literal_word x) (literal_word y)) w 0

  -- a line's weight goes to none of the literals that it does not name
  line_none : (y : ℤ) (w : ℕ) (xs : List ℤ) → occurs (literal_word y) (map literal_word xs) ≡ 0 → weighed (line y w) xs ≡ 0
  unfolding weighed line
  line_none y w [] e = refl
  line_none y w (x ∷ xs) e =
      let off : eqb (literal_word x) (literal_word y) ≡ false = ne_eqb (literal_word x) (literal_word y) (λ q. omega (arith, e, occurs_here (literal_word y) (literal_word x) (map literal_word xs) (sym q))) in
      ap₂ (λ (b : Bool) (n : ℕ). cond b w 0 * bit (t x) + n) off (line_none y w xs (omega (arith, e, occurs_more (literal_word y) (literal_word x) (map literal_word xs)))) ∙ omega (arith, zero-mul (bit (t x)))

  -- and once to the one that it names
  line_once : (y : ℤ) (w : ℕ) (xs : List ℤ) → occurs (literal_word y) (map literal_word xs) ≡ 1 → weighed (line y w) xs ≡ w * bit (t y)
  unfolding weighed line
  line_once y w [] e = absurd (omega (arith, e, none_stands (literal_word y)))
  line_once y w (x ∷ xs) e = go (eqb (literal_word x) (literal_word y)) refl (λ k. line_once y w xs k)
    where
      go : (b : Bool) → eqb (literal_word x) (literal_word y) ≡ b → (occurs (literal_word y) (map literal_word xs) ≡ 1 → weighed (line y w) xs ≡ w * bit (t y)) →
          cond b w 0 * bit (t x) + weighed (line y w) xs ≡ w * bit (t y)
      go true q ih =
          let is : literal_word x ≡ literal_word y = eqb-true (literal_word x) (literal_word y) q in
          let rest : occurs (literal_word y) (map literal_word xs) ≡ 0 = omega (arith, e, occurs_here (literal_word y) (literal_word x) (map literal_word xs) (sym is)) in
          ap₂ (λ (v : Bool) (n : ℕ). w * bit v + n) (same_truth x y is) (line_none y w xs rest) ∙ omega arith
      go false q ih =
          let other : literal_word y ≢ literal_word x = λ k. eqb-false (literal_word x) (literal_word y) q (sym k) in
          omega (arith, zero-mul (bit (t x)), ih (omega (arith, e, occurs_other (literal_word y) (literal_word x) (map literal_word xs) other)))

  weighed_add : (f g : ℤ → ℕ) (xs : List ℤ) → weighed (λ x. f x + g x) xs ≡ weighed f xs + weighed g xs
  unfolding weighed
  weighed_add f g [] = refl
  weighed_add f g (x ∷ xs) = omega (arith, weighed_add f g xs, add-mul (f x) (g x) (bit (t x)))

  weighed_zero : (xs : List ℤ) → weighed (λ x. 0) xs ≡ 0
  unfolding weighed
  weighed_zero [] = refl
  weighed_zero (x ∷ xs) = omega (arith, weighed_zero xs, zero-mul (bit (t x)))

  -- lines over a list in which each literal that they name stands once
  lines_weigh : (xs lits : List ℤ) (weights : List ℕ) → All (λ y. occurs (literal_word y) (map literal_word xs) ≡ 1) lits → weighed (weight_named lits weights) xs ≡ sum_of lits weights 1 t
  unfolding weight_named line
  lines_weigh xs [] weights h = weighed_zero xs
  lines_weigh xs (y ∷ lits) [] h = weighed_zero xs
  lines_weigh xs (y ∷ lits) (w ∷ weights) h =
      weighed_add (line y w) (weight_named lits weights) xs ∙
      ap₂ ◌+◌ (line_once y w xs h.0 ∙ ap (λ (k : ℕ). k * bit (t y)) (sym (div-one w))) (lines_weigh xs lits weights h.1)

-- the lines' true weights are those of their combined list
pub lines_sum : (lits : List ℤ) (weights : List ℕ) (t : Truths) → sum_of (combined_literals lits) (combined_weights lits weights) 1 t ≡ sum_of lits weights 1 t
unfolding combined_weights
lines_sum lits weights t =
    sum_weighed t (weight_named lits weights) (combined_literals lits) ∙
    lines_weigh t (combined_literals lits) lits weights
    (All_map (λ y (k : 1 ≤ occurs (literal_word y) (map literal_word (combined_literals lits))).
    let once : occurs (literal_word y) (map literal_word (combined_literals lits)) ≡ 1 = omega (arith, k, combined_once lits (literal_word y)) in once) lits (combined_has lits))
