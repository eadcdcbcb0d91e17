-- A walk along a list asked whether all pass a test, and the words of the literals.
use mathlib.Core.Path.{◌≡◌, refl, ap}
use mathlib.Core.Bool.{Bool, true, false, not, ◌&&◌}
use Rattle.std.specs.List.{list_all}
use mathlib.Core.List.{List, [], ◌∷◌}
use Prim.Native.Nat.{ℕ, zero, suc, ◌+◌, ◌≤◌, ◌<◌}
use native.Mathlib.Omega.{arith}
use lib.ListN.{length, get_or, drop}
use lib.IntN.{ℤ}
use Rattle.rules.specs.Lists.{all}
use Rattle.rules.specs.Numbers.{lawful}
use Rattle.numbers.specs.Signed.{signed_at, word_or_none}
use Rattle.check_arrays.proofs.Walk.{along_on, along_stop, along_end}
use Rattle.start_lists.specs.Literals.{words}

-- a test of all, from place i on
module _ {A : Type 0} (p : A → Bool) (d : A) (xs : List A) (i : ℕ) (x : Bool) (e : all p (drop i xs) ≡ x) where
  pub all_on : i < length xs → p (get_or xs i d) ≡ true → all p (drop (i + 1) xs) ≡ x
  unfolding all
  all_on = along_on (all p) (λ y ys. p y) (λ y ys. refl) refl d xs i x e

  pub all_stop : i < length xs → p (get_or xs i d) ≡ false → true ≡ not x
  unfolding all
  all_stop h t = ap not (along_stop (all p) (λ y ys. p y) (λ y ys. refl) refl d xs i x e h t)

  pub all_end : length xs ≤ i → false ≡ not x
  unfolding all
  all_end h = ap not (along_end (all p) (λ y ys. p y) (λ y ys. refl) refl d xs i x e h)

-- what the library's `all` answers
pub all_is : {A : Type 0} (p : A → Bool) (xs : List A) → list_all p xs ≡ all p xs
unfolding all
all_is p [] = refl
all_is p (x ∷ xs) = ap (λ (b : Bool). p x && b) (all_is p xs)

-- the words of the literals are as many, each at its place
words_length : (lits : List ℤ) → length (words lits) ≡ length lits
unfolding words
words_length [] = refl
words_length (x ∷ lits) = ap suc (words_length lits)

pub inside : (lits : List ℤ) (i : ℕ) → i < length lits → i < length (words lits)
inside lits i h = omega (arith, words_length lits)

pub outside : (lits : List ℤ) (i : ℕ) → length lits ≤ i → length (words lits) ≤ i
outside lits i h = omega (arith, words_length lits)

pub word_there : (lits : List ℤ) (i : ℕ) → get_or (words lits) i 0 ≡ word_or_none (signed_at lits i)
unfolding words signed_at word_or_none lawful
word_there [] zero = refl
word_there [] (suc i) = refl
word_there (x ∷ lits) zero = refl
word_there (x ∷ lits) (suc i) = word_there lits i
