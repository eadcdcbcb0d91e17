-- What waits, by the places of the records.
use mathlib.Core.Path.{◌≡◌, refl, sym, ap, ◌∙◌}
use mathlib.Core.Bool.{Bool, ◌||◌}
use mathlib.Core.List.{List, ◌∷◌}
use Prim.Native.Nat.{ℕ, zero, suc, ◌+◌, ◌-◌, max}
use native.Mathlib.Omega.{arith}
use lib.ListN.{length, get_or, drop, drop_of_length-le}
use lib.Seq.{drop-cons}
use Rattle.std.specs.List.{fold, list_any, range_with_len}
use Rattle.rules.specs.Records.{Record, node, output, waiting, unknown, waits, entries}
use Rattle.rules.specs.Build.{largest, some_wait}
use Rattle.records.specs.Readers.{entry_weight}

-- the first record, then the rest
largest_first : (r : Record) (rs : List Record) → largest (entries (r ∷ rs)) ≡ max (entry_weight r) (largest (entries rs))
unfolding largest entries entry_weight
largest_first (node n) rs = omega arith
largest_first (output o) rs = omega arith
largest_first (waiting e) rs = refl
largest_first unknown rs = omega arith

some_first : (r : Record) (rs : List Record) → some_wait (entries (r ∷ rs)) ≡ (waits r || some_wait (entries rs))
unfolding some_wait entries waits
some_first (node n) rs = refl
some_first (output o) rs = refl
some_first (waiting e) rs = refl
some_first unknown rs = refl

-- the largest weight from record k on, and whether something waits there, by places
module _ (rs : List Record) where
  weight_at : ℕ → ℕ
  unfolding entry_weight
  weight_at i = entry_weight (get_or rs i unknown)

  largest_from : (n k low : ℕ) → length rs - k ≡ n → fold (λ a i. max a (weight_at i)) low (range_with_len k n) ≡ max low (largest (entries (drop k rs)))
  unfolding largest entries weight_at
  largest_from zero k low e =
      let none : largest (entries (drop k rs)) ≡ 0 = ap (λ (z : List Record). largest (entries z)) (drop_of_length-le rs (omega arith)) in
      omega arith
  largest_from (suc n) k low e =
      let up : k + 1 ≡ suc k = omega arith in
      let here : largest (entries (drop k rs)) ≡ max (weight_at k) (largest (entries (drop (suc k) rs)))
      = ap (λ (z : List Record). largest (entries z)) (drop-cons rs k unknown (omega arith)) ∙ largest_first (get_or rs k unknown) (drop (suc k) rs) in
      ap (λ (j : ℕ). fold (λ a i. max a (weight_at i)) (max low (weight_at k)) (range_with_len j n)) up ∙
      (largest_from n (suc k) (max low (weight_at k)) (omega arith) ∙ omega arith)

  pub largest_is : (n : ℕ) → n ≡ length rs → fold (λ a i. max a (entry_weight (get_or rs i unknown))) 0 (range_with_len 0 n) ≡ largest (entries rs)
  unfolding weight_at
  largest_is n e = largest_from n 0 0 (omega arith) ∙ omega arith

  some_from : (n k : ℕ) → length rs - k ≡ n → list_any (λ i. waits (get_or rs i unknown)) (range_with_len k n) ≡ some_wait (entries (drop k rs))
  unfolding some_wait entries
  some_from zero k e = sym (ap (λ (z : List Record). some_wait (entries z)) (drop_of_length-le rs (omega arith)))
  some_from (suc n) k e =
      let up : k + 1 ≡ suc k = omega arith in
      ap (λ (j : ℕ). waits (get_or rs k unknown) || list_any (λ i. waits (get_or rs i unknown)) (range_with_len j n)) up ∙
      (ap (λ (b : Bool). waits (get_or rs k unknown) || b) (some_from n (suc k) (omega arith)) ∙
      sym (ap (λ (z : List Record). some_wait (entries z)) (drop-cons rs k unknown (omega arith)) ∙ some_first (get_or rs k unknown) (drop (suc k) rs)))

  pub some_is : (n : ℕ) → n ≡ length rs → list_any (λ i. waits (get_or rs i unknown)) (range_with_len 0 n) ≡ some_wait (entries rs)
  some_is n e = some_from n 0 (omega arith)
