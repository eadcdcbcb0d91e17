-- Where the waiting records begin.
use mathlib.Core.Path.{◌≡◌, refl, sym, ap, ◌∙◌}
use mathlib.Core.Bool.{true, false, not, true≢false}
use mathlib.Core.List.{List, [], ◌∷◌, ◌++◌, map}
use Prim.Native.Nat.{ℕ, zero, suc, ◌≤◌, ◌<◌}
use native.Mathlib.Omega.{arith}
use lib.ListN.{length, get_or}
use Rattle.rules.specs.Records.{Entry, Record, waiting, unknown, waits}
use Rattle.laws.specs.Lists.Facts.{All}

-- the first record that waits stands behind those that do not
pub first_waiting : (rs : List Record) (es : List Entry) (u : ℕ) → All (λ x. not (waits x) ≡ true) rs → u ≤ length (rs ++ map waiting es) →
    ((i : ℕ) → i < u → false ≡ waits (get_or (rs ++ map waiting es) i unknown)) →
    (u < length (rs ++ map waiting es) → true ≡ waits (get_or (rs ++ map waiting es) u unknown)) → u ≡ length rs
unfolding waits
first_waiting [] [] u a h before here = omega arith
first_waiting [] (e ∷ es) zero a h before here = refl
first_waiting [] (e ∷ es) (suc u) a h before here = absurd (true≢false (sym (before 0 (omega arith))))
first_waiting (r ∷ rs) es zero a h before here = absurd (true≢false (sym a.0 ∙ ap not (sym (here (omega arith)))))
first_waiting (r ∷ rs) es (suc u) a h before here =
    ap suc (first_waiting rs es u a.1 (omega arith) (λ i p. before (suc i) (omega arith)) (λ p. here (omega arith)))
