-- Ask 7: calls among which no set is accepted.
use Rattle.std.specs.Prelude.{◌≢◌, ℤ}
use mathlib.Core.List.{List}
use Prim.Native.Nat.{ℕ}
use Rattle.rules.specs.Precision.{set_refusal}
use Rattle.guarantee.specs.Calls.{Memory, set_call, encode_call, lend_anew}

-- what calls lead to from m where no set is accepted: refused sets, encodes, the used words moved to other slices
pub data Unset (m : Memory) : Memory → Type 0 where
  still : Unset m m
  refused_set : {n : Memory} (d : ℕ) → Unset m n → set_refusal n.state n.store n.clauses d ≢ 0 → Unset m (set_call n d)
  an_encode : {n : Memory} (work : List ℕ) (lo end : ℕ) → Unset m n → Unset m (encode_call n work lo end)
  a_lend : {n : Memory} (words : List ℕ) (signed : List ℤ) → Unset m n → Unset m (lend_anew n words signed)
