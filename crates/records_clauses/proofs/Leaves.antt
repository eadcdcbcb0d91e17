-- One law for each way through a leaf function.
use Rattle.std.specs.Prelude.{Option, Some, None, is_some}
use mathlib.Core.Path.{◌≡◌, refl}
use mathlib.Core.List.{List}
use Prim.Native.Nat.{ℕ, ◌+◌, ◌<◌, ◌≤◌}
use lib.ListN.{length}
use lib.IntN.{ℤ}
use mir.Val.{bool_byte}
use borrow.Author.Tests.{lt-ltb, le-ltb}
use Rattle.rules.specs.Records.{word_literal}
use Rattle.numbers.specs.Signed.{put_signed}
use Rattle.records_clauses.specs.Clauses.{side_of, Buf, buf, push, push_side, push_clause}

pub width_is : (side : Option ℕ) → bool_byte (is_some side) ≡ length (side_of side)
unfolding side_of
width_is (Some w) = refl
width_is None = refl

pub push_in : (c d : List ℤ) (i w : ℕ) → i < length c → d ≡ put_signed c i (word_literal w) → buf d (i + 1) ≡ push (buf c i) w
unfolding push
push_in c d i w h p = simp (lt-ltb i _ h, p)

pub push_out : (c : List ℤ) (i w : ℕ) → length c ≤ i → buf c i ≡ push (buf c i) w
unfolding push
push_out c i w h = simp (le-ltb i _ h)

pub clause_pushed : (b₀ b₁ b₂ b₃ b₄ : Buf) (p q : Option ℕ) (o : ℕ) → b₁ ≡ push_side b₀ p → b₂ ≡ push_side b₁ q → b₃ ≡ push b₂ o → b₄ ≡ push b₃ 0 →
    b₄ ≡ push_clause b₀ p q o
unfolding push_clause
clause_pushed b₀ b₁ b₂ b₃ b₄ p q o e f g h = cc
