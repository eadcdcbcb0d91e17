-- A halved side: what it counts and what it asks.
use Rattle.std.specs.Prelude.{Bool, true, false, ℕ, ◌≤◌}
use Rattle.std.proofs.Common.{arith}
use Rattle.rules.specs.Totalizer.{counts, asks}

-- output b of a side is within what it counts exactly if the output that it asks is within what it has
pub counts_asks : (half : Bool) (b x : ℕ) → b ≤ counts half x → asks half b ≤ x
unfolding counts asks
counts_asks false b x h = h
counts_asks true b x h = omega arith

pub asks_counts : (half : Bool) (b x : ℕ) → asks half b ≤ x → b ≤ counts half x
unfolding counts asks
asks_counts false b x h = h
asks_counts true b x h = omega arith

pub counts_mono : (half : Bool) (x y : ℕ) → x ≤ y → counts half x ≤ counts half y
unfolding counts
counts_mono false x y h = h
counts_mono true x y h = omega arith

pub counts_le : (half : Bool) (x : ℕ) → counts half x ≤ x
unfolding counts
counts_le false x = omega arith
counts_le true x = omega arith

pub asks_positive : (half : Bool) (b : ℕ) → 1 ≤ b → 1 ≤ asks half b
unfolding asks
asks_positive false b h = h
asks_positive true b h = omega arith
