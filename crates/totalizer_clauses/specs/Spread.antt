-- The pairs of an output, counted.
use Rattle.std.specs.Prelude.{◌≡◌, Bool, List, ℕ, suc, ◌+◌, ◌-◌, ◌≤◌, ◌<◌, min}
use Rattle.rules.specs.Records.{Record, node_at}
use Rattle.rules.specs.Totalizer.{counts, asks}
use Rattle.records.specs.Carries.{Stores}

-- the pairs that add to v within the maxima of two nodes are `many`, the first with `lo`; what they ask fits a word
pub record Spread (s : List ℕ) (records : ℕ) (half : Bool) (l r v lo many : ℕ) : Type 0 where
  pub lo_is : (rs : List Record) → Stores s records rs → lo ≡ v - counts half (node_at rs r).maximum
  pub many_is : (rs : List Record) → Stores s records rs → many ≡ suc (min v (node_at rs l).maximum) - lo
  pub within : lo + many ≤ v + 1
  pub askable : asks half (v - lo) < 4294967296
