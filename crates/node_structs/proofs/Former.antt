-- What a filled slice answers is what the records answer.
use mathlib.Core.Path.{◌≡◌, ap, ◌∙◌}
use mathlib.Core.Bool.{true}
use mathlib.Core.List.{List}
use Prim.Native.Nat.{ℕ, ◌<◌}
use Rattle.rules.specs.Records.{Record, node_at, right_link}
use Rattle.rules.specs.Totalizer.{counts}
use Rattle.rules.specs.Refinement.{former_half}
use Rattle.records.specs.Carries.{Stores}
use Rattle.node_structs.specs.declared.Node.{Node}
use Rattle.node_structs.specs.Nodes.{node_in, node_among, Copies, former_half_in}

module _ (ns ns' : List Node) (s : List ℕ) (records r : ℕ) (c : Copies ns ns' s records r) (rs : List Record) (h : Stores s records rs) where
  pub link_is : (n : ℕ) → n < r → (node_in ns' n).link ≡ right_link (node_at rs n).kind
  unfolding node_among
  link_is n low = ap (λ (x : Node). x.link) (c.means rs h n low)

  pub maximum_is : (n : ℕ) → n < r → (node_in ns' n).maximum ≡ (node_at rs n).maximum
  unfolding node_among
  maximum_is n low = ap (λ (x : Node). x.maximum) (c.means rs h n low)

  -- a bucket and its right link both copied
  pub former_half_is : (b : ℕ) → b < r → right_link (node_at rs b).kind < r → former_half_in ns' b ≡ former_half rs b
  unfolding former_half_in former_half counts
  former_half_is b low low' =
      ap (λ (n : ℕ). counts true (node_in ns' n).maximum) (link_is b low) ∙
      ap (counts true) (maximum_is (right_link (node_at rs b).kind) low')
