-- The root outputs of a range.
use Rattle.std.specs.Prelude.{Bool, not, List, ℕ, suc, ◌-◌, ◌/◌, ◌^◌, min, eqb}
use Rattle.rules.specs.Lists.{all, in_turn, rising}
use Rattle.rules.specs.Records.{Record, node_at}
use Rattle.rules.specs.Totalizer.{Arena, number_of, define_output}

-- outputs lo/W + 1 to (end-1)/W + 1 of a root with this maximum, W two to the number of tares
unfoldable pub values : ℕ → ℕ → ℕ → ℕ → List ℕ
unfolding rising
values most tares lo end = rising (min (suc ((end - 1) / 2 ^ tares)) most - lo / 2 ^ tares) (suc (lo / 2 ^ tares))

-- those of the root, defined in turn
unfoldable pub outputs_of : ℕ → ℕ → ℕ → ℕ → Arena → Arena
unfolding in_turn define_output values node_at
outputs_of root tares lo end t = in_turn (λ s v. define_output s root v) t (values (node_at t.records root).maximum tares lo end)

-- every one of these outputs of a node is defined
unfoldable pub all_defined : List Record → ℕ → List ℕ → Bool
unfolding all number_of
all_defined rs node vs = all (λ v. not (eqb (number_of rs node v) 0)) vs
