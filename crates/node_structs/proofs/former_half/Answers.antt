use Rattle.std.proofs.Common.{ap, ◌∙◌, ◌/◌}
use Rattle.node_structs.specs.Nodes.{former_half_in, node_in}
use Rattle.node_structs.specs.declared.Node.{Node}
use Rattle.node_structs.proofs.former_half.Goals as goal

pub returns : goal.returns
unfolding former_half_in
returns c = c.counted_at.ensures ∙ ap (λ (x : Node). (node_in c.args.nodes.now x.link).maximum / 2) c.node_at.ensures
