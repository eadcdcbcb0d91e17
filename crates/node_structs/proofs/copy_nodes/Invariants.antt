-- `copy_nodes` fills the slice from the first place on: the nodes before i are those of the words.
use Rattle.std.proofs.Common.{◌≡◌}
use Rattle.node_structs.proofs.Filling.{filled}
use Rattle.node_structs.proofs.copy_nodes.Given as goal

abbrev pub invariant-loop-i : goal.invariant-loop-i
invariant-loop-i l = l.nodes ≡ filled l.initial.nodes l.store.words.now l.store.records l.i
