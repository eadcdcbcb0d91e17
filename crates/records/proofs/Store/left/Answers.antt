-- `left` reads a word of the records of one kind.
use native.Mathlib.Omega.{arith}
use Rattle.rules.specs.Records.{node_of, node_at, left_link}
use Rattle.records.proofs.Read.{left_held, held_tells}
use Rattle.records.proofs.Store.left.Goals as goal

pub returns : goal.returns
unfolding node_at
returns c =
    λ rs h. held_tells _ _ rs h (λ r. left_link (node_of r).kind) 2 1 left_held (omega arith) _ _ c.held.ensures
