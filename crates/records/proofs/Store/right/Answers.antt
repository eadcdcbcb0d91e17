-- `right` reads a word of the records of one kind.
use native.Mathlib.Omega.{arith}
use Rattle.rules.specs.Records.{node_of, node_at, right_link}
use Rattle.records.proofs.Read.{right_held, held_tells}
use Rattle.records.proofs.Store.right.Goals as goal

pub returns : goal.returns
unfolding node_at
returns c =
    λ rs h. held_tells _ _ rs h (λ r. right_link (node_of r).kind) 2 2 right_held (omega arith) _ _ c.held.ensures
