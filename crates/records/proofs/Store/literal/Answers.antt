-- `literal` reads a word of the records of one kind.
use native.Mathlib.Omega.{arith}
use Rattle.rules.specs.Records.{node_of, node_at}
use Rattle.records.specs.Readers.{leaf_word}
use Rattle.records.proofs.Read.{literal_held, held_tells}
use Rattle.records.proofs.Store.literal.Goals as goal

pub returns : goal.returns
unfolding node_at
returns c =
    λ rs h. held_tells _ _ rs h (λ r. leaf_word (node_of r).kind) 1 1 literal_held (omega arith) _ _ c.held.ensures
