-- The further clauses of the outputs of a node among some records, and of one record.
use Rattle.std.specs.Prelude.{List, [], ◌∷◌, ℕ, eqb, get_or}
use Rattle.rules.specs.Lists.{keep, in_turn}
use Rattle.rules.specs.Records.{Record, unknown, outputs}
use Rattle.rules.specs.Totalizer.{Arena}
use Rattle.rules.specs.Refinement.{extend}

-- each output of node n among the records rs, in record order
unfoldable pub extend_each : ℕ → ℕ → List Record → Arena → Arena
unfolding in_turn extend keep outputs
extend_each n most rs t = in_turn (extend n most) t (keep (λ o. eqb o.node n) (outputs rs))

-- record i of the arena, where it is such an output
unfoldable pub extend_at : ℕ → ℕ → ℕ → Arena → Arena
unfolding extend_each
extend_at n most i t = extend_each n most (get_or t.records i unknown ∷ []) t
