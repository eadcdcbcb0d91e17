-- `standing` is the definition.
use mathlib.Core.Path.{ap}
use Rattle.records.specs.declared.Marks.{Marks}
use Rattle.build_begin.specs.Named.{with_marks}
use Rattle.encode_reach.specs.Reached.{standing}
use Rattle.encode_reach.proofs.standing.Goals as goal

pub returns : goal.returns
unfolding standing
returns c =
    let args = c.args in
    ap (λ (m : Marks). with_marks (standing args.s args.n) m) c.marks_at.ensures
