use native.Mathlib.Omega.{arith}
use borrow.Author.Rules.{rules}
use Rattle.rules.specs.Refinement.{former_half}
use Rattle.refine_links.proofs.Halves.{map_turn, rest_turn}
use Rattle.refine_links.proofs.former_halves.Goals as goal

pub loop-i-preserved : goal.loop-i-preserved
loop-i-preserved c =
    let loop = c.loop-i in
    (λ rs h. map_turn (former_half rs) c.args.buckets.now loop.halves _ _ (omega arith) (omega arith) (c.former_half.ensures rs h) (loop.invariant.0 rs h), search rules, rest_turn loop.halves loop.i _ 20 (omega arith) loop.invariant.2)
