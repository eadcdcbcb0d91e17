use mathlib.Core.Path.{refl, ◌∙◌}
use Rattle.watchdog_start.proofs.Written.{more_none, leaf_next, more_all, more_full, leaves_over, word_there}
use Rattle.watchdog_start.proofs.leaves.Goals as goal

pub loop-literal-init : goal.loop-literal-init
loop-literal-init c = (λ lits e b. more_none _, refl)

pub loop-literal-preserved : goal.loop-literal-preserved
loop-literal-preserved c =
    let test = c.loop-literal-test in
    let loop = c.loop-literal in (
      λ lits e b. leaf_next _ _ _ _ lits _ _ e test.true (loop.invariant.0 lits e b) (c.in_ok-leaf.ensures b _ (word_there _ lits _ e test.true)),
      c.leaf.auto.s ∙ loop.invariant.1,
    )

pub returns-in_err-leaf : goal.returns-in_err-leaf
returns-in_err-leaf c =
    let test = c.loop-literal-test in
    λ lits e b. rw c.from_residual.ensures (more_full _ _ _ _ refl (leaf_next _ _ _ _ lits _ _ e test.true (c.loop-literal.invariant.0 lits e b) (c.in_err-leaf.ensures b _ (word_there _ lits _ e test.true))))

pub shape_of-s : goal.shape_of-s
shape_of-s c = c.loop-literal.invariant.1

pub returns : goal.returns
returns c = λ lits e b. more_all _ _ _ _ (leaves_over _ lits _ e c.loop-literal-test.false) (c.loop-literal.invariant.0 lits e b)
