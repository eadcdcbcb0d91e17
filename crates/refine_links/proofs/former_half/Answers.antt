-- `former_half` reads the maximum of the right link.
use Rattle.refine_links.proofs.Halves.{half_is}
use Rattle.refine_links.proofs.former_half.Goals as goal

pub returns : goal.returns
returns c = λ rs h. half_is rs _ _ _ (c.right.ensures rs h) (c.maximum.ensures rs h)
