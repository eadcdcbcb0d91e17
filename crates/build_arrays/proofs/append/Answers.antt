-- `append` writes the free slots in one go.
use mathlib.Core.Path.{◌∙◌}
use Rattle.build_arrays.proofs.Slots.{appended}
use Rattle.build_arrays.proofs.append.Goals as goal

pub returns : goal.returns
returns g c = λ xs l p. appended _ _ xs _ _ _ l c.requires (c.as_mut_slice.ensures.value ∙ p) c.copy_from_slice.ensures.after
