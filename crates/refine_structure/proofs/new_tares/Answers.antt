-- `new_tares` puts the state's tares behind the new ones.
use Rattle.laws.specs.Lists.Facts.{rising_length}
use Rattle.refine_structure.proofs.new_tares.Goals as goal

pub returns : goal.returns
returns c = c.append.ensures _ (rising_length _ _) c.fresh_tares-fresh.ensures
