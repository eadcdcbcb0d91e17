-- `define` starts with the node's own height.
use Rattle.std.proofs.Common.{refl}
use Rattle.totalizer_define.proofs.Defining.{output_done}
use Rattle.totalizer_define.proofs.define.Goals as goal

pub returns : goal.returns
returns c = output_done _ _ _ _ _ _ _ refl c.height-height.ensures c.define_by.ensures
