use Rattle.std.proofs.Common.{arith}
use Rattle.std.proofs.lemmas.Grind.{common_steps}
use Rattle.gw_model.proofs.lines.spliced.Goals as goal

pub slice_bounds-copy_behind-end : goal.slice_bounds-copy_behind-end
slice_bounds-copy_behind-end c = grind (arith, common_steps)

pub returns : goal.returns
returns c = grind (arith, common_steps)
