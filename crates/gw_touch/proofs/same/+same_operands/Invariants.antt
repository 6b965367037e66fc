use Rattle.std.proofs.Common.{length}
use Rattle.gw_touch.proofs.same.+same_operands.Given as goal

abbrev pub decreases-same_operands : goal.decreases-same_operands
decreases-same_operands l = length l.old.now
