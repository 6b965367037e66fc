use Rattle.std.proofs.Common.{length}
use Rattle.gw_touch.proofs.same.+same_first.Given as goal

abbrev pub decreases-same_first : goal.decreases-same_first
decreases-same_first l = length l.old.now
