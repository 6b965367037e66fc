use Rattle.std.proofs.Common.{length}
use Rattle.gw_touch.proofs.same.+same_parts.Given as goal

abbrev pub decreases-same_parts : goal.decreases-same_parts
decreases-same_parts l = length l.old.now
