use Rattle.std.proofs.Common.{length}
use Rattle.gw_touch.proofs.versions.+same_lines.Given as goal

abbrev pub decreases-same_lines : goal.decreases-same_lines
decreases-same_lines l = length l.ones.now
