use Rattle.std.proofs.Common.{length}
use Rattle.gw_touch.proofs.versions.+same_streams.Given as goal

abbrev pub decreases-same_streams : goal.decreases-same_streams
decreases-same_streams l = length l.ones.now
