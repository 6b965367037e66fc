use Rattle.std.proofs.Common.{length}
use Rattle.gw_touch.proofs.versions.+same_replications.Given as goal

abbrev pub decreases-same_replications : goal.decreases-same_replications
decreases-same_replications l = length l.ones.now
