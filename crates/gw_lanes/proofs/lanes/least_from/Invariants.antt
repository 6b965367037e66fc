use Rattle.std.proofs.Common.{◌≡◌, fold, min, take}
use Rattle.gw_lanes.proofs.lanes.least_from.Given as goal

abbrev pub invariant-loop-value : goal.invariant-loop-value
invariant-loop-value l = l.least ≡ fold min l.start (take l.value-index l.values)
