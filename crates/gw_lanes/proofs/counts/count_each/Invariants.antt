use Rattle.std.proofs.Common.{◌≡◌, take}
use Rattle.gw_lanes.specs.Counts.{count_at_most}
use Rattle.gw_lanes.proofs.counts.count_each.Given as goal

abbrev pub invariant-loop-value : goal.invariant-loop-value
invariant-loop-value l = l.count ≡ count_at_most l.limit (take l.value-index l.values)
