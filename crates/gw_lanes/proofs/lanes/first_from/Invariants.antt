use Rattle.std.proofs.Common.{◌≡◌, None, take}
use Rattle.gw_lanes.specs.FirstAt.{first_at}
use Rattle.gw_lanes.proofs.lanes.first_from.Given as goal

abbrev pub invariant-loop-i : goal.invariant-loop-i
invariant-loop-i l = first_at l.value (take l.i l.values) ≡ None
