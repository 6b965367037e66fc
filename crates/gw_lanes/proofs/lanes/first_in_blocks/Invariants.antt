use Rattle.std.proofs.Common.{◌≡◌, None, take}
use Rattle.std.specs.List.{concat}
use Rattle.gw_lanes.specs.FirstAt.{first_at}
use Rattle.gw_lanes.proofs.lanes.first_in_blocks.Given as goal

abbrev pub invariant-loop-i : goal.invariant-loop-i
invariant-loop-i l = first_at l.value (concat (take l.i l.blocks)) ≡ None
