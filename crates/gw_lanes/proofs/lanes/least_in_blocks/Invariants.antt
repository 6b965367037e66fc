use Rattle.std.proofs.Common.{◌≡◌, fold, min, take}
use Rattle.std.specs.List.{concat}
use Rattle.gw_lanes.proofs.lanes.least_in_blocks.Given as goal

abbrev pub invariant-loop-block : goal.invariant-loop-block
invariant-loop-block l = l.least ≡ fold min 18446744073709551615 (concat (take l.block-index l.blocks))
