use Rattle.std.proofs.Common.{◌≡◌, ◌≤◌, ◌*◌, take}
use Rattle.std.specs.List.{sum_by}
use Rattle.gw_lanes.specs.Counts.{count_at_most}
use Rattle.gw_lanes.proofs.counts.count_in_blocks.Given as goal

abbrev pub invariant-loop-block : goal.invariant-loop-block
invariant-loop-block l = record {
  counted : l.count ≡ sum_by (count_at_most l.limit) (take l.block-index l.blocks);
  few : l.count ≤ 16 * l.block-index;
}
