use Rattle.std.proofs.Common.{◌+◌, ◌-◌, ◌≤◌, length}
use Rattle.gw_chains.specs.Blocks.{all_items}
use Rattle.gw_chains.proofs.FutureLaws.{Passed}
use Rattle.gw_chains.proofs.future.take_from_full.Given as goal

abbrev pub invariant-loop-index : goal.invariant-loop-index
invariant-loop-index l = record {
  passed : Passed l.time (all_items l.initial.blocks.items) l.initial.current.items l.blocks.items l.index l.least l.current.items;
  room : length (all_items l.blocks.items) ≤ l.current.room;
  taken : l.initial.current.room + length (all_items l.blocks.items) ≤ l.current.room + length (all_items l.initial.blocks.items);
}

abbrev pub decreases-loop-index : goal.decreases-loop-index
decreases-loop-index l = length l.blocks.items - l.index
