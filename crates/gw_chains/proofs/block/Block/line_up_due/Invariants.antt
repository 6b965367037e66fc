use Rattle.std.proofs.Common.{◌≡◌, ◌+◌, ◌<◌, ◌≤◌, length, take}
use Rattle.gw_meaning.specs.Changes.{all_lined_up, due}
use Rattle.gw_meaning.specs.Step.{least_time}
use Rattle.gw_chains.specs.Blocks.{after, time_of}
use Rattle.gw_chains.proofs.block.Block.line_up_due.Given as goal

abbrev pub invariant-loop-index : goal.invariant-loop-index
invariant-loop-index l = record {
  come : l.current.items ≡ all_lined_up (due l.fn.time (take l.index l.self.items)) l.initial.current.items;
  room : l.initial.current.room ≤ l.current.room + length (due l.fn.time (take l.index l.self.items));
  least : time_of l.least ≡ least_time (after l.fn.time (take l.index l.self.items));
  later : l.fn.time < l.least;
}
