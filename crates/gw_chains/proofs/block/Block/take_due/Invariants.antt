use Rattle.std.proofs.Common.{◌≡◌, ◌+◌, ◌≤◌, filter, length, not}
use Rattle.gw_meaning.specs.Changes.{all_lined_up, due, is_due}
use Rattle.gw_chains.proofs.block.Block.take_due.Given as goal

abbrev pub invariant-loop-x : goal.invariant-loop-x
invariant-loop-x l = record {
  due : all_lined_up (due l.time l.self.items) l.current.items ≡ all_lined_up (due l.time l.initial.self.items) l.initial.current.items;
  stay : filter (λ e. not (is_due l.time e)) l.self.items ≡ filter (λ e. not (is_due l.time e)) l.initial.self.items;
  room : l.initial.current.room + length l.self.items ≤ l.current.room + length l.initial.self.items;
}

abbrev pub decreases-loop-x : goal.decreases-loop-x
decreases-loop-x l = length l.self.items
