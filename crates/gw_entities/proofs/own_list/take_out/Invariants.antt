use Rattle.std.proofs.Common.{◌≡◌, ◌≤◌, ◌+◌, ◌++◌, take, drop}
use Rattle.gw_entities.proofs.own_list.take_out.Given as goal

-- so many are out, and there is room for the rest
abbrev pub invariant-loop-index : goal.invariant-loop-index
invariant-loop-index g l = record {
  items : l.items.items ≡ take l.first l.fn.items.items ++ drop (l.first + l._index) l.fn.items.items;
  room : l.count ≤ l.items.room + l._index;
}
