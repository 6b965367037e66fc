use Rattle.std.proofs.Common.{◌≤◌, ◌-◌, length, map, take, drop}
use Rattle.gw_entities.specs.Owned.{entry_of, AreBelow, AreFrom}
use Rattle.gw_entities.proofs.own_list.OwnList.halved.Given as goal

abbrev pub invariant-loop-low : goal.invariant-loop-low
invariant-loop-low g l = record {
  order : l.low ≤ l.high;
  within : l.high ≤ length l.self-inside.items.items;
  below : AreBelow l.number (take l.low (map (entry_of l.self-inside.keys.keys) l.self-inside.items.items));
  from : AreFrom l.number (drop l.high (map (entry_of l.self-inside.keys.keys) l.self-inside.items.items));
}

abbrev pub decreases-loop-low : goal.decreases-loop-low
decreases-loop-low g l = l.high - l.low
