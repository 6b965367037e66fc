use Rattle.std.proofs.Common.{◌≡◌, suc, ◌≤◌, length, map, take}
use Rattle.gw_entities.specs.Owned.{entry_of, AreBelow}
use Rattle.gw_entities.proofs.own_list.OwnList.end.Given as goal

-- those that were looked at are of this transaction, or in front of it
abbrev pub invariant-loop-index : goal.invariant-loop-index
invariant-loop-index g l = record {
  low : l.first ≤ l.index;
  last : l.index-end ≡ length l.self-inside.items.items;
  below : AreBelow (suc l.number) (take l.index (map (entry_of l.self-inside.keys.keys) l.self-inside.items.items));
}
