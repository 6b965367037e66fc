use Rattle.std.proofs.Common.{◌≡◌, ◌≤◌, suc, length, Some, None, map, take}
use Rattle.std.specs.Prelude.{slice_get}
use Rattle.gw_names.specs.declared.key.Key.{Key}
use Rattle.gw_entities.specs.Owned.{own_of, entry_of, AreBelow}
use Rattle.gw_entities.proofs.own_list.OwnList.find.Given as goal

-- those that were looked at are of this transaction, or in front of it, and what is looked for is none of them
abbrev pub invariant-loop-index : goal.invariant-loop-index
invariant-loop-index g l = record {
  low : l.first ≤ l.index;
  last : l.index-end ≡ length l.self-inside.items.items;
  below : AreBelow (suc l.number) (take l.index (map (entry_of l.self-inside.keys.keys) l.self-inside.items.items));
  none : (k : Key) → slice_get l.self-inside.keys.keys l.key ≡ Some k →
      own_of (take l.index (map (entry_of l.self-inside.keys.keys) l.self-inside.items.items)) l.number k ≡ None;
}
