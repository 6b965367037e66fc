use Rattle.std.proofs.Common.{◌≡◌, ◌≤◌, length, map, take}
use Rattle.gw_entities.specs.Owned.{entry_of, all_of, said_by, AreKnown}
use Rattle.gw_entities.proofs.own_list.OwnList.all_from.Given as goal

abbrev pub invariant-loop-index : goal.invariant-loop-index
invariant-loop-index g l = record {
  low : l.first ≤ l.index;
  last : l.index-end ≡ length l.self-inside.items.items;
  said : said_by l.self-inside.keys.keys l.all.items ≡ all_of l.number (take l.index (map (entry_of l.self-inside.keys.keys) l.self-inside.items.items));
  known : AreKnown (length l.self-inside.keys.keys) l.all.items;
}
