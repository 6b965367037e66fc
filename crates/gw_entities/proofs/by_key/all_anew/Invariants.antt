use Rattle.std.proofs.Common.{◌≡◌, ◌+◌, ◌≤◌, length, map, take}
use Rattle.gw_entities.proofs.by_key.all_anew.Given as goal

abbrev pub invariant-loop-index : goal.invariant-loop-index
invariant-loop-index g l = record {
  room : length l.values.items ≤ l.anew.room + l.index;
  anew : l.anew.items ≡ map (λ v. g.V.Counted.anew l.clock v) (take l.index l.values.items);
}
