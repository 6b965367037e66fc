use Rattle.std.proofs.Common.{◌≡◌, [], true, take}
use Rattle.std.specs.List.{list_all}
use Rattle.gw_meaning.specs.Watching.{is_watched}
use Rattle.gw_retry.specs.Readings.{Marks}
use Rattle.gw_retry.proofs.lists.ReadLists.mark.Given as goal

abbrev pub invariant-loop-index : goal.invariant-loop-index
invariant-loop-index l = record {
  lists : l.self.lists ≡ l.initial.self.lists;
  marked : list_all (is_watched l.self.marks) (take l.index l.read) ≡ true;
  marks : Marks l.initial.self.marks [] l.self.marks;
}
