use Rattle.std.proofs.Common.{◌≡◌, take}
use Rattle.gw_retry.specs.Readings.{Marks}
use Rattle.gw_retry.proofs.lists.ReadLists.unmark.Given as goal

abbrev pub invariant-loop-index : goal.invariant-loop-index
invariant-loop-index l = record {
  lists : l.self-inside.lists.keys ≡ l.initial.self-inside.lists.keys;
  marks : Marks l.initial.self-inside.marks.keys (take l.index l.written) l.self-inside.marks.keys;
}
