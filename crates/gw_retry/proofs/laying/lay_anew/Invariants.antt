use Rattle.std.proofs.Common.{◌+◌, ◌≤◌, length, take}
use Rattle.std.specs.List.Sorted.{IsPermutation}
use Rattle.gw_retry.specs.Groups.{AreGrouped}
use Rattle.gw_retry.specs.Waiting.{arrivals_of, AreListed}
use Rattle.gw_retry.proofs.laying.lay_anew.Given as goal

abbrev pub invariant-loop-index : goal.invariant-loop-index
invariant-loop-index l = record {
  listed : AreListed l.lists l.anew.items;
  grouped : AreGrouped l.anew.items;
  same : IsPermutation (arrivals_of l.readings.lists (take l.index l.waiting.items)) (arrivals_of l.lists.lists l.anew.items);
  room : length l.waiting.items ≤ l.index + l.anew.room;
}
