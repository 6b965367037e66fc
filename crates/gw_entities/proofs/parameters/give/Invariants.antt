use Rattle.std.proofs.Common.{◌≡◌, ◌+◌, ◌≤◌, take}
use Rattle.gw_entities.specs.Owned.{AreRising, said_by}
use Rattle.gw_meaning.specs.Parameters.{inherited}
use Rattle.gw_entities.specs.Keeping.{grouped}
use Rattle.gw_entities.proofs.parameters.give.Given as goal

abbrev pub invariant-loop-item : goal.invariant-loop-item
invariant-loop-item l = record {
  keys : l.own.keys ≡ l.initial.own.keys;
  room : l.initial.own.room ≤ l.own.room + l.item-index;
  rising : AreRising l.own.entries;
  given : grouped l.own.entries ≡ inherited (said_by l.initial.own.keys (take l.item-index l.values)) l.number (grouped l.initial.own.entries);
}
