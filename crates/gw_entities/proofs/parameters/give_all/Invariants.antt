use Rattle.std.proofs.Common.{◌≡◌, ◌*◌, ◌≤◌, ◌-◌, length}
use Rattle.gw_entities.specs.Owned.{AreRising, said_by}
use Rattle.gw_meaning.specs.Parameters.{all_inherited}
use Rattle.gw_entities.specs.Keeping.{grouped}
use Rattle.gw_entities.proofs.parameters.give_all.Given as goal

abbrev pub invariant-loop-copy : goal.invariant-loop-copy
invariant-loop-copy l = record {
  keys : l.own.keys ≡ l.initial.own.keys;
  room : length l.values * (l.count - l._copy) ≤ l.own.room;
  rising : AreRising l.own.entries;
  given :
      all_inherited (l.count - l._copy) (said_by l.initial.own.keys l.values) l.number (grouped l.own.entries) ≡
      all_inherited l.count (said_by l.initial.own.keys l.values) l.initial.number (grouped l.initial.own.entries);
}
