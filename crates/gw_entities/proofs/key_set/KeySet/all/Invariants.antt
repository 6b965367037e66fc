use Rattle.std.proofs.Common.{◌≡◌, ◌++◌, take}
use Rattle.gw_entities.proofs.key_set.KeySet.all.Given as goal

abbrev pub invariant-loop-index : goal.invariant-loop-index
invariant-loop-index l = l.all.set.keys ≡ l.initial.all.set.keys ++ take l.index l.self-inside.recent.keys
