use Rattle.std.proofs.Common.{◌≡◌}
use Rattle.gw_entities.proofs.tables.share_all.Given as goal

abbrev pub invariant-loop-index : goal.invariant-loop-index
invariant-loop-index l = l.values.items ≡ l.initial.values.items
