use Rattle.std.proofs.Common.{◌≡◌}
use Rattle.gw_shared.proofs.values.share_all.Given as goal

abbrev pub invariant-loop-at : goal.invariant-loop-at
invariant-loop-at g l = l.values.items ≡ l.initial.values.items
