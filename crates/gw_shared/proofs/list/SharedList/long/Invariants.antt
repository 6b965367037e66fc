use Rattle.std.proofs.Common.{◌≡◌, take}
use Rattle.gw_shared.proofs.list.SharedList.long.Given as goal

abbrev pub invariant-loop-index : goal.invariant-loop-index
invariant-loop-index g l = l.long.items ≡ take l.index l.self.items
