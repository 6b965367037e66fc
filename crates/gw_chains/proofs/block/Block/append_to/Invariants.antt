use Rattle.std.proofs.Common.{◌≡◌, ◌++◌, take}
use Rattle.gw_chains.proofs.block.Block.append_to.Given as goal

abbrev pub invariant-loop-index : goal.invariant-loop-index
invariant-loop-index l = l.events.items ≡ l.initial.events.items ++ take l.index l.self.items
