use Rattle.std.proofs.Common.{◌≡◌, ◌++◌, take}
use Rattle.gw_chains.specs.Blocks.{since}
use Rattle.gw_chains.proofs.full.FullBlock.append_to.Given as goal

abbrev pub invariant-loop-index : goal.invariant-loop-index
invariant-loop-index l = l.events.items ≡ l.initial.events.items ++ since l.self-inside.least (take l.index l.self-inside.block.value.items)
