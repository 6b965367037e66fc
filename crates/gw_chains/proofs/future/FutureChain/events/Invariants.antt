use Rattle.std.proofs.Common.{◌≡◌, take}
use Rattle.gw_chains.specs.Blocks.{all_items}
use Rattle.gw_chains.proofs.future.FutureChain.events.Given as goal

abbrev pub invariant-loop-block : goal.invariant-loop-block
invariant-loop-block l = l.events.items ≡ all_items (take l.block-index l.block-items)
