use Rattle.std.proofs.Common.{◌≡◌, take}
use Rattle.gw_chains.specs.Delays.{queues_of}
use Rattle.gw_chains.proofs.delays.copy_chains.Given as goal

abbrev pub invariant-loop-chain : goal.invariant-loop-chain
invariant-loop-chain l = queues_of l.copies.items ≡ queues_of (take l.chain-index l.chains)
