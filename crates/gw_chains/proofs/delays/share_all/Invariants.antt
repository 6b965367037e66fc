use Rattle.std.proofs.Common.{◌≡◌, length}
use Rattle.gw_chains.specs.Delays.{queues_of}
use Rattle.gw_chains.proofs.delays.share_all.Given as goal

abbrev pub invariant-loop-index : goal.invariant-loop-index
invariant-loop-index l = (queues_of l.chains.items ≡ queues_of l.initial.chains.items) ×
    (length l.chains.items ≡ length l.initial.chains.items)
