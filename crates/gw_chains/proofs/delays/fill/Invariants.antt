use Rattle.std.proofs.Common.{◌≡◌, ◌≤◌, ◌-◌, List, length, max}
use Rattle.gw_names.specs.declared.key.Key.{Key}
use Rattle.gw_chains.specs.Chains.{delays_of}
use Rattle.gw_chains.specs.Delays.{chains_of}
use Rattle.gw_chains.proofs.delays.fill.Given as goal

abbrev pub invariant-loop-alloc : goal.invariant-loop-alloc
invariant-loop-alloc l = (length l.chains.items ≤ max (length l.initial.chains.items) l.count) ×
    ((keys : List Key) →
    delays_of (chains_of keys l.chains.items) ≡ delays_of (chains_of keys l.initial.chains.items))

abbrev pub decreases-loop-alloc : goal.decreases-loop-alloc
decreases-loop-alloc l = l.count - length l.chains.items
