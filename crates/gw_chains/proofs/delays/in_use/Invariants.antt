use Rattle.std.proofs.Common.{◌≡◌, ◌≤◌, List, length, take}
use Rattle.gw_names.specs.declared.key.Key.{Key}
use Rattle.gw_chains.specs.Chains.{delays_of}
use Rattle.gw_chains.specs.Delays.{chains_of}
use Rattle.gw_chains.proofs.delays.in_use.Given as goal

abbrev pub invariant-loop-count : goal.invariant-loop-count
invariant-loop-count l = (l.count ≤ length l.chains) ×
    ((keys : List Key) → delays_of (chains_of keys (take l.count l.chains)) ≡ delays_of (chains_of keys l.chains))

abbrev pub decreases-loop-count : goal.decreases-loop-count
decreases-loop-count l = l.count
