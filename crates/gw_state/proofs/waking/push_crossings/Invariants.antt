use Rattle.std.proofs.Common.{◌≡◌, ◌++◌, drop}
use Rattle.gw_chains.specs.Chains.{with_grant}
use Rattle.gw_state.proofs.Crossing.{all_crossing}
use Rattle.gw_state.proofs.waking.push_crossings.Given as goal

-- what is there with what the rest changes is what all change
abbrev pub invariant-loop-i : goal.invariant-loop-i
invariant-loop-i l =
    l.written.items ++ all_crossing (with_grant (drop l.i l.grants) (drop l.i l.chain.items)) ≡
    l.initial.written.items ++ all_crossing (with_grant l.grants l.chain.items)
