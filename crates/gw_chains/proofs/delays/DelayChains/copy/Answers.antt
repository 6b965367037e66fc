use Rattle.std.proofs.Common.{ap, ◌∙◌}
use Rattle.gw_chains.specs.Delays.{queues_of}
use Rattle.gw_chains.proofs.Beside.{same_items}
use Rattle.gw_chains.proofs.delays.DelayChains.copy.Goals as goal

pub invariant_of-result : goal.invariant_of-result
invariant_of-result c =
    let queues = c.in_ok-copy_chains.ensures ∙ ap queues_of c.deref.ensures.value in
    rw c.in_ok-keys.ensures (same_items c.self.invariant queues).kept

pub returns : goal.returns
returns c =
    let queues = c.in_ok-copy_chains.ensures ∙ ap queues_of c.deref.ensures.value in
    rw (c.in_ok-keys.ensures, ← c.self.view_is) (same_items c.self.invariant queues).delays
