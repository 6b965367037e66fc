use Rattle.std.proofs.Common.{ap, ◌∙◌}
use Rattle.gw_chains.specs.Delays.{queues_of}
use Rattle.gw_chains.proofs.Beside.{fewer}
use Rattle.gw_chains.proofs.delays.DelayChains.share.Goals as goal

pub invariant_of-self : goal.invariant_of-self
invariant_of-self c = rw c.share.ensures c.self.invariant

pub invariant_of-self-2 : goal.invariant_of-self-2
invariant_of-self-2 c =
    let front = rw c.deref.ensures.value at c.in_use-count.ensures.delays c.self.inside.keys.keys in
    let queues = c.share_all.ensures ∙ ap queues_of c.truncate.ensures.items in
    rw c.share.ensures (fewer c.in_use-count.result c.self.invariant front queues).kept

pub returns : goal.returns
returns c =
    let front = rw c.deref.ensures.value at c.in_use-count.ensures.delays c.self.inside.keys.keys in
    let queues = c.share_all.ensures ∙ ap queues_of c.truncate.ensures.items in
    rw (← c.self.view_is, c.share.ensures) (fewer c.in_use-count.result c.self.invariant front queues).delays
