use Rattle.std.proofs.Common.{ap, ◌∙◌}
use Rattle.gw_chains.proofs.BlockLaws.{slots_copied, numbers_copied, events_same, block_same}
use Rattle.gw_chains.proofs.block.Block.copy.Goals as goal

pub invariant_of-result : goal.invariant_of-result
invariant_of-result c =
    let b = c.self.inside in
    let slots = slots_copied b.transactions.slots c.in_ok-transactions.transactions.slots c.in_ok-transactions.ensures.cases.slots in
    rw (
      numbers_copied b.times.items c.in_ok-times.times.items c.in_ok-times.ensures.cases.0,
      numbers_copied b.keys.items c.in_ok-keys.keys.items c.in_ok-keys.ensures.cases.0,
    )
    (block_same b.transactions c.in_ok-transactions.transactions slots b.times.items b.keys.items b.least c.self.invariant)

pub returns : goal.returns
returns c =
    let b = c.self.inside in
    let slots = slots_copied b.transactions.slots c.in_ok-transactions.transactions.slots c.in_ok-transactions.ensures.cases.slots in
    rw (
      numbers_copied b.times.items c.in_ok-times.times.items c.in_ok-times.ensures.cases.0,
      numbers_copied b.keys.items c.in_ok-keys.keys.items c.in_ok-keys.ensures.cases.0,
    )
    (events_same b.transactions c.in_ok-transactions.transactions slots b.times.items b.keys.items ∙ ap (λ s. s.items) c.self.view_is)
