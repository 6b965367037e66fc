use Rattle.std.proofs.Common.{◌≡◌, ◌++◌, ◌∷◌, [], ap, ◌∙◌}
use Rattle.gw_chains.proofs.BlockLaws.{put_block, put_events}
use Rattle.gw_chains.proofs.block.Block.put.Goals as goal

pub invariant_of-self : goal.invariant_of-self
invariant_of-self c =
    let e = c.insert_reserved-key.ensures in
    rw (c.push_reserved.ensures.items, c.push_reserved-2.ensures.items, c.min-self-inside.ensures)
    (put_block e.updates e.was_vacant c.self.invariant c.ticks-ticks.result c.ticks-ticks.ensures.bound)

pub returns-clause-items : goal.returns-clause-items
returns-clause-items c =
    let e = c.insert_reserved-key.ensures in
    let time : c.ticks-ticks.result ≡ c.args.event.time = c.ticks-ticks.ensures.value in
    rw (c.push_reserved.ensures.items, c.push_reserved-2.ensures.items)
    (put_events e.updates e.was_vacant c.self.invariant c.ticks-ticks.result
    ∙ (ap (λ s. s.items ++ record { time = c.ticks-ticks.result; transaction = c.args.event.transaction } ∷ []) c.self.view_is
    ∙ ap (λ t. c.args.self.now.items ++ record { time = t; transaction = c.args.event.transaction } ∷ []) time))
