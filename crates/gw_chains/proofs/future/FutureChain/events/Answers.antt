use Rattle.std.proofs.Common.{◌∙◌}
use Rattle.gw_chains.proofs.FutureLaws.{next_read}
use Rattle.gw_chains.proofs.future.FutureChain.events.Goals as goal

pub loop-block-preserved : goal.loop-block-preserved
loop-block-preserved c =
    c.in_ok-append_to.ensures
    ∙ next_read c.deref-block-items.result.now c.loop-block.block-index c.block-item.result c.loop-block.events.items c.loop-block-test.true
    c.block-item.is c.loop-block.invariant
