use Rattle.std.proofs.Common.{fold, min, get_or, [], ap, ◌∙◌}
use Rattle.gw_lanes.proofs.Folds.{next_block}
use Rattle.gw_lanes.proofs.lanes.least_in_blocks.Goals as goal

pub loop-block-preserved : goal.loop-block-preserved
loop-block-preserved c =
    let i = c.loop-block.block-index in
    let blocks = c.args.blocks.now in
    let next = next_block 18446744073709551615 blocks i c.loop-block-test.true in
    c.least_from-least.ensures ∙ (ap (λ n. fold min n (get_or blocks i [])) c.loop-block.invariant ∙ next)
