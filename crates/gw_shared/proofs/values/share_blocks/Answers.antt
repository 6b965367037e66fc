use Rattle.std.proofs.Common.{◌∙◌}
use Rattle.gw_shared.specs.Values.{block_values}
use Rattle.gw_shared.proofs.Laws.{same_set}
use Rattle.gw_shared.proofs.values.share_blocks.Goals as goal

pub returns-in_err-share : goal.returns-in_err-share
returns-in_err-share g c =
    same_set block_values c.loop-at.blocks.items c.loop-at.at c.index_mut.result.now c.share.new.self c.index_mut.ensures.value c.share.ensures
    ∙ c.loop-at.invariant

pub loop-at-preserved : goal.loop-at-preserved
loop-at-preserved g c =
    same_set block_values c.loop-at.blocks.items c.loop-at.at c.index_mut.result.now c.share.new.self c.index_mut.ensures.value c.share.ensures
    ∙ c.loop-at.invariant
