use Rattle.std.proofs.Common.{◌∙◌}
use Rattle.std.proofs.lemmas.List.{length-set}
use Rattle.gw_chains.proofs.Beside.{same_queues}
use Rattle.gw_chains.proofs.delays.share_all.Goals as goal

pub returns-in_err-share : goal.returns-in_err-share
returns-in_err-share c =
    same_queues _ _ _ _ c.index_mut.ensures.value c.share.ensures ∙ c.loop-index.invariant.0

pub loop-index-preserved : goal.loop-index-preserved
loop-index-preserved c = (
  same_queues _ _ _ _ c.index_mut.ensures.value c.share.ensures ∙ c.loop-index.invariant.0,
  length-set c.loop-index.chains.items c.loop-index.index c.share.new.self ∙ c.loop-index.invariant.1,
)
