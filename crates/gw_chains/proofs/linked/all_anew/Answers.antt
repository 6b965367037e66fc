use Rattle.std.proofs.Common.{◌+◌, ◌∙◌, arith}
use Rattle.gw_entities.proofs.Anew.{one_more_anew}
use Rattle.gw_meaning.specs.Changes.{user_chain_anew}
use Rattle.gw_chains.proofs.linked.all_anew.Goals as goal

pub loop-index-preserved : goal.loop-index-preserved
loop-index-preserved c =
    let i = c.loop-index.index in
    c.in_ok-push.ensures.ok ∙
    one_more_anew user_chain_anew c.args.chains.now i (i + 1) c.at.result.now c.in_ok-anew.field-0 c.loop-index.all (omega arith)
    c.at.ensures c.in_ok-anew.ensures c.loop-index.invariant
