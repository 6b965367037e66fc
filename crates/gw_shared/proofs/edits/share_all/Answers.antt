use Rattle.std.proofs.Common.{◌∙◌, arith}
use Rattle.std.proofs.lemmas.Grind.{common_steps}
use Rattle.gw_shared.specs.Lists.{chunk_items}
use Rattle.gw_shared.proofs.Laws.{same_set}
use Rattle.gw_shared.proofs.edits.share_all.Goals as goal

pub returns-in_err-share-clause-same : goal.returns-in_err-share-clause-same
returns-in_err-share-clause-same g c =
    same_set chunk_items c.loop-at.chunks.items c.loop-at.at c.index_mut.result.now c.share.new.self c.index_mut.ensures.value c.share.ensures
    ∙ c.loop-at.invariant.same

pub loop-at-preserved : goal.loop-at-preserved
loop-at-preserved g c = record {
  same = same_set chunk_items c.loop-at.chunks.items c.loop-at.at c.index_mut.result.now c.share.new.self c.index_mut.ensures.value c.share.ensures
      ∙ c.loop-at.invariant.same;
  capacity = grind (arith, common_steps);
  len = grind (arith, common_steps);
}
