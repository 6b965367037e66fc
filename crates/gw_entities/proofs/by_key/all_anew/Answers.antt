use Rattle.std.proofs.Common.{◌+◌, ◌∙◌, arith}
use Rattle.gw_entities.proofs.Anew.{one_more_anew}
use Rattle.gw_entities.proofs.by_key.all_anew.Goals as goal

pub loop-index-preserved : goal.loop-index-preserved
loop-index-preserved g c =
    let i = c.loop-index.index in
    record {
      room = omega (arith, c.push.ensures.room, c.loop-index.invariant.room);
      anew =
          c.push.ensures.items ∙
          one_more_anew (λ v. g.V.Counted.anew c.args.clock v) c.args.values.now.items i (i + 1) c.at.result.now c.anew-in-loop-index.result c.loop-index.anew.items (omega arith)
          c.at.ensures c.anew-in-loop-index.ensures c.loop-index.invariant.anew;
    }
