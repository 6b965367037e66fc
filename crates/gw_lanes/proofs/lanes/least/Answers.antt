use Rattle.std.proofs.Common.{arith}
use Rattle.gw_lanes.proofs.Folds.{by_blocks}
use Rattle.gw_lanes.proofs.lanes.least.Goals as goal

pub returns : goal.returns
returns c =
    let blocks = c.as_chunks.result.0.now in
    let rest = c.as_chunks.result.1.now in
    by_blocks 18446744073709551615 8 c.args.values.now rest blocks c.least_in_blocks.result c.least_from.result
    (grind (arith)) (omega (arith, c.type_inv.values 0))
    c.as_chunks.ensures.front c.as_chunks.ensures.back c.least_in_blocks.ensures c.least_from.ensures
