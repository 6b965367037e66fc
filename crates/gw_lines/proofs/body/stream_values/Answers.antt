use Rattle.std.proofs.Common.{rules}
use Rattle.std.proofs.lemmas.Iterator.{items_from_collect, YieldsList-from_map, YieldsList-from_slice}
use Rattle.gw_lines.proofs.body.stream_values.Goals as goal

pub returns : goal.returns
returns c =
    items_from_collect _ c.collect.ensures.ran
    (YieldsList-from_map _ _ (YieldsList-from_slice c.args.operands.now cc) c.map.ensures.closure (λ x r q k. search rules))
