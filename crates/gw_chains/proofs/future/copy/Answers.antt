use Rattle.std.proofs.Common.{◌<◌, length, ap, ◌∙◌, arith}
use Rattle.gw_chains.specs.Blocks.{all_items}
use Rattle.gw_chains.proofs.FutureLaws.{copied_block}
use Rattle.gw_chains.proofs.future.copy.Goals as goal

pub loop-i-preserved : goal.loop-i-preserved
loop-i-preserved c =
    let ss = c.args.blocks.now.items in
    let within : c.loop-i.i < length ss = omega arith in
    ap all_items c.in_ok-push.ensures.items
    ∙ copied_block ss c.loop-i.copies.items c.loop-i.i c.index.result.now c.in_ok-copy.field-0 within c.index.ensures c.in_ok-copy.ensures
    c.loop-i.invariant
