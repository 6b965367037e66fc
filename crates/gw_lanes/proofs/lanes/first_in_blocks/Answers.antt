use Rattle.gw_lanes.proofs.Firsts.{at_block, next_block_none}
use Rattle.gw_lanes.proofs.lanes.first_in_blocks.Goals as goal

pub returns-in-Some : goal.returns-in-Some
returns-in-Some c =
    at_block c.args.value c.args.blocks.now c.loop-i.i c.in-Some.lane c.loop-i-test.true c.told-blocks c.in-Some.ensures.place c.loop-i.invariant

pub loop-i-preserved : goal.loop-i-preserved
loop-i-preserved c =
    next_block_none c.args.value c.args.blocks.now c.loop-i.i c.loop-i-test.true c.in_default.ensures.place c.loop-i.invariant
