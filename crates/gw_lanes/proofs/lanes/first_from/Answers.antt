use Rattle.std.proofs.Common.{arith}
use Rattle.gw_lanes.proofs.Firsts.{at_place, next_other}
use Rattle.gw_lanes.proofs.lanes.first_from.Goals as goal

pub returns-then-values-i : goal.returns-then-values-i
returns-then-values-i c = at_place c.args.value c.args.values.now c.loop-i.i (omega arith) c.if-values-i.true c.loop-i.invariant

pub loop-i-preserved : goal.loop-i-preserved
loop-i-preserved c = next_other c.args.value c.args.values.now c.loop-i.i (omega arith) c.if-values-i.false c.loop-i.invariant
