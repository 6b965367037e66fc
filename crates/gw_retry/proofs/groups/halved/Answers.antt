use Rattle.std.proofs.Common.{◌+◌, ◌-◌, ◌/◌, ◌<◌, arith, rules}
use Rattle.gw_retry.proofs.Grouped.{below_next, from_here}
use Rattle.gw_retry.proofs.groups.halved.Goals as goal

pub loop-low-preserved-then-at-place : goal.loop-low-preserved-then-at-place
loop-low-preserved-then-at-place c =
    let low = c.loop-low.low in
    let high = c.loop-low.high in
    let was = c.loop-low.invariant in
    let less : low < high = search rules in
    record {
      order = omega (arith, less);
      within = was.within;
      below =
          below_next c.args.waiting.now.items (low + (high - low) / 2) c.args.place c.at.result.now c.requires c.at.ensures
          (omega (arith, less, was.within)) c.if-at-place.true;
      from = was.from;
    }

pub loop-low-preserved : goal.loop-low-preserved
loop-low-preserved c =
    let low = c.loop-low.low in
    let high = c.loop-low.high in
    let was = c.loop-low.invariant in
    let less : low < high = search rules in
    record {
      order = omega arith;
      within = omega (arith, less, was.within);
      below = was.below;
      from =
          from_here c.args.waiting.now.items (low + (high - low) / 2) c.args.place c.at.result.now c.requires c.at.ensures
          c.if-at-place.false;
    }
