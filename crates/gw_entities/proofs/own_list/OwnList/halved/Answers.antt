use Rattle.std.proofs.Common.{◌+◌, ◌-◌, ◌/◌, ◌<◌, map, arith, rules}
use Rattle.gw_entities.specs.Owned.{entry_of}
use Rattle.gw_entities.proofs.ItemLaws.{entry_there}
use Rattle.gw_entities.proofs.OwnLaws.{below_to, from_at}
use Rattle.gw_entities.proofs.own_list.OwnList.halved.Goals as goal

pub loop-low-preserved-then-at-number : goal.loop-low-preserved-then-at-number
loop-low-preserved-then-at-number g c =
    let ks = c.self.inside.keys.keys in
    let is = c.self.inside.items.items in
    let low = c.loop-low.low in
    let high = c.loop-low.high in
    let middle = low + (high - low) / 2 in
    let item = c.at.result.now in
    let less : low < high = search rules in
    record {
      order = omega (arith, less);
      within = c.loop-low.invariant.within;
      below =
          below_to c.args.number (map (entry_of ks) is) middle (middle + 1) (entry_of ks item) (omega arith) c.self.invariant.0
          (entry_there ks is middle item c.at.ensures) c.if-at-number.true;
      from = c.loop-low.invariant.from;
    }

pub loop-low-preserved : goal.loop-low-preserved
loop-low-preserved g c =
    let ks = c.self.inside.keys.keys in
    let is = c.self.inside.items.items in
    let low = c.loop-low.low in
    let high = c.loop-low.high in
    let middle = low + (high - low) / 2 in
    let item = c.at.result.now in
    let less : low < high = search rules in
    let within = c.loop-low.invariant.within in
    record {
      order = omega arith;
      within = omega (arith, less, within);
      below = c.loop-low.invariant.below;
      from =
          from_at c.args.number (map (entry_of ks) is) middle (entry_of ks item) c.self.invariant.0
          (entry_there ks is middle item c.at.ensures) c.if-at-number.false;
    }
