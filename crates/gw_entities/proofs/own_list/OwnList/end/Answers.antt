use Rattle.std.proofs.Common.{◌≡◌, suc, ◌+◌, ◌≤◌, map, arith, rules}
use Rattle.std.proofs.lemmas.List.{length-map}
use Rattle.gw_entities.specs.Owned.{entry_of}
use Rattle.gw_entities.proofs.ItemLaws.{entry_there}
use Rattle.gw_entities.proofs.OwnLaws.{below_more, below_next, from_there, from_at}
use Rattle.gw_entities.proofs.own_list.OwnList.end.Goals as goal

pub loop-index-init : goal.loop-index-init
loop-index-init g c =
    let cut = rw (← c.self.view_is) at c.requires in
    record {
      low = omega arith;
      last = c.len-index-end.ensures.len;
      below = below_next c.args.number (map (entry_of c.self.inside.keys.keys) c.self.inside.items.items) c.args.first cut.below;
    }

pub loop-index-preserved : goal.loop-index-preserved
loop-index-preserved g c =
    let ks = c.self.inside.keys.keys in
    let is = c.self.inside.items.items in
    let i = c.loop-index.index in
    let item = c.at.result.now in
    let same : item.number ≡ c.args.number = search rules in
    record {
      low = omega (arith, c.loop-index.invariant.low);
      last = c.loop-index.invariant.last;
      below =
          below_more (suc c.args.number) (map (entry_of ks) is) i (i + 1) (entry_of ks item) (omega arith) c.loop-index.invariant.below
          (entry_there ks is i item c.at.ensures) (omega (arith, same));
    }

pub returns-then-at-number-clause-cut : goal.returns-then-at-number-clause-cut
returns-then-at-number-clause-cut g c =
    let ks = c.self.inside.keys.keys in
    let is = c.self.inside.items.items in
    let i = c.loop-index.index in
    let item = c.at.result.now in
    let cut = rw (← c.self.view_is) at c.requires in
    let at = entry_there ks is i item c.at.ensures in
    let low : c.args.number ≤ item.number =
    from_there c.args.number (map (entry_of ks) is) c.args.first i (entry_of ks item) c.loop-index.invariant.low cut.from at in
    let more : suc c.args.number ≤ item.number = grind (arith, c.if-at-number.true, low) in
    rw (← c.self.view_is) record {
      within = let long = length-map is (entry_of ks) in let last = c.loop-index.invariant.last in omega (arith, c.loop-index-test.true, long, last);
      below = c.loop-index.invariant.below;
      from = from_at (suc c.args.number) (map (entry_of ks) is) i (entry_of ks item) c.self.invariant.0 at more;
    }
