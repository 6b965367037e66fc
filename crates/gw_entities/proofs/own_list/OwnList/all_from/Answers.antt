use Rattle.std.proofs.Common.{◌≡◌, suc, ◌+◌, ◌≤◌, length, map, take, sym, ◌∙◌, arith, rules}
use Rattle.gw_entities.specs.Owned.{entry_of}
use Rattle.gw_entities.proofs.Inherited.{all_below, all_there, all_more, said_more, known_more, known_at}
use Rattle.gw_entities.proofs.ItemLaws.{entry_there}
use Rattle.gw_entities.proofs.OwnLaws.{from_there, from_at}
use Rattle.gw_entities.proofs.own_list.OwnList.all_from.Goals as goal

pub loop-index-init : goal.loop-index-init
loop-index-init g c =
    let cut = rw (← c.self.view_is) at c.requires in
    record {
      low = omega arith;
      last = c.len-index-end.ensures.len;
      said = rw c.new-all.ensures.items (sym (all_below c.args.number (take c.args.first (map (entry_of c.self.inside.keys.keys) c.self.inside.items.items)) cut.below));
      known = rw c.new-all.ensures.items tt;
    }

pub returns-then-item-number-clause-said : goal.returns-then-item-number-clause-said
returns-then-item-number-clause-said g c =
    let ks = c.self.inside.keys.keys in
    let is = c.self.inside.items.items in
    let i = c.loop-index.index in
    let item = c.at-item.result.now in
    let cut = rw (← c.self.view_is) at c.requires in
    let at = entry_there ks is i item c.at-item.ensures in
    let low : c.args.number ≤ item.number =
    from_there c.args.number (map (entry_of ks) is) c.args.first i (entry_of ks item) c.loop-index.invariant.low cut.from at in
    let more : suc c.args.number ≤ item.number = grind (arith, c.if-item-number.true, low) in
    rw (← c.self.view_is)
    (c.loop-index.invariant.said ∙ all_there c.args.number (map (entry_of ks) is) i (from_at (suc c.args.number) (map (entry_of ks) is) i (entry_of ks item) c.self.invariant.0 at more))

pub loop-index-preserved : goal.loop-index-preserved
loop-index-preserved g c =
    let ks = c.self.inside.keys.keys in
    let is = c.self.inside.items.items in
    let i = c.loop-index.index in
    let item = c.at-item.result.now in
    let same : item.number ≡ c.args.number = search rules in
    let at = entry_there ks is i item c.at-item.ensures in
    record {
      low = omega (arith, c.loop-index.invariant.low);
      last = c.loop-index.invariant.last;
      said =
          rw c.in_ok-push.ensures.items
          (said_more ks c.loop-index.all.items item ∙
          all_more c.args.number (map (entry_of ks) is) i (i + 1) (entry_of ks item) _ (omega arith) at same c.loop-index.invariant.said);
      known =
          rw c.in_ok-push.ensures.items
          (known_more (length ks) c.loop-index.all.items item c.loop-index.invariant.known (known_at (length ks) is i item c.self.invariant.1 c.at-item.ensures));
    }
