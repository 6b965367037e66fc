use Rattle.std.proofs.Common.{refl, arith}
use Rattle.gw_retry.specs.declared.retry.Waiting.{Waiting}
use Rattle.gw_retry.specs.Waiting.{IsListed}
use Rattle.gw_retry.proofs.Grouped.{joined_grouped, joined_all}
use Rattle.gw_retry.proofs.Waiters.{all_listed_more, one_laid}
use Rattle.gw_retry.proofs.laying.lay_anew.Goals as goal

pub loop-index-preserved : goal.loop-index-preserved
loop-index-preserved c =
    let s = c.loop-index.lists in
    let t = c.learn_copy.new.self in
    let ws = c.loop-index.anew.items in
    let all = c.join.new.waiting.items in
    let was = c.loop-index.invariant in
    let old = c.at-waiter.result.now in
    let w : Waiting = record { transaction = old.transaction; place = c.in_ok-place.place; order = old.order } in
    let new : IsListed t w = record { list = c.list.result.now; there = c.in_ok-place.ensures.there; marked = c.in_ok-place.ensures.marked } in
    let others = all_listed_more s t ws c.learn_copy.ensures.lists c.learn_copy.ensures.marks was.listed in
    record {
      listed = joined_all (IsListed t) w ws all c.join.ensures.joined new others;
      grouped = joined_grouped w ws all was.grouped c.join.ensures.joined;
      same =
          one_laid c.args.readings.now s t c.args.waiting.now.items ws all c.loop-index.index w old c.list.result.now c.at-waiter.ensures c.list.ensures
          c.in_ok-place.ensures.there refl refl c.learn_copy.ensures.lists was.listed c.join.ensures.joined was.same;
      room = omega (arith, was.room, c.join.ensures.room);
    }
