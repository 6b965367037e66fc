use Rattle.std.proofs.Common.{◌≡◌, ◌+◌, ◌<◌, ◌++◌, take, drop, sym, subst, arith, rules}
use Rattle.gw_entities.proofs.ItemLaws.{one_out, front_out}
use Rattle.gw_entities.proofs.own_list.take_out.Goals as goal
use Rattle.gw_entities.proofs.own_list.take_out.Goals.{then-first-eq0, else-first-eq0}

pub loop-index-preserved : goal.loop-index-preserved
loop-index-preserved g c =
    let xs = c.args.items.now.items in
    let ys = c.loop-index.items.items in
    let i = c.loop-index._index in
    let first = c.args.first in
    let less : i < c.args.count = search rules in
    let long = c.requires.within in
    let room = c.loop-index.invariant.room in
    let here = c.loop-index.invariant.items in
    elim c.if-first-eq0.branch [
      | then-first-eq0 w ↦
          let e : first ≡ 0 = w.if-first-eq0.true in
          let zs = w.pop_front.new.self.items in
          let start = subst (λ n. ys ≡ take n xs ++ drop (n + i) xs) e here in
          let grown = w.pop_front.ensures.room in
          rw w.items-is record {
            items =
                subst (λ n. zs ≡ take n xs ++ drop (n + (i + 1)) xs) (sym e)
                (front_out xs ys zs w.pop_front.result (0 + i) (0 + (i + 1)) (omega arith) (omega (arith, less, long, e)) start
                w.pop_front.ensures.items w.pop_front.ensures.none);
            room = omega (arith, room, grown);
          }
      | else-first-eq0 w ↦
          let zs = w.remove.new.self.items in
          let left = w.remove.ensures.room in
          rw w.items-is record {
            items = one_out xs ys zs first (first + i) (first + (i + 1)) (omega arith) (omega arith) (omega (arith, less, long)) here w.remove.ensures.items;
            room = omega (arith, room, left);
          }
    ]
