use Rattle.std.proofs.Common.{◌+◌, ◌<◌, ◌++◌, ◌∷◌, [], length, take, drop, sym, ap, ◌∙◌, append_assoc, arith}
use Rattle.gw_shared.proofs.Taken.{one_taken, one_out}
use Rattle.gw_shared.proofs.list.take_long.Goals as goal

pub loop-one-preserved : goal.loop-one-preserved
loop-one-preserved g c =
    let all = c.args.items.now.items in
    let into = c.args.into.now.items in
    let items = c.loop-one.items.items in
    let start = c.args.start in
    let n = c.loop-one._one in
    let x = c.take_out.result in
    let was = c.loop-one.invariant in
    let within : start + n < length all = omega (arith, c.requires.within, c.loop-one-test.true) in
    record {
      items = one_out all items c.take_out.new.items.items start n was.items within c.take_out.ensures.items;
      into = c.push_reserved.ensures.items ∙ (ap (λ l. l ++ x ∷ []) was.into ∙
          (append_assoc into (take n (drop start all)) (x ∷ []) ∙
          ap (λ l. into ++ l) (sym (one_taken all items start n x was.items within c.take_out.ensures.value))));
      room = omega (arith, was.room, c.take_out.ensures.room);
      len = omega (arith, was.len, c.push_reserved.ensures.len);
      capacity = c.push_reserved.ensures.capacity ∙ was.capacity;
    }
