use Rattle.std.proofs.Common.{◌≡◌, ◌+◌, ◌++◌, take, drop}
use Rattle.std.specs.Prelude.{vec_len, vec_capacity}
use Rattle.std.specs.VecDeque.{deque_len, deque_capacity}
use Rattle.gw_shared.proofs.list.take_plain.Given as goal

-- so many are out
abbrev pub invariant-loop-one : goal.invariant-loop-one
invariant-loop-one g l = record {
  items : l.items.items ≡ drop l._one (drop l.start l.fn.items.items ++ take l.start l.fn.items.items);
  into : l.into.items ≡ l.initial.into.items ++ take l._one (drop l.start l.fn.items.items);
  long : deque_len l.items + l._one ≡ deque_len l.fn.items;
  room : deque_capacity l.items ≡ deque_capacity l.fn.items;
  len : vec_len l.into ≡ vec_len l.initial.into + l._one;
  capacity : vec_capacity l.into ≡ vec_capacity l.initial.into;
}
