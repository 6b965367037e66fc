use Rattle.std.proofs.Common.{◌≡◌, ◌≤◌, ◌+◌, ◌++◌, take, drop}
use Rattle.std.specs.Prelude.{vec_len, vec_capacity}
use Rattle.gw_shared.proofs.list.take_long.Given as goal

-- so many are out
abbrev pub invariant-loop-one : goal.invariant-loop-one
invariant-loop-one g l = record {
  items : l.items.items ≡ take l.start l.initial.items.items ++ drop (l.start + l._one) l.initial.items.items;
  into : l.into.items ≡ l.initial.into.items ++ take l._one (drop l.start l.initial.items.items);
  room : l.initial.items.room ≤ l.items.room + l._one;
  len : vec_len l.into ≡ vec_len l.initial.into + l._one;
  capacity : vec_capacity l.into ≡ vec_capacity l.initial.into;
}
