use Rattle.std.proofs.Common.{◌≡◌, ◌≤◌, ◌++◌, length, vec_len, vec_capacity}
use Rattle.std.specs.Vec.Iter.{into_iter_items, into_iter_len}
use Rattle.gw_desk.specs.Ledger.{begun}
use Rattle.gw_desk.specs.Playing.{Follows}
use Rattle.gw_desk.proofs.desk.Desk.play.Given as goal

abbrev pub invariant-loop-event : goal.invariant-loop-event
invariant-loop-event l = record {
  all : l.yielded ++ into_iter_items l.event-iterator ≡ l.fn.events.items;
  left : into_iter_len l.event-iterator ≡ length (into_iter_items l.event-iterator);
  count : vec_len l.replies ≡ length l.yielded;
  room : length l.fn.events.items ≤ vec_capacity l.replies;
  many : length l.legs.items ≡ 16;
  follows : Follows (begun l.fn.self) l.yielded l.replies.items (record { book = l.self; legs = l.legs.items });
}
