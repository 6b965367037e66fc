use Rattle.std.proofs.Common.{◌≡◌, map}
use Rattle.std.specs.VecDeque.{deque_len, deque_capacity}
use Rattle.gw_shared.specs.Lists.{chunk_items}
use Rattle.gw_shared.proofs.edits.share_all.Given as goal

abbrev pub invariant-loop-at : goal.invariant-loop-at
invariant-loop-at g l = record {
  same : map chunk_items l.chunks.items ≡ map chunk_items l.initial.chunks.items;
  capacity : deque_capacity l.chunks ≡ deque_capacity l.initial.chunks;
  len : deque_len l.chunks ≡ deque_len l.initial.chunks;
}
