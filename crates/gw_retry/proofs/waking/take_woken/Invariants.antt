use Rattle.std.proofs.Common.{◌≡◌, ◌≤◌, ◌+◌, ◌++◌, length}
use Rattle.std.specs.Prelude.{vec_len, vec_capacity}
use Rattle.gw_retry.specs.Groups.{AreGrouped}
use Rattle.gw_retry.specs.Waiting.{is_written, woken_of, others_of, AreListed}
use Rattle.gw_retry.proofs.Grouped.{AreLeft}
use Rattle.gw_retry.proofs.waking.take_woken.Given as goal

-- none of the groups in front goes any more: who went, and who still goes of the others, are those who go of all
abbrev pub invariant-loop-place : goal.invariant-loop-place
invariant-loop-place l = record {
  listed : AreListed l.readings l.waiting.items;
  grouped : AreGrouped l.waiting.items;
  left : AreLeft (is_written l.readings.lists l.written) l.place l.waiting.items;
  going : l.going.items ++ woken_of l.readings.lists l.written l.waiting.items ≡
      l.initial.going.items ++ woken_of l.readings.lists l.written l.initial.waiting.items;
  waiting : others_of l.readings.lists l.written l.waiting.items ≡
      others_of l.readings.lists l.written l.initial.waiting.items;
  room : length (woken_of l.readings.lists l.written l.waiting.items) ≤ l.waiting.room;
  capacity : vec_len l.going + length (woken_of l.readings.lists l.written l.waiting.items) ≤
      vec_capacity l.going;
  end : l.place-end ≡ length l.readings.lists;
}
