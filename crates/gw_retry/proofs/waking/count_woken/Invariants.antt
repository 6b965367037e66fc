use Rattle.std.proofs.Common.{◌≡◌, length}
use Rattle.gw_retry.specs.Waiting.{is_written}
use Rattle.gw_retry.proofs.Grouped.{counted}
use Rattle.gw_retry.proofs.waking.count_woken.Given as goal

-- those of the groups in front are counted
abbrev pub invariant-loop-place : goal.invariant-loop-place
invariant-loop-place l = record {
  count : l.count ≡ length (counted (is_written l.readings.lists l.written) l.place l.waiting.items);
  end : l.place-end ≡ length l.readings.lists;
}
