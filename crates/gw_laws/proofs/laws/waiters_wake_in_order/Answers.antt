use Rattle.gw_laws.proofs.WaiterLaws.{waiters_keep_their_order, woken_in_order, woken_by_what_is_written}
use Rattle.gw_laws.proofs.GateLaws.{who_waits_is_at_a_test_or_a_gate}
use Rattle.gw_laws.proofs.laws.waiters_wake_in_order.Goals as goal

pub returns : goal.returns
returns c = record {
  places = waiters_keep_their_order;
  turn = woken_in_order;
  woken = woken_by_what_is_written;
  there = who_waits_is_at_a_test_or_a_gate;
}
